-- What the plan says is refused, has no room, or is laid out.
use mathlib.Core.Path.{◌≡◌}
use native.Mathlib.Omega.{arith}
use lib.ListN.{length, length-take}
use borrow.Author.Rules.{rules}
use Rattle.desk.proofs.Planning.{plan_short, plan_no, plan_yes}
use Rattle.desk.proofs.restores.plan_on.Goals as goal

pub returns-then-places-lt-PLACES : goal.returns-then-places-lt-PLACES
returns-then-places-lt-PLACES c = plan_short _ _ _ _ _ _ _ _ c.requires c.plan_restore-plan.ensures c.in-Ok.is _ c.if-places-lt-PLACES.true c.number-then-places-lt-PLACES.ensures

pub copy_from_slice-requires : goal.copy_from_slice-requires
copy_from_slice-requires c =
    let full : length c.plan_restore-plan.result.places ≡ 96 = search rules in
    rw full (simp length-take (omega arith))

pub returns-in-Err : goal.returns-in-Err
returns-in-Err c = plan_no _ _ _ _ _ _ _ _ c.requires c.plan_restore-plan.ensures _ _ c.in-Err.is c.number.ensures

pub returns-else-places-lt-PLACES : goal.returns-else-places-lt-PLACES
returns-else-places-lt-PLACES c =
    rw c.copy_from_slice.ensures.after (plan_yes _ _ _ _ _ _ _ _ c.requires c.plan_restore-plan.ensures c.in-Ok.is _ c.if-places-lt-PLACES.false (cc))
