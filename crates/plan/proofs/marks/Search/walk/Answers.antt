-- The places put down so far begin the first list, and a lead that is found has room, since no plan is longer than the shelf.
use mathlib.Core.Path.{sym, ◌∙◌}
use native.Mathlib.Omega.{arith}
use Rattle.plan.proofs.Walks.{Room, walk_starts, walk_stuck, walk_has, walk_steps, walk_arrives}
use Rattle.plan.proofs.marks.Search.walk.Goals as goal
use Rattle.plan.proofs.marks.Search.walk.Goals.{In-Some}

pub loop-marks-init : goal.loop-marks-init
loop-marks-init c = walk_starts _ _ _

pub returns-in_default : goal.returns-in_default
returns-in_default c =
    walk_stuck _ _ _ _ _ _ _ c.loop-marks.invariant c.mark-marks.ensures (sym c.at_target.ensures ∙ c.loop-marks-test.true) (sym c.in_default.ensures)

has : (c : In-Some) → Room c.args.self.now.on c.loop-marks.length c.in-Some.i
has c = walk_has _ _ _ _ _ _ _ c.loop-marks.invariant c.mark-marks.ensures (sym c.at_target.ensures ∙ c.loop-marks-test.true) _ (sym c.in-Some.ensures)

pub offset_bounds-places-length : goal.offset_bounds-places-length
offset_bounds-places-length c = omega (arith, has c)

pub bounds-places-length : goal.bounds-places-length
bounds-places-length c = omega (arith, has c)

pub overflow_add-length : goal.overflow_add-length
overflow_add-length c = omega (arith, has c)

pub offset_bounds-self-i : goal.offset_bounds-self-i
offset_bounds-self-i c = omega (arith, has c)

pub bounds-self-i : goal.bounds-self-i
bounds-self-i c = omega (arith, has (goal.at.bounds-self-i c).In-Some)

pub loop-marks-smaller : goal.loop-marks-smaller
loop-marks-smaller c = omega (arith, has (goal.at.loop-marks-smaller c).In-Some)

pub loop-marks-preserved : goal.loop-marks-preserved
loop-marks-preserved c =
    walk_steps _ _ _ _ _ _ _ c.loop-marks.invariant c.mark-marks.ensures (sym c.at_target.ensures ∙ c.loop-marks-test.true) _ (sym c.in-Some.ensures)
    _ (c.state-s.ensures ∙ c.done_state.ensures) c.args.self.now.few

pub returns : goal.returns
returns c = walk_arrives _ _ _ _ _ _ _ c.loop-marks.invariant c.mark-marks.ensures (sym c.at_target.ensures ∙ c.loop-marks-test.false) _ c.kept.ensures
