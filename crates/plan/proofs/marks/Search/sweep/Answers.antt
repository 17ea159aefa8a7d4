-- A place that it marks leads to the target, and a place that it leaves is marked already or leads nowhere yet.
use mathlib.Core.Path.{◌≡◌, sym, ◌∙◌}
use mathlib.Core.Bool.{true≢false}
use native.Mathlib.Omega.{arith}
use lib.ListN.{length}
use borrow.Author.Rules.{rules}
use Rattle.paper.proofs.Planner.{sweep_marks}
use Rattle.plan.proofs.marks.Search.sweep.Goals as goal

pub loop-j-preserved-then-would_mark : goal.loop-j-preserved-then-would_mark
loop-j-preserved-then-would_mark c =
    let so_far = c.loop-j.invariant.swept in
    let full : length c.args.old ≡ 96 = search rules in
    record {
      swept = sweep_marks so_far c.loop-j-test.true (omega (arith, so_far.within, so_far.size))
          c.if-not-marks-j.true (sym c.would_mark.ensures ∙ c.if-would_mark.true);
      same = λ f. absurd (true≢false f);
    }
