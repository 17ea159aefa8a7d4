-- Each turn marks block a by what `same_block` says of it, so that after the last all blocks are marked as they differ, and counted.
use mathlib.Core.Bool.{true, false}
use native.Mathlib.Omega.{arith}
use Rattle.compare.proofs.Marking.{mark_begins, mark_few, mark_on}
use Rattle.compare.proofs.mark.Goals as goal
use Rattle.compare.proofs.mark.Goals.{then-mark, else-mark}

pub loop-a-init : goal.loop-a-init
loop-a-init c = mark_begins _ _ _

pub overflow_add-count : goal.overflow_add-count
overflow_add-count c = omega (arith, mark_few c.loop-a.invariant)

pub loop-a-preserved : goal.loop-a-preserved
loop-a-preserved c = elim c.if-mark.branch [
  | then-mark w ↦ mark_on true c.loop-a.invariant (omega arith) c.same_block.ensures w.if-mark.true (omega arith)
  | else-mark w ↦ mark_on false c.loop-a.invariant (omega arith) c.same_block.ensures w.if-mark.false (omega arith)
]
