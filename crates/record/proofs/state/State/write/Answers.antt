-- `State::write` meets its contract: the checks are those of `write_state`, in its order, and the stores and puts that follow are one put of the state's bytes where `out` opens.
use mathlib.Core.Path.{sym, ◌∙◌}
use native.Mathlib.Omega.{arith}
use lib.ListN.{length-set}
use Rattle.paper.proofs.Answers.{refused, both}
use Rattle.record.proofs.StateLaws.{write_bad, write_answers, write_over}
use Rattle.record.proofs.state.State.write.Goals as goal

pub returns-then-is_bad : goal.returns-then-is_bad
returns-then-is_bad c = both (refused _ (write_bad _ _ (sym c.is_bad.ensures ∙ c.if-is_bad.true)))

pub bounds-out-1 : goal.bounds-out-1
bounds-out-1 c = simp length-set (omega arith)

pub bounds-out-2 : goal.bounds-out-2
bounds-out-2 c = simp length-set (omega arith)

pub bounds-out-3 : goal.bounds-out-3
bounds-out-3 c = simp length-set (omega arith)

pub write-requires : goal.write-requires
write-requires c = simp length-set (omega arith)

pub write-requires-2 : goal.write-requires-2
write-requires-2 c = omega (arith, simp length-set at c.write.auto.s)

pub write-requires-3 : goal.write-requires-3
write-requires-3 c =
    omega (arith, simp length-set at c.write.auto.s, c.write-2.auto.s)

pub returns : goal.returns
returns c =
    let good = sym c.is_bad.ensures ∙ c.if-is_bad.false in
    both (sym (write_answers _ _ good c.if-out-lt-SIZE.false), write_over _ c.number.result _ c.write.new.s c.write-2.new.s c.write-3.new.s good c.if-out-lt-SIZE.false c.number.ensures c.write.ensures c.write-2.ensures c.write-3.ensures)
