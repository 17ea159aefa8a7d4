-- The tests of rules 11 to 14 in their order, and where all are passed the two further states.
use mathlib.Core.Path.{◌≡◌}
use mathlib.Core.Bool.{false}
use Rattle.record.specs.Heads.{head}
use Rattle.record.specs.States.{state}
use Rattle.paper.specs.Volume.{not_exact}
use Rattle.volume.proofs.Deciding.{behind_no, gap_no, short_no, all_passed}
use Rattle.volume.proofs.decision.decide_on.Goals as goal
use Rattle.volume.proofs.decision.decide_on.Goals.{else-is_compared-via-then-is_compared+else-not-is_exact, else-is_compared-via-else-is_compared}

pub returns-then-h-s : goal.returns-then-h-s
returns-then-h-s c = behind_no _ _ c.if-h-s.true

pub returns-then-h-s-2 : goal.returns-then-h-s-2
returns-then-h-s-2 c = gap_no _ _ c.if-h-s.false c.if-h-s-2.true

pub returns-then-h-s-3 : goal.returns-then-h-s-3
returns-then-h-s-3 c =
    short_no _ _ c.if-h-s.false c.if-h-s-2.false c.if-h-s-3.true

pub returns : goal.returns
returns c =
    let passes : not_exact (head c.args.h) (state c.args.s) ≡ false =
    elim c.else-is_compared.branch [
      | else-is_compared-via-then-is_compared+else-not-is_exact w ↦ rw (← c.is_compared.ensures, w.if-is_compared.true, ← w.is_exact.ensures, w.if-not-is_exact.false)
      | else-is_compared-via-else-is_compared w ↦ rw (← c.is_compared.ensures, w.if-is_compared.false)
    ] in
    all_passed _ _ c.if-h-s.false c.if-h-s-2.false c.if-h-s-3.false passes c.while_state.ensures c.done_state.ensures
