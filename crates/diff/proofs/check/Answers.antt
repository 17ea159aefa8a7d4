-- Each return is one case of the definition: the head's refusal, the length's two, that of the records, and the head where all pass.
use mathlib.Core.Path.{sym, ◌∙◌}
use native.Mathlib.Omega.{arith}
use Rattle.paper.specs.Diff.{check}
use Rattle.paper.proofs.Check.{headed}
use Rattle.record.specs.Heads.{head}
use Rattle.record.proofs.Passing.{hands_on, stops}
use Rattle.diff.proofs.Answers.{too_short, too_long, record_no, all_sound}
use Rattle.diff.proofs.check.Goals as goal

pub returns-in_err-h : goal.returns-in_err-h
unfolding check
returns-in_err-h c = stops _ _ _ _ _ c.from_residual.ensures.1 c.in_err-h.ensures

pub returns-then-d-size : goal.returns-then-d-size
returns-then-d-size c = too_short _ (head c.in_ok-h.h) (sym c.in_ok-h.ensures) c.if-d-size.true

pub returns-then-d-size-2 : goal.returns-then-d-size-2
returns-then-d-size-2 c = too_long _ (head c.in_ok-h.h) (sym c.in_ok-h.ensures) c.if-d-size-2.true

pub check_records-requires : goal.check_records-requires
check_records-requires c =
    let few = (headed {h = head c.in_ok-h.h} (sym c.in_ok-h.ensures)).few in
    omega (arith, few, c.if-d-size-2.false, c.if-d-size.false)

pub returns-in_err-check_records : goal.returns-in_err-check_records
returns-in_err-check_records c =
    hands_on _ _ _ c.from_residual-in_err-check_records.ensures.1
    ∙ record_no _ (head c.in_ok-h.h) (sym c.in_ok-h.ensures) _ c.if-d-size.false c.if-d-size-2.false (sym c.in_err-check_records.ensures)

pub returns : goal.returns
returns c =
    all_sound _ (head c.in_ok-h.h) (sym c.in_ok-h.ensures) c.if-d-size.false c.if-d-size-2.false (sym c.in_ok-check_records.ensures)
