-- One check after another in 01's order; where none refuses, the head and then the records are put, and nothing before.
use mathlib.Core.Path.{sym}
use native.Mathlib.Omega.{arith}
use Rattle.paper.proofs.Answers.{refused, both}
use Rattle.record.specs.Heads.{head}
use Rattle.merge.specs.declared.Pair.{Pair}
use Rattle.record.proofs.Passing.{hands_back}
use Rattle.merge.proofs.Answers.{first_no, second_no, heads_no, no_room, all_written}
use Rattle.merge.proofs.merge.Goals as goal

pub returns-in_err-first : goal.returns-in_err-first
returns-in_err-first c = hands_back _ _ _ _ c.from_residual.ensures.1 (sym (first_no _ _ _ _ (sym c.in_err-first.ensures.says)))

pub returns-in_err-second : goal.returns-in_err-second
returns-in_err-second c =
    hands_back _ _ _ _ c.from_residual-in_err-second.ensures.1 (sym (second_no _ _ _ _ _ (sym c.in_ok-first.ensures.says) (sym c.in_err-second.ensures.says)))

pub returns-in_err-h : goal.returns-in_err-h
returns-in_err-h c =
    let p : Pair = record { first = c.in_ok-first.first; second = c.in_ok-second.second } in
    hands_back _ _ _ _ c.from_residual-in_err-h.ensures.1 (sym (heads_no p c.in_ok-first.ensures.kept c.in_ok-second.ensures.kept _ _ (sym c.in_err-h.ensures)))

pub returns-then-out-size : goal.returns-then-out-size
returns-then-out-size c =
    let p : Pair = record { first = c.in_ok-first.first; second = c.in_ok-second.second } in
    both (refused _ (no_room p c.in_ok-first.ensures.kept c.in_ok-second.ensures.kept _ (sym c.in_ok-h.ensures) _ c.count_records-n.ensures.0 _ (omega (arith, c.if-out-size.true))))

pub returns : goal.returns
returns c =
    let p : Pair = record { first = c.in_ok-first.first; second = c.in_ok-second.second } in
    both (all_written p c.in_ok-first.ensures.kept c.in_ok-second.ensures.kept (head c.in_ok-h.h) (sym c.in_ok-h.ensures) _ c.count_records-n.ensures.0 _ _ _
    (omega (arith, c.if-out-size.false)) c.write.ensures c.write_records.ensures)
