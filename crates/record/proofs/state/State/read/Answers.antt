-- `State::read` meets its contract: each check refuses what `bad_record` refuses, and past them all the values that were read are the record's own.
use mathlib.Core.Path.{sym, ◌∙◌}
use native.Mathlib.Omega.{arith}
use borrow.Author.Tests.{eq-eqb, ne_eqb}
use Rattle.paper.specs.State.{bad_record, read_state}
use Rattle.record.proofs.StateLaws.{kind_read, read_bad, read_sound}
use Rattle.record.proofs.state.State.read.Goals as goal

pub returns-then-r-ne-SIZE : goal.returns-then-r-ne-SIZE
unfolding read_state bad_record
returns-then-r-ne-SIZE c = rw (ne_eqb _ _ c.if-r-ne-SIZE.true)

pub returns-then-not-opens : goal.returns-then-not-opens
unfolding read_state bad_record
returns-then-not-opens c = rw (eq-eqb _ _ c.if-r-ne-SIZE.false, ← c.opens.ensures, c.if-not-opens.true)

pub returns-then-r-ne0 : goal.returns-then-r-ne0
unfolding read_state bad_record
returns-then-r-ne0 c =
    rw (eq-eqb _ _ c.if-r-ne-SIZE.false, ← c.opens.ensures, c.if-not-opens.false, ne_eqb _ _ c.if-r-ne0.true)

pub returns-then-is_bad : goal.returns-then-is_bad
returns-then-is_bad c =
    sym (read_bad _ (omega arith) (sym c.opens.ensures ∙ c.if-not-opens.false) (omega arith) _ (kind_read _ _ c.in_ok-try_from.ensures) c.read.ensures c.read-2.ensures c.read-3.ensures (sym c.is_bad.ensures ∙ c.if-is_bad.true))

pub returns : goal.returns
returns c =
    sym (read_sound _ (omega arith) (sym c.opens.ensures ∙ c.if-not-opens.false) (omega arith) _ (kind_read _ _ c.in_ok-try_from.ensures) c.read.ensures c.read-2.ensures c.read-3.ensures (sym c.is_bad.ensures ∙ c.if-is_bad.false))
