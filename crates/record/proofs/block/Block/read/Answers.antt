-- The mark, and then the address against its two bounds: each return is one answer of the record's check.
use mathlib.Core.Path.{sym, ◌∙◌}
use native.Mathlib.Omega.{arith}
use Rattle.paper.proofs.Check.{record_passes}
use Rattle.record.proofs.Checks.{record_unmarked, record_low}
use Rattle.record.proofs.block.Block.read.Goals as goal

pub returns-then-not-opens : goal.returns-then-not-opens
returns-then-not-opens c = sym (record_unmarked _ _ (sym c.opens.ensures ∙ c.if-not-opens.true))

pub returns-then-address-low : goal.returns-then-address-low
returns-then-address-low c =
    sym (record_low _ _ (sym c.opens.ensures ∙ c.if-not-opens.false) (omega arith))

pub returns : goal.returns
returns c =
    rw c.address_of-address.ensures (sym (record_passes (record { mark = sym c.opens.ensures ∙ c.if-not-opens.false; small = omega arith; above = omega arith })))
