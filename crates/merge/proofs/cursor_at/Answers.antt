-- Up to the last record the address is read, past it END stands: the two cases of `address_at`.
use mathlib.Core.Path.{refl, sym, ◌∙◌}
use native.Mathlib.Omega.{arith}
use Rattle.merge.proofs.Cursors.{at_record, at_end}
use Rattle.merge.proofs.cursor_at.Goals as goal

pub returns-then-i-count : goal.returns-then-i-count
returns-then-i-count c = (refl, c.address-address.ensures.0 ∙ sym (at_record _ _ (omega arith)))

pub returns-else-i-count : goal.returns-else-i-count
returns-else-i-count c = (refl, sym (at_end _ _ (omega arith)))
