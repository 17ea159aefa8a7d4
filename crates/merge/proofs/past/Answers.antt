-- A cursor ahead of `low` waits; one at `low` goes to the next record, whose address is higher.
use native.Mathlib.Omega.{arith}
use Rattle.merge.proofs.Cursors.{on_waits, on_next}
use Rattle.merge.proofs.past.Goals as goal

pub returns-then-c-low : goal.returns-then-c-low
returns-then-c-low c = on_waits c.requires.0 _ (omega arith) (omega (arith, c.if-c-low.true))

pub returns-else-c-low : goal.returns-else-c-low
returns-else-c-low c = on_next c.requires.0 _ c.requires.1 c.if-c-low.false c.cursor_at.ensures
