-- The tests of `exact`, one by one; kind 2 is the pair's alone.
use borrow.Author.Tests.{eq-eqb, ne_eqb}
use Rattle.paper.specs.Volume.{exact}
use Rattle.record.proofs.StateLaws.{pair_by_number}
use Rattle.volume.proofs.decision.is_exact.Goals as goal

pub returns-else-h-s : goal.returns-else-h-s
unfolding exact
returns-else-h-s c = rw (ne_eqb _ _ c.if-h-s.false)

pub returns-then-is_clean : goal.returns-then-is_clean
unfolding exact
returns-then-is_clean c = rw (eq-eqb _ _ c.if-h-s.true, ← c.is_clean.ensures, c.if-is_clean.true)

pub returns-then-eq : goal.returns-then-eq
unfolding exact
returns-then-eq c = rw (eq-eqb _ _ c.if-h-s.true, ← c.is_clean.ensures, c.if-is_clean.false, ← pair_by_number c.args.s.kind, ← c.if-eq.ensures)

pub returns-else-eq : goal.returns-else-eq
unfolding exact
returns-else-eq c = rw (c.if-eq.false, eq-eqb _ _ c.if-h-s.true, ← c.is_clean.ensures, c.if-is_clean.false, ← pair_by_number c.args.s.kind, ← c.if-eq.ensures)
