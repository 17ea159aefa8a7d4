-- Both bytes are the mark's.
use borrow.Author.Tests.{eq-eqb, ne_eqb}
use Rattle.paper.specs.Number.{opens}
use Rattle.record.proofs.mark.opens.Goals as goal

pub returns-then-s-eq-FIRST : goal.returns-then-s-eq-FIRST
unfolding opens
returns-then-s-eq-FIRST c = rw (eq-eqb _ _ c.if-s-eq-FIRST.true)

pub returns-else-s-eq-FIRST : goal.returns-else-s-eq-FIRST
unfolding opens
returns-else-s-eq-FIRST c = rw (ne_eqb _ _ c.if-s-eq-FIRST.false)
