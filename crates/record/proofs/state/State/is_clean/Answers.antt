-- The kind's number is 0 for the settled ones alone, and of those the test is of b against e.
use Rattle.paper.specs.State.{is_clean}
use Rattle.record.proofs.StateLaws.{settled_by_number}
use Rattle.record.proofs.state.State.is_clean.Goals as goal

pub returns-then-eq : goal.returns-then-eq
unfolding is_clean
returns-then-eq c = rw (← settled_by_number c.args.self.kind, ← c.if-eq.ensures)

pub returns-else-eq : goal.returns-else-eq
unfolding is_clean
returns-else-eq c = rw (c.if-eq.false, ← settled_by_number c.args.self.kind, ← c.if-eq.ensures)
