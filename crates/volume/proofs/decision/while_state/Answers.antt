-- Each field is the one that the definition of that name gives, and the kind is the test's.
use Rattle.paper.specs.Volume.{while_state}
use Rattle.volume.proofs.decision.while_state.Goals as goal

pub returns-then-is_pair_while : goal.returns-then-is_pair_while
unfolding while_state
returns-then-is_pair_while c = rw (← c.is_pair_while.ensures, c.if-is_pair_while.true, c.max-e.ensures)

pub returns-else-is_pair_while : goal.returns-else-is_pair_while
unfolding while_state
returns-else-is_pair_while c = rw (← c.is_pair_while.ensures, c.if-is_pair_while.false, c.max-e.ensures)
