-- A compared diff makes a pair, and of any other the test is whether the state was clean.
use Rattle.paper.specs.Volume.{is_pair_while}
use Rattle.volume.proofs.decision.is_pair_while.Goals as goal

pub returns-then-is_compared : goal.returns-then-is_compared
unfolding is_pair_while
returns-then-is_compared c = rw (← c.is_compared.ensures, c.if-is_compared.true)

pub returns-else-is_compared : goal.returns-else-is_compared
unfolding is_pair_while
returns-else-is_compared c = rw (← c.is_compared.ensures, c.if-is_compared.false) c.is_clean.ensures
