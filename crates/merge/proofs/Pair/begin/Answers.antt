-- Cursors at the first records of both diffs, and the lower of their addresses: nothing before it is named.
use Rattle.merge.proofs.Walks.{begins}
use Rattle.merge.proofs.Pair.begin.Goals as goal

pub returns : goal.returns
returns c = search begins
