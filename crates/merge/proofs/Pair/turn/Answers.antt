-- Both cursors go past the address, which is named, and on to the lower of the next two: nothing between is named.
use Rattle.merge.proofs.Walks.{turns}
use Rattle.merge.proofs.Pair.turn.Goals as goal

pub returns : goal.returns
returns c = search turns
