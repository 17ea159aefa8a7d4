-- The address is the number in the four bytes after the mark.
use Rattle.paper.specs.Diff.{address_of}
use Rattle.record.proofs.block.Block.address_of.Goals as goal

pub returns : goal.returns
unfolding address_of
returns c = c.read.ensures
