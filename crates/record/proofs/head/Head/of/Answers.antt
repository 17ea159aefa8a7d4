-- Each field is read from the bytes where the paper has it.
use Rattle.paper.specs.Diff.{head_of}
use Rattle.record.proofs.head.Head.of.Goals as goal

pub returns : goal.returns
unfolding head_of
returns c = rw (c.read.ensures, c.read-2.ensures, c.read-3.ensures)
