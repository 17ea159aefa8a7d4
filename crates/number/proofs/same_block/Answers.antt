-- Equal as std has it is the same as the paper has it.
use mathlib.Core.Path.{◌∙◌}
use Rattle.number.proofs.Blocks.{same_pointwise}
use Rattle.number.proofs.same_block.Goals as goal

pub returns : goal.returns
returns c = c.eq.ensures ∙ same_pointwise _ _
