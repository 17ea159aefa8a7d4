-- The bytes that are written are those that spell the number.
use mathlib.Core.Path.{◌∙◌}
use Rattle.paper.proofs.Numbers.{spelled_length}
use Rattle.number.proofs.Fields.{spell_4}
use Rattle.number.proofs.Puts.{part_put}
use Rattle.number.proofs.U32Field.write.Goals as goal

pub returns : goal.returns
returns c =
    part_put c.args.at 4 c.args.s.now _ _ (c.copy_from_slice.ensures.after ∙ c.to_le_bytes.ensures ∙ spell_4 c.args.self) (spelled_length 4 c.args.self)
