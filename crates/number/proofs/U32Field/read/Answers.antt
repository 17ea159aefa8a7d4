-- The bytes that are read are those of the field.
use mathlib.Core.Path.{◌∙◌}
use Rattle.std.proofs.lemmas.Result.{MatchResult-at_ok}
use Rattle.number.proofs.Fields.{read_4, part_length, part_field}
use Rattle.number.proofs.U32Field.read.Goals as goal

pub returns : goal.returns
returns c =
    let whole = MatchResult-at_ok _ _ _ c.unwrap.ensures c.try_into.ensures.1 in
    let part = c.args in
    c.from_le_bytes.ensures ∙ read_4 _ (part_length part.s.now _ part.at 4 c.requires whole.same) ∙ part_field part.s.now _ part.at 4 whole.same
