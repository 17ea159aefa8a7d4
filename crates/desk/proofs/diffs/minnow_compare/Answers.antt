-- What the comparison said and left is its row.
use Rattle.desk.proofs.Rows.{wrote}
use Rattle.desk.proofs.diffs.minnow_compare.Goals as goal

pub returns : goal.returns
returns c = wrote _ _ _ _ _ _ _ c.compare.ensures.leaves c.compare.ensures.answered c.hand_out.ensures
