-- What the merge said and left is its row.
use Rattle.desk.proofs.Rows.{wrote}
use Rattle.desk.proofs.diffs.minnow_merge.Goals as goal

pub returns : goal.returns
returns c = wrote _ _ _ _ _ _ _ c.merge.ensures.leaves c.merge.ensures.answered c.hand_out.ensures
