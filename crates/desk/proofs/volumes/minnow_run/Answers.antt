-- What the run said and left is its row.
use Rattle.desk.proofs.Rows.{wrote}
use Rattle.desk.proofs.volumes.minnow_run.Goals as goal

pub returns : goal.returns
returns c = wrote _ _ _ _ _ _ _ c.run.ensures.leaves c.run.ensures.answered c.hand_out.ensures
