-- What writing said and left is its row.
use Rattle.desk.proofs.Rows.{wrote}
use Rattle.desk.proofs.records.minnow_write_state.Goals as goal

pub returns : goal.returns
returns c = wrote _ _ _ _ _ _ _ c.write_state.ensures.leaves c.write_state.ensures.answered c.hand_out.ensures
