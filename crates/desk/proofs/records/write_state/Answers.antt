-- No state has a kind above 2, and every other value is written or refused as `State::write` says.
use Rattle.paper.proofs.Answers.{both}
use Rattle.record.proofs.Passing.{hands_back}
use Rattle.record.proofs.StateLaws.{kind_read}
use Rattle.desk.proofs.Rows.{kind_no}
use Rattle.desk.proofs.records.write_state.Goals as goal

pub returns : goal.returns
returns c = rw (← kind_read _ _ c.in_ok-kind.ensures) (both (c.write.ensures.answered, c.write.ensures.leaves))

pub returns-in_err-kind : goal.returns-in_err-kind
returns-in_err-kind c = hands_back _ _ _ _ c.from_residual.ensures.1 (kind_no _ _ _ c.in_err-kind.ensures)
