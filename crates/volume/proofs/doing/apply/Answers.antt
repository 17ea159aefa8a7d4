-- Where deciding refuses nothing is written; where it accepts, every record may be written, and what is written is the overlay of all that the diff names.
use Rattle.paper.proofs.Answers.{both}
use Rattle.record.specs.Heads.{head}
use Rattle.record.proofs.Passing.{hands_back}
use Rattle.volume.proofs.Deciding.{diff_no}
use Rattle.volume.proofs.Applying.{apply_no, apply_may, applied}
use Rattle.volume.proofs.doing.apply.Goals as goal

pub returns-in_err-diff : goal.returns-in_err-diff
returns-in_err-diff c = hands_back _ _ _ _ c.from_residual.ensures.1 (apply_no _ _ _ _ (diff_no _ _ _ _ c.in_err-diff.ensures.says))

pub returns-in_err-done : goal.returns-in_err-done
returns-in_err-done c =
    rw (← c.in_ok-diff.ensures.kept) (hands_back _ _ _ _ c.from_residual-in_err-done.ensures.1 (apply_no _ _ _ _ c.in_err-done.ensures))

pub write_records-requires : goal.write_records-requires
write_records-requires c = rw c.count.ensures (apply_may _ _ _ _ c.in_ok-done.ensures (head c.in_ok-diff.diff.h) c.in_ok-diff.diff.sound)

pub returns : goal.returns
returns c =
    rw (← c.in_ok-diff.ensures.kept)
    (both (applied _ _ _ _ c.in_ok-done.ensures (head c.in_ok-diff.diff.h) _ c.in_ok-diff.diff.sound (rw c.count.ensures at c.write_records.ensures)))
