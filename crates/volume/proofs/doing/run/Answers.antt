-- Each check that refuses leaves the image; where all pass, the records from i up to the run's end may be written, and their overlay is what is left.
use mathlib.Core.Path.{sym}
use native.Mathlib.Omega.{arith}
use Rattle.paper.proofs.Answers.{refused, both}
use Rattle.record.specs.Heads.{head}
use Rattle.record.proofs.Passing.{hands_back, fit_inside}
use Rattle.volume.proofs.Applying.{run_checked, run_fits, start_no, ends, ran}
use Rattle.volume.proofs.doing.run.Goals as goal

pub returns-in_err-diff : goal.returns-in_err-diff
returns-in_err-diff c = hands_back _ _ _ _ c.from_residual.ensures.1 (run_checked _ _ _ _ _ c.in_err-diff.ensures.says)

pub returns-in_err-_blocks : goal.returns-in_err-_blocks
returns-in_err-_blocks c =
    rw (← c.in_ok-diff.ensures.kept)
    (hands_back _ _ _ _ c.from_residual-in_err-_blocks.ensures.1 (run_fits _ _ _ _ (head c.in_ok-diff.diff.h) c.in_ok-diff.diff.sound _ c.in_err-_blocks.ensures))

pub returns-then-i-n : goal.returns-then-i-n
returns-then-i-n c =
    let no = start_no _ _ _ _ (head c.in_ok-diff.diff.h) c.in_ok-diff.diff.sound _ c.in_ok-_blocks.ensures (omega (arith, c.count-n.ensures)) in
    rw (← c.in_ok-diff.ensures.kept) (both (refused _ (sym no)))

pub write_records-requires : goal.write_records-requires
write_records-requires c =
    record { order = omega arith; within = omega (arith, c.min.ensures, c.count-n.ensures); inside = fit_inside _ _ _ _ (sym c.in_ok-_blocks.ensures) }

pub returns : goal.returns
returns c =
    rw (← c.in_ok-diff.ensures.kept)
    (both
    (ran _ _ _ _ (head c.in_ok-diff.diff.h) c.in_ok-diff.diff.sound _ c.in_ok-_blocks.ensures (omega (arith, c.count-n.ensures)) _ (ends _ _ c.min.ensures c.count-n.ensures) _
    c.write_records.ensures))
