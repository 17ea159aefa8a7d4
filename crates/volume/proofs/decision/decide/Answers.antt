-- The diff is checked first.
use Rattle.paper.specs.Volume.{decide}
use Rattle.record.proofs.Passing.{stops}
use Rattle.volume.proofs.decision.decide.Goals as goal

pub returns-in_err-diff : goal.returns-in_err-diff
unfolding decide
returns-in_err-diff c = stops _ _ _ _ _ c.from_residual.ensures.1 c.in_err-diff.ensures.says
