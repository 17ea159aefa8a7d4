-- Then the state, the image and Outside, and last the decision on values.
use mathlib.Core.Path.{sym, ◌∙◌}
use Rattle.paper.specs.Volume.{decide}
use Rattle.record.specs.Heads.{head}
use Rattle.record.specs.States.{state}
use Rattle.record.proofs.Passing.{stops, goes_on}
use Rattle.volume.proofs.Deciding.{then_image}
use Rattle.volume.proofs.decision.decide_whole.Goals as goal

pub returns-in_err-s : goal.returns-in_err-s
unfolding decide
returns-in_err-s c = stops _ _ _ _ _ c.from_residual.ensures.1 c.in_err-s.ensures ∙ sym (goes_on _ _ _ (sym c.args.diff.sound))

pub returns-in_err-_blocks : goal.returns-in_err-_blocks
returns-in_err-_blocks c =
    stops _ _ _ _ _ c.from_residual-in_err-_blocks.ensures.1 c.in_err-_blocks.ensures
    ∙ sym (then_image _ _ _ (head c.args.diff.h) (state c.in_ok-s.s) c.args.diff.sound (sym c.in_ok-s.ensures))

pub returns : goal.returns
returns c =
    c.decide_on.ensures
    ∙ sym (then_image _ _ _ (head c.args.diff.h) (state c.in_ok-s.s) c.args.diff.sound (sym c.in_ok-s.ensures) ∙ goes_on _ _ _ c.in_ok-_blocks.ensures)
