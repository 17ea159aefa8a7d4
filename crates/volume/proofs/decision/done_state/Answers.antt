-- Each field is the one that the definition of that name gives.
use Rattle.paper.specs.Volume.{done_state}
use Rattle.volume.proofs.decision.done_state.Goals as goal

pub returns : goal.returns
unfolding done_state
returns c = rw c.max.ensures
