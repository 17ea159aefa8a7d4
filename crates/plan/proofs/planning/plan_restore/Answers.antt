-- What is found is the answer, and a refusal is laid out.
use Rattle.plan.proofs.Answering.{given_answers}
use Rattle.plan.proofs.planning.plan_restore.Goals as goal

pub returns : goal.returns
returns c = given_answers _ _ _ _ _ c.found.ensures c.unwrap_or_else.ensures
