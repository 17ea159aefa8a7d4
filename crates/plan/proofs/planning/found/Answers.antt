-- The count, then the entries, then the state, then the target, then what the search finds, as the plan's checks have them.
use native.Mathlib.Omega.{arith}
use Rattle.plan.proofs.Answering.{entry_no, state_no, search_says}
use Rattle.plan.proofs.planning.found.Goals as goal

pub returns-in_err-check : goal.returns-in_err-check
returns-in_err-check c = entry_no _ _ _ (omega arith) _ _ c.from_residual.ensures.1 c.in_err-check.ensures

pub returns-in_err-start : goal.returns-in_err-start
returns-in_err-start c =
    state_no _ _ _ (omega arith) c.in_ok-check.ensures _ _ c.from_residual-in_err-start.ensures.1 c.in_err-start.ensures

pub returns : goal.returns
returns c =
    search_says _ _ _ (omega arith) c.in_ok-check.ensures _ c.in_ok-start.ensures _ (omega arith) c.walk.ensures
