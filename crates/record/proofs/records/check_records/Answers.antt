-- What is left to check, from the record at hand on, is the whole answer at every turn.
use mathlib.Core.Path.{◌∙◌}
use native.Mathlib.Omega.{arith}
use Rattle.record.proofs.Passing.{hands_on}
use Rattle.record.proofs.Walk.{small_address, check_goes_on, check_refuses, check_ends}
use Rattle.record.proofs.records.check_records.Goals as goal

pub overflow_add-low : goal.overflow_add-low
overflow_add-low c = let small = small_address _ _ _ _ _ c.loop-i.invariant c.read.ensures _ c.in_ok-low.was in omega (arith, small)

pub loop-i-preserved : goal.loop-i-preserved
loop-i-preserved c = check_goes_on _ _ _ _ _ c.loop-i.invariant c.read.ensures _ (omega arith) c.in_ok-low.was

pub returns-in_err-low : goal.returns-in_err-low
returns-in_err-low c = hands_on _ _ _ c.from_residual.ensures.1 ∙ check_refuses _ _ _ _ _ c.loop-i.invariant c.read.ensures _ (omega arith) c.in_err-low.was

pub returns : goal.returns
returns c = check_ends _ _ _ _ c.loop-i.invariant (omega arith)
