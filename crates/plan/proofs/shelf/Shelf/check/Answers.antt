-- The entries that are left say what all of them say, and each turn takes one off.
use mathlib.Core.Path.{◌∙◌}
use native.Mathlib.Omega.{arith}
use Rattle.record.proofs.Passing.{hands_on}
use Rattle.plan.proofs.Entries.{entries_begin, entry_passes, entry_refused, entries_end}
use Rattle.plan.proofs.shelf.Shelf.check.Goals as goal

pub loop-h-init : goal.loop-h-init
loop-h-init c = entries_begin _

pub loop-h-preserved : goal.loop-h-preserved
loop-h-preserved c = entry_passes c.args.self c.loop-h.h-index c.loop-h.invariant _ (omega arith) c.in_ok-check.ensures

pub returns-in_err-check : goal.returns-in_err-check
returns-in_err-check c =
    hands_on _ _ _ c.from_residual.ensures.1 ∙ entry_refused c.args.self c.loop-h.h-index c.loop-h.invariant _ (omega arith) c.in_err-check.ensures

pub returns : goal.returns
returns c = entries_end _ _ c.loop-h.invariant (omega arith)
