-- The entries that are left say what all of them say, and each turn takes one off.
use Rattle.plan.proofs.Entries.{Entering}
use Rattle.plan.proofs.shelf.Shelf.check.Given as goal

abbrev pub invariant-loop-h : goal.invariant-loop-h
invariant-loop-h l = Entering l.fn.self l.h-index
