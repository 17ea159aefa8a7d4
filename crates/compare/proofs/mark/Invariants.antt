-- Before block a every block is marked as it differs, and counted.
use Rattle.compare.specs.Marks.{Marks}
use Rattle.compare.proofs.mark.Given as goal

abbrev pub invariant-loop-a : goal.invariant-loop-a
invariant-loop-a l = Marks l.old l.new l.a l.marks l.count
