-- `Reading` holds before each entry.
use Rattle.desk.proofs.Shelving.{Reading}
use Rattle.desk.proofs.restores.shelve.Given as goal

abbrev pub invariant-loop-i : goal.invariant-loop-i
invariant-loop-i l = Reading l.heads l.count l.on l.i
