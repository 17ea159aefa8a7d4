-- What is left to check, from the record at hand on, is the whole answer at every turn.
use Rattle.record.proofs.Walk.{Checking}
use Rattle.record.proofs.records.check_records.Given as goal

abbrev pub invariant-loop-i : goal.invariant-loop-i
invariant-loop-i l = Checking l.d l.n l.i l.low
