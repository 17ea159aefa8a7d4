-- What is left to look through is the whole answer at every turn.
use Rattle.record.proofs.Walk.{Seeking}
use Rattle.record.proofs.records.Checked.find.Given as goal

abbrev pub invariant-loop-i : goal.invariant-loop-i
invariant-loop-i l = Seeking l.self.d.now l.a l.self.h.n l.i
