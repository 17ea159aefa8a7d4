-- No place passed by is accepted and marked, so the first that is found is the lowest.
use Rattle.record.specs.States.{state}
use Rattle.plan.proofs.Leads.{Leading}
use Rattle.plan.proofs.marks.Search.lead.Given as goal

abbrev pub invariant-loop-i : goal.invariant-loop-i
invariant-loop-i l = Leading l.self.on (state l.s) l.marks l.i
