-- No place passed by is accepted and marked, so the first that is found is the lowest.
use native.Mathlib.Omega.{arith}
use Rattle.plan.proofs.Leads.{lead_begins, lead_here, lead_on, lead_ends}
use Rattle.plan.proofs.marks.Search.lead.Goals as goal

pub loop-i-init : goal.loop-i-init
loop-i-init c = lead_begins _ _ _

pub returns-then-leads : goal.returns-then-leads
returns-then-leads c = lead_here _ _ _ c.loop-i.i c.loop-i.invariant _ (omega arith) c.leads.ensures c.if-leads.true

pub loop-i-preserved : goal.loop-i-preserved
loop-i-preserved c = lead_on _ _ _ c.loop-i.i c.loop-i.invariant _ (omega arith) c.leads.ensures c.if-leads.false

pub returns : goal.returns
returns c = lead_ends _ _ _ _ c.loop-i.invariant (omega arith)
