-- The state after the place is at the target, or its lowest lead says whether a marked place follows.
use mathlib.Core.Path.{◌∙◌}
use Rattle.record.specs.States.{state}
use Rattle.plan.proofs.Leads.{mark_there, mark_by_lead}
use Rattle.plan.proofs.marks.Search.would_mark.Goals as goal

pub returns-then-at_target : goal.returns-then-at_target
returns-then-at_target c =
    let a = c.args in
    mark_there a.self.now.on (state a.self.now.start) _ _ a.marks.now a.j (c.state-s.ensures ∙ c.done_state.ensures) _ c.at_target.ensures c.if-at_target.true

pub returns-else-at_target : goal.returns-else-at_target
returns-else-at_target c =
    let a = c.args in
    mark_by_lead a.self.now.on (state a.self.now.start) _ _ a.marks.now a.j (c.state-s.ensures ∙ c.done_state.ensures) _ c.at_target.ensures c.if-at_target.false
    _ c.lead.ensures _ c.is_some.ensures
