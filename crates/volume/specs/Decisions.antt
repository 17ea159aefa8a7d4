-- While, Done and a decision of the code as those of `paper`.
use Rattle.std.specs.Prelude.{Result}
use Rattle.paper.specs.Answer.{Said}
use Rattle.paper.specs.State as Paper
use Rattle.paper.specs.Volume.{Further}
use Rattle.record.specs.declared.refusal.Refusal.{Refusal}
use Rattle.record.specs.Refusals.{said}
use Rattle.record.specs.States.{kind_number}
use Rattle.volume.specs.declared.decision.While.{While}
use Rattle.volume.specs.declared.decision.Done.{Done}

abbrev pub while : While → Paper.State
while w = record { kind = kind_number w.kind; b = w.b; t = w.t; e = w.e }

abbrev pub done : Done → Paper.State
done d = record { kind = kind_number d.kind; b = d.b; t = d.t; e = d.e }

-- both states of an accepted apply
abbrev pub further : While × Done → Further
further b = record { while = while b.0; done = done b.1 }

abbrev pub said_decision : Result (While × Done) Refusal → Said Further
said_decision = said further

-- what an apply answers: Done
abbrev pub said_applied : Result Done Refusal → Said Paper.State
said_applied = said done
