-- A head of the code as a head of `paper`, and what a check of one says.
use Rattle.std.specs.Prelude.{Result}
use Rattle.paper.specs.Answer as Answer
use Rattle.paper.specs.Diff as Diff
use Rattle.record.specs.declared.head.Head.{Head}
use Rattle.record.specs.declared.refusal.Refusal.{Refusal}
use Rattle.record.specs.Refusals.{said}

abbrev pub head : Head → Diff.Head
head h = record { kind = h.kind; spare = h.spare; p = h.p; q = h.q; n = h.n }

abbrev pub said_head : Result Head Refusal → Answer.Said Diff.Head
said_head = said head
