-- A shelf of the code as a shelf of `paper`, and what the check of its entries says.
use Rattle.std.specs.Prelude.{Result, map, replicate}
use Rattle.paper.specs.Limits.{max_places}
use Rattle.paper.specs.Answer.{Said}
use Rattle.paper.specs.Plan as Paper
use Rattle.record.specs.declared.refusal.Refusal.{Refusal}
use Rattle.record.specs.Heads.{head}
use Rattle.record.specs.Refusals.{said}
use Rattle.plan.specs.declared.shelf.Shelf.{Shelf}

abbrev pub shelf : Shelf → Paper.Shelf
shelf s = record { heads = map head s.heads; count = s.count }

abbrev pub empty : Paper.Shelf
empty = record { heads = replicate max_places Paper.blank; count = 0 }

abbrev pub said_entries : Result (Unit {0}) Refusal → Said (Unit {0})
said_entries = said (λ _. tt)
