-- What the check of the records says, where a block's record is, and whether an image has the blocks that are named.
use Rattle.std.specs.Prelude.{ℕ, List, Option, Some, None}
use Rattle.std.specs.Prelude.{Result}
use Rattle.std.proofs.Math.Option as Math
use Rattle.paper.specs.Answer.{Said, answer, guard, ◌then◌, Outside}
use Rattle.paper.specs.Image.{check_image}
use Rattle.paper.specs.Diff.{names_outside}
use Rattle.record.specs.declared.refusal.Refusal.{Refusal}
use Rattle.record.specs.Refusals.{said}

abbrev pub said_records : Result (Unit {0}) Refusal → Said (Unit {0})
said_records = said (λ _. tt)

abbrev pub said_found : Option ℕ → Math.Option ℕ
said_found (Some i) = Math.some i
said_found None = Math.none

-- "8, then 9": the number of blocks of an image that has each block that the n records of d name
abbrev pub fits : List ℕ → ℕ → List ℕ → Said ℕ
fits d n img = check_image img then λ m. guard (names_outside d 0 n m) Outside (answer m)
