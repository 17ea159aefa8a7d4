-- What the image rule says: the number of blocks.
use Rattle.std.specs.Prelude.{ℕ}
use Rattle.std.specs.Prelude.{Result}
use Rattle.paper.specs.Answer.{Said}
use Rattle.record.specs.declared.refusal.Refusal.{Refusal}
use Rattle.record.specs.Refusals.{said}

abbrev pub said_blocks : Result ℕ Refusal → Said ℕ
said_blocks = said (λ m. m)
