-- What a check of one block record says: its address.
use Rattle.std.specs.Prelude.{ℕ}
use Rattle.std.specs.Prelude.{Result}
use Rattle.paper.specs.Answer.{Said}
use Rattle.record.specs.declared.block.Block.{Block}
use Rattle.record.specs.declared.refusal.Refusal.{Refusal}
use Rattle.record.specs.Refusals.{said}

abbrev pub said_address : Result Block Refusal → Said ℕ
said_address = said (λ b. b.address)
