-- What the lag answers.
use Rattle.std.specs.Prelude.{ℤ, Result}
use Rattle.paper.specs.Answer.{Said}
use Rattle.record.specs.declared.refusal.Refusal.{Refusal}
use Rattle.record.specs.Refusals.{said}

abbrev pub said_lag : Result ℤ Refusal → Said ℤ
said_lag = said (λ n. n)
