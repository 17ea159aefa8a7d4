-- A call's answer as C has it: its number, and what stands where its value goes.
use Rattle.std.specs.Prelude.{ℕ, Result, Ok, Err}
use Rattle.record.specs.declared.refusal.Refusal.{Refusal}
use Rattle.record.specs.Refusals.{number_of}

abbrev pub number_row : {A : Type 0} → A → Result A Refusal → ℕ × A
number_row old (Ok value) = (0, value)
number_row old (Err r) = (number_of r, old)
