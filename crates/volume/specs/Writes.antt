-- What writing records asks, and what a run answers.
use Rattle.std.specs.Prelude.{ℕ, ◌/◌, ◌≤◌, ◌≡◌, List, false, length, Result}
use Rattle.paper.specs.Answer.{Said}
use Rattle.paper.specs.Diff.{Head, names_outside}
use Rattle.record.specs.declared.refusal.Refusal.{Refusal}
use Rattle.record.specs.Refusals.{said}

-- records i up to `end` of d may be written into img
pub record Writable (d : List ℕ) (h : Head) (i end : ℕ) (img : List ℕ) : Type 0 where
  pub order : i ≤ end
  pub within : end ≤ h.n
  pub inside : names_outside d 0 h.n (length img / 512) ≡ false

abbrev pub said_run : Result ℕ Refusal → Said ℕ
said_run = said (λ i. i)
