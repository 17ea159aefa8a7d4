-- 01, "Moves of a volume": a merge of two log diffs that touch.
use Rattle.std.specs.Prelude.{ℕ, List, not, ◌||◌, eqb}
use Rattle.std.proofs.Math.Option.{Option, none, some}
use Rattle.paper.specs.Answer.{Said, answer, guard, ◌then◌, Wrote, output, Compared, Apart}
use Rattle.paper.specs.Image.{Map}
use Rattle.paper.specs.Diff.{Head, log_head, is_compared, check, named, written}

-- "Merging gives the second diff's block where it names one, else the first's."
abbrev pub second_else_first : Option (List ℕ) → Option (List ℕ) → Option (List ℕ)
second_else_first (some c) first = some c
second_else_first none first = first

unfoldable pub merged : Map → Map → Map
merged first second a = second_else_first (second a) (first a)

-- Compared: "either diff of a merge is compared". Apart: "the first's q is not the second's p".
-- "A merge's head is log, the first's p, the second's q." `written` fills in the count.
unfoldable pub merge_heads : Head → Head → Said Head
merge_heads h₀ h₁ =
    guard (is_compared h₀ || is_compared h₁) Compared
    (guard (not (eqb h₀.q h₁.p)) Apart
    (answer (log_head h₀.p h₁.q)))

-- "A merge checks first diff, second diff, 15, 16, 17."
unfoldable pub merge : List ℕ → List ℕ → ℕ → Said (Wrote ℕ)
merge d₀ d₁ room =
    check d₀
    then λ h₀. check d₁
    then λ h₁. merge_heads h₀ h₁
    then λ h. output (written h (merged (named d₀) (named d₁))) room
