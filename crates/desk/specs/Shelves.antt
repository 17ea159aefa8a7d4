-- A shelf that crosses as its heads' bytes back to back with a count, and a plan over it.
use Rattle.std.specs.Prelude.{ℕ, zero, suc, ◌-◌, ◌*◌, ◌≡◌, List, [], ◌∷◌, ◌++◌, ltb, length, drop, replicate, Result}
use Rattle.paper.specs.Limits.{max_places, head_size}
use Rattle.paper.specs.Answer.{Said, answer, refuse, guard, ◌then◌, ShelfFull, NoRoom}
use Rattle.paper.specs.Diff.{Head, read_head}
use Rattle.paper.specs.Plan as Paper
use Rattle.paper.specs.Plan.{PlanSays, blank}
use Rattle.record.specs.declared.refusal.Refusal.{Refusal}
use Rattle.record.specs.Refusals as Refusals
use Rattle.plan.specs.declared.shelf.Shelf.{Shelf}
use Rattle.plan.specs.Shelves.{shelf}

-- k entries from place i on, each read as a diff's head is: "under 24 bytes, mark, BadHead, TooMany"
unfoldable pub read_entries : List ℕ → ℕ → ℕ → Said (List Head)
read_entries heads i zero = answer []
read_entries heads i (suc k) = read_head (drop (head_size * i) heads) then λ h. read_entries heads (suc i) k then λ hs. answer (h ∷ hs)

-- "A plan checks 18, then each entry in shelf order". Bytes past the count's heads have no part in it: places past the count are blank.
unfoldable pub read_shelf : List ℕ → ℕ → Said Paper.Shelf
read_shelf heads count =
    guard (ltb max_places count) ShelfFull
    (read_entries heads 0 count then λ hs. answer (record { heads = hs ++ replicate (max_places - count) blank; count = count }))

-- what the code's reader of a shelf says
abbrev pub said_shelf : Result Shelf Refusal → Said Paper.Shelf
said_shelf = Refusals.said shelf

-- what a plan over such a shelf says, but for NoRoom
pub data Says (heads : List ℕ) (count : ℕ) (saved : List ℕ) (target : ℕ) : Said (List ℕ) → Type 0 where
  unread : {k : ℕ} → read_shelf heads count ≡ refuse k → Says heads count saved target (refuse k)
  planned : {on : Paper.Shelf} {said : Said (List ℕ)} → read_shelf heads count ≡ answer on → PlanSays on saved target said
      → Says heads count saved target said

-- "The answer has a length and a fixed number of places; those past the length hold 0."
abbrev pub plan_row : List ℕ → ℕ → Said (List ℕ) → ℕ × List ℕ × ℕ
plan_row old size (answer list) = (0, list ++ replicate (max_places - length list) 0 ++ drop max_places old, length list)
plan_row old size (refuse k) = (k, old, size)

-- what `minnow_plan` promises: its answer r, and the places and the list's length that it leaves; NoRoom, checked last, where fewer than 96 places are lent
pub record Restores (heads : List ℕ) (count : ℕ) (saved : List ℕ) (target : ℕ) (old : List ℕ) (size₀ : ℕ) (r : ℕ) (new : List ℕ) (size₁ : ℕ) : Type 0 where
  pub said : Said (List ℕ)
  pub right : Says heads count saved target said
  pub row : (r, new, size₁) ≡ plan_row old size₀ (said then λ list. guard (ltb (length old) max_places) NoRoom (answer list))
