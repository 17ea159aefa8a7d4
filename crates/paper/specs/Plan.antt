-- 01, "Records" and "Moves of a volume": shelves, and the plan of a restore.
use Rattle.std.specs.Prelude.{ℕ, zero, suc, ◌-◌, ◌≡◌, List, [], ◌∷◌, ◌++◌, Bool, true, false, ◌&&◌, ◌||◌, leb, ltb, eqb, length, get_or, take, replicate}
use Rattle.paper.specs.Limits.{max_gid, max_places}
use Rattle.paper.specs.Answer.{Said, answer, refuse, guard, ◌then◌, ShelfFull, NoChain, BadGid}
use Rattle.paper.specs.Diff.{Head, check_head}
use Rattle.paper.specs.State.{State, is_clean, read_state}
use Rattle.paper.specs.Volume.{decide_on}

-- "a value with a fixed number of places, numbered from 0, and a count of entries". The code's array has 96 places.
pub record Shelf : Type 0 where
  pub heads : List Head
  pub count : ℕ

-- what a place holds that was never filled
abbrev pub blank : Head
blank = record { kind = 0; spare = 0; p = 0; q = 0; n = 0 }

abbrev pub entry : Shelf → ℕ → Head
entry shelf i = get_or shelf.heads i blank

-- "then each entry in shelf order for 3 and then 4": k entries from place i on
unfoldable pub check_entries : Shelf → ℕ → ℕ → Said (Unit {0})
check_entries shelf i zero = answer tt
check_entries shelf i (suc k) = check_head (entry shelf i) then λ _. check_entries shelf (suc i) k

-- "A plan checks 18, then each entry .., then 7, 20, 19": all but 19. ShelfFull: "more than 96 entries".
unfoldable pub plan_checks : Shelf → List ℕ → ℕ → Said State
plan_checks shelf state target =
    guard (ltb max_places shelf.count) ShelfFull
    (check_entries shelf 0 shelf.count
    then λ _. read_state state
    then λ s. guard (ltb max_gid target) BadGid (answer s))

-- "Starting from the state, each diff in turn is accepted by rules 11 to 14 on heads alone and run to Done": the state at the end of a list of places.
-- A list that cannot be followed is no plan, whatever number it gets here.
unfoldable pub follow : Shelf → List ℕ → State → Said State
follow shelf [] s = answer s
follow shelf (i ∷ places) s =
    guard (leb shelf.count i) NoChain
    (decide_on (entry shelf i) s then λ f. follow shelf places f.done)

-- "clean at the target"
unfoldable pub at_target : State → ℕ → Bool
at_target s target = is_clean s && eqb s.b target

-- "the end is clean at the target"
abbrev pub ends_at : Said State → ℕ → Bool
ends_at (answer s) target = at_target s target
ends_at (refuse k) target = false

unfoldable pub is_plan : Shelf → State → ℕ → List ℕ → Bool
is_plan shelf s target places = ends_at (follow shelf places s) target

-- "no list as defined below", of any length
abbrev pub NoPlan : Shelf → State → ℕ → Type 0
NoPlan shelf s target = (places : List ℕ) → is_plan shelf s target places ≡ false

-- "dictionary order of places"
unfoldable pub before : List ℕ → List ℕ → Bool
before [] [] = false
before [] (j ∷ js) = true
before (i ∷ is) [] = false
before (i ∷ is) (j ∷ js) = ltb i j || (eqb i j && before is js)

-- "the first such list in dictionary order of places"
pub record First (shelf : Shelf) (s : State) (target : ℕ) (places : List ℕ) : Type 0 where
  pub plan : is_plan shelf s target places ≡ true
  pub first : (others : List ℕ) → is_plan shelf s target others ≡ true → before others places ≡ false

-- What a plan says: refused by a check; the first list; or NoChain, "no list as defined below".
pub data PlanSays (shelf : Shelf) (state : List ℕ) (target : ℕ) : Said (List ℕ) → Type 0 where
  refused : {k : ℕ} → plan_checks shelf state target ≡ refuse k → PlanSays shelf state target (refuse k)
  listed : {s : State} {places : List ℕ} → plan_checks shelf state target ≡ answer s → First shelf s target places
      → PlanSays shelf state target (answer places)
  no_chain : {s : State} → plan_checks shelf state target ≡ answer s → NoPlan shelf s target → PlanSays shelf state target (refuse NoChain)

-- "The answer has a length and a fixed number of places; those past the length hold 0." It keeps the shelf that it was made for, blank past the count.
pub record Plan : Type 0 where
  pub length : ℕ
  pub places : List ℕ
  pub shelf : Shelf

unfoldable pub kept_shelf : Shelf → Shelf
kept_shelf shelf = record { heads = take shelf.count shelf.heads ++ replicate (max_places - shelf.count) blank; count = shelf.count }

-- a refusal gives "counts, lengths and places zero"
unfoldable pub laid_out : Shelf → Said (List ℕ) → Plan
laid_out shelf (answer places) =
    record { length = length places; places = places ++ replicate (max_places - length places) 0; shelf = kept_shelf shelf }
laid_out shelf (refuse k) =
    record { length = 0; places = replicate max_places 0; shelf = record { heads = replicate max_places blank; count = 0 } }
