-- The lowest place that is accepted and marked, sought from place 0 on; and what that says of a place that a sweep looks at.
use Prim.Native.Nat.{ℕ, ◌+◌, ◌-◌, ◌≤◌, ◌<◌}
use mathlib.Core.Path.{◌≡◌, refl, sym, ap, ◌∙◌}
use mathlib.Core.List.{List}
use mathlib.Core.Option.{none, some}
use mathlib.Core.Bool.{Bool, true, false, ◌&&◌, ◌||◌}
use native.Mathlib.Nat.{sub-zero}
use lib.ListN.{get_or}
use Rattle.std.specs.Prelude as std
use Rattle.std.specs.Prelude.{Option, Some, None, Result, Ok, Err, is_ok}
use Rattle.paper.specs.State.{State}
use Rattle.paper.specs.Volume.{Further, done_state, decide_on}
use Rattle.paper.specs.Plan.{at_target}
use Rattle.paper.proofs.Lowest.{lowest, is_some, lowest_here, lowest_on, lowest_end}
use Rattle.paper.proofs.Step.{accepted, accepts_below}
use Rattle.paper.proofs.Marks.{after, lead, leads, would_mark, marked}
use Rattle.record.specs.declared.refusal.Refusal.{Refusal}
use Rattle.record.specs.Refusals.{said}
use Rattle.record.specs.Heads.{head}
use Rattle.record.specs.Records.{said_found}
use Rattle.plan.specs.declared.shelf.Shelf.{Shelf}
use Rattle.plan.specs.Shelves.{shelf}
use Rattle.plan.proofs.Entries.{blank, entry_is}

-- an accepted entry is an Ok, and a place that is found is a Some
pub ok_is_accepted : {A : Type 0} (means : A → Further) (r : Result A Refusal) → is_ok r ≡ accepted (said means r)
unfolding accepted
ok_is_accepted means (Ok a) = refl
ok_is_accepted means (Err why) = refl

pub some_is_found : (r : Option ℕ) → std.is_some r ≡ is_some (said_found r)
some_is_found (Some i) = refl
some_is_found None = refl

-- the search before place i
abbrev pub Leading : Shelf → State → List Bool → ℕ → Type 0
Leading on s marks i = lead (shelf on) s (marked marks) ≡ lowest (leads (shelf on) s (marked marks)) i (on.count - i)

pub lead_begins : (on : Shelf) (s : State) (marks : List Bool) → Leading on s marks 0
lead_begins on s marks = ap (λ (k : ℕ). lowest (leads (shelf on) s (marked marks)) 0 k) (sym (sub-zero on.count))

module _ (on : Shelf) (s : State) (marks : List Bool) (i : ℕ) (so_far : Leading on s marks i) where
  module _ (r : Bool) (more : i < on.count)
      (tested : r ≡ (accepted (decide_on (head (get_or on.heads i blank)) s) && get_or marks i false)) where
    tests : leads (shelf on) s (marked marks) i ≡ r
    tests = sym (tested ∙ rw (accepts_below (shelf on) s i more, entry_is on i))

    pub lead_here : r ≡ true → some i ≡ lead (shelf on) s (marked marks)
    lead_here e = sym (so_far ∙ lowest_here (leads (shelf on) s (marked marks)) i on.count more (tests ∙ e))

    pub lead_on : r ≡ false → Leading on s marks (i + 1)
    lead_on e = so_far ∙ lowest_on (leads (shelf on) s (marked marks)) i on.count more (tests ∙ e)

  pub lead_ends : on.count ≤ i → none ≡ lead (shelf on) s (marked marks)
  lead_ends l = sym (so_far ∙ lowest_end (leads (shelf on) s (marked marks)) i on.count l)

-- ---- a place that a sweep looks at

-- the state after place j
after_is : (on : Shelf) (start : State) (j : ℕ) → done_state (head (get_or on.heads j blank)) start ≡ after (shelf on) start.e j
unfolding after done_state
after_is on start j = rw (entry_is on j)

module _ (on : Shelf) (start s : State) (target : ℕ) (marks : List Bool) (j : ℕ) (comes : s ≡ done_state (head (get_or on.heads j blank)) start) where
  would_mark_from : would_mark (shelf on) start.e target (marked marks) j ≡ (at_target s target || is_some (lead (shelf on) s (marked marks)))
  unfolding would_mark
  would_mark_from = rw (comes, after_is on start j)

  -- the state after it is at the target
  pub mark_there : (b : Bool) → b ≡ at_target s target → b ≡ true → b ≡ would_mark (shelf on) start.e target (marked marks) j
  mark_there b e t = rw (would_mark_from, ← e, t)

  -- elsewhere it is marked where a marked place follows
  pub mark_by_lead : (b : Bool) → b ≡ at_target s target → b ≡ false → (o : Option ℕ) → said_found o ≡ lead (shelf on) s (marked marks)
      → (c : Bool) → c ≡ std.is_some o → c ≡ would_mark (shelf on) start.e target (marked marks) j
  mark_by_lead b e f o l c g = rw (would_mark_from, ← e, f, ← l) (g ∙ some_is_found o)
