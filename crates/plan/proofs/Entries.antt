-- A shelf's entries: what is left to check says the same as the whole at every turn, and what is kept is the front of the shelf.
use Prim.Native.Nat.{ℕ, suc, ◌+◌, ◌-◌, ◌≤◌, ◌<◌}
use mathlib.Core.Path.{◌≡◌, sym, ap, ◌∙◌}
use mathlib.Core.List.{◌++◌}
use native.Mathlib.Numerals.{add-one}
use native.Mathlib.Nat.{sub-zero}
use native.Mathlib.Omega.{arith}
use lib.ListN.{get_or, take, drop, replicate, get_or-map}
use Rattle.std.proofs.lemmas.List.{get_or-take, map-append, take-map, drop-replicate}
use Rattle.paper.specs.Answer.{answer, refuse}
use Rattle.paper.specs.Diff as Diff
use Rattle.paper.specs.Diff.{check_head}
use Rattle.paper.specs.Plan.{entry, check_entries, kept_shelf}
use Rattle.record.specs.declared.head.Head.{Head}
use Rattle.record.specs.Heads.{head}
use Rattle.plan.specs.declared.shelf.Shelf.{Shelf}
use Rattle.plan.specs.Shelves.{shelf}
use Rattle.plan.proofs.Fills.{map-replicate}

-- what a place holds that was never filled
abbrev pub blank : Head
blank = record { kind = 0; spare = 0; p = 0; q = 0; n = 0 }

-- the head at a place is the entry there
pub entry_is : (on : Shelf) (i : ℕ) → entry (shelf on) i ≡ head (get_or on.heads i blank)
entry_is on i = get_or-map head on.heads i blank

-- ---- the check

-- the check before entry i
abbrev pub Entering : Shelf → ℕ → Type 0
Entering on i = check_entries (shelf on) 0 on.count ≡ check_entries (shelf on) i (on.count - i)

pub entries_begin : (on : Shelf) → Entering on 0
entries_begin on = ap (λ (k : ℕ). check_entries (shelf on) 0 k) (sym (sub-zero on.count))

module _ (on : Shelf) (i : ℕ) (so_far : Entering on i) where
  pub entry_passes : (h : Diff.Head) → i < on.count → answer h ≡ check_head (head (get_or (take on.count on.heads) i blank)) → Entering on (i + 1)
  unfolding check_entries
  entry_passes h more says =
      let k : on.count - i ≡ suc (on.count - (i + 1)) = omega arith in
      so_far ∙ rw (k, entry_is, ← get_or-take on.count on.heads i blank more, ← says, add-one)

  pub entry_refused : (k : ℕ) → i < on.count → refuse k ≡ check_head (head (get_or (take on.count on.heads) i blank)) → refuse k ≡ check_entries (shelf on) 0 on.count
  unfolding check_entries
  entry_refused k more says =
      let m : on.count - i ≡ suc (on.count - (i + 1)) = omega arith in
      rw (so_far, m, entry_is, ← get_or-take on.count on.heads i blank more, ← says)

  pub entries_end : on.count ≤ i → answer tt ≡ check_entries (shelf on) 0 on.count
  unfolding check_entries
  entries_end l = let k : on.count - i ≡ 0 = omega arith in rw (so_far, k)

-- ---- what is kept

-- the entries below the count are kept, and the rest is blank
pub keeps : (on : Shelf) → shelf (record { heads = take on.count on.heads ++ drop on.count (replicate 96 blank); count = on.count }) ≡ kept_shelf (shelf on)
unfolding kept_shelf
keeps on = rw (map-append, drop-replicate, map-replicate, take-map)
