-- The walk that marks: before block a every block is marked as it differs, and counted.
use Prim.Native.Nat.{ℕ, zero, suc, ◌+◌, ◌-◌, ◌*◌, ◌≤◌, ◌<◌}
use mathlib.Core.Path.{◌≡◌, refl, sym, ◌∙◌}
use mathlib.Core.List.{List}
use mathlib.Core.Bool.{Bool, true, false, not, cond}
use native.Mathlib.Numerals.{add-one}
use native.Mathlib.Decide.{ℕ_discrete}
use native.Mathlib.Omega.{arith}
use lib.ListN.{length, take, drop, set}
use lib.Seq.{get_or-set_same, get_or-set_other}
use Rattle.paper.specs.Image.{Map, block, same}
use Rattle.paper.specs.Diff.{one_for, count_of}
use Rattle.paper.specs.Compare.{differing}
use Rattle.paper.proofs.Meaning.{count_zero, count_le}
use Rattle.record.proofs.Walk.{part_block}
use Rattle.compare.specs.Marks.{marked, Marks}

pub mark_begins : (old new : List ℕ) (marks : List Bool) → Marks old new 0 marks 0
mark_begins old new marks = record { each = λ b l. absurd (omega arith); all = sym (count_zero (differing old new) 0) }

-- no more are counted than there are blocks
pub mark_few : {old new : List ℕ} {marks : List Bool} {count a : ℕ} → Marks old new a marks count → count ≤ a
mark_few {old} {new} {marks} {count} {a} m = omega (arith, m.all, count_le (differing old new) 0 a)

-- one address more
count_more : (f : Map) (b k a : ℕ) → b + k ≡ a → count_of f b (suc k) ≡ count_of f b k + one_for (f a)
unfolding count_of
count_more f b zero a e = let h : b ≡ a = omega arith in rw h (omega arith)
count_more f b (suc k) a e = omega (arith, count_more f (suc b) k a (omega arith))

-- where two blocks are the same or not, as t says, the mark that says so stands for their difference, and counts as it does
mark_here : (old new : List ℕ) (marks : List Bool) (a : ℕ) (t : Bool) → a < length marks → same (block old a) (block new a) ≡ t
    → (marked (set marks a (not t)) new a ≡ differing old new a) × (one_for (differing old new a) ≡ cond (not t) 1 0)
unfolding marked differing
mark_here old new marks a true l e = rw (e, get_or-set_same marks a false false l) (refl, refl)
mark_here old new marks a false l e = rw (e, get_or-set_same marks a true false l) (refl, refl)

-- the marks before it stay
mark_before : (new : List ℕ) (marks : List Bool) (a b : ℕ) (t : Bool) → b < a → marked (set marks a t) new b ≡ marked marks new b
unfolding marked
mark_before new marks a b t l = rw (get_or-set_other marks a b t false λ e. omega arith)

-- one block more: r is what `same_block` says of the parts from byte 512a on, and n the count after it
pub mark_on : {old new : List ℕ} {marks : List Bool} {count a n : ℕ} {r : Bool} (t : Bool) → Marks old new a marks count → a < length marks
    → r ≡ same (take 512 (take (length old - 512 * a) (drop (512 * a) old))) (take 512 (take (length new - 512 * a) (drop (512 * a) new)))
    → not r ≡ t → n ≡ count + cond t 1 0 → Marks old new (a + 1) (set marks a (not r)) n
mark_on {old} {new} {marks} {count} {a} {n} {r} t m l e f g =
    let s : same (block old a) (block new a) ≡ r = sym (e ∙ rw (part_block old a (512 * a) refl, part_block new a (512 * a) refl)) in
    let (here, one) = mark_here old new marks a r l s in
    record {
      each = λ b h. elim (ℕ_discrete b a) [
        | yes at ↦ rw at here
        | no other ↦ mark_before new marks a b (not r) (omega arith) ∙ m.each b (omega arith)
      ];
      all = g ∙ rw (← f, ← one, add-one) (omega (arith, m.all, count_more (differing old new) 0 a a (omega arith)));
    }
