-- What a map has left from an address on, up to 65,536: addresses that it does not name change nothing, one that it names takes its record.
use Prim.Native.Nat.{ℕ, zero, suc, ◌+◌, ◌-◌, ◌≤◌, ◌<◌}
use mathlib.Core.Path.{◌≡◌, ◌∙◌}
use mathlib.Core.Option.{none, some}
use mathlib.Core.List.{List, []}
use native.Mathlib.Omega.{arith}
use native.Mathlib.Numerals.{add-one}
use native.Mathlib.Nat.{add-zero}
use Rattle.paper.specs.Limits.{max_blocks}
use Rattle.paper.specs.Image.{Map}
use Rattle.paper.proofs.Meaning.{skips, takes, next, records_zero, count_zero}
use Rattle.merge.specs.Walks.{records_left, count_left, SameLeft, Takes}

-- k addresses that are not named
skip : (f : Map) (a k : ℕ) → a + k ≤ max_blocks → ((b : ℕ) → a ≤ b → b < a + k → f b ≡ none) → SameLeft f a (a + k)
skip f a zero l unnamed = record { records = rw add-zero; count = rw add-zero }
skip f a (suc k) l unnamed =
    let e : max_blocks - a ≡ suc (max_blocks - suc a) = omega arith in
    let g : a + suc k ≡ suc a + k = omega arith in
    let later = skip f (suc a) k (omega arith) λ b x y. unnamed b (omega arith) (omega arith) in
    elim (next f a (max_blocks - suc a)) [
      | skips here r n ↦ record { records = rw (e, g) (r ∙ later.records); count = rw (e, g) (n ∙ later.count) }
      | takes c here r n ↦
          let none_here = unnamed a (omega arith) (omega arith) in
          let z : ◌≡◌ {A = ℕ} 0 1 = cc in
          absurd (omega arith)
    ]

-- where no address from a up to b is named, the same is left
pub same_left : (f : Map) (a b : ℕ) → a ≤ b → b ≤ max_blocks → ((k : ℕ) → a ≤ k → k < b → f k ≡ none) → SameLeft f a b
same_left f a b l m unnamed =
    let e : a + (b - a) ≡ b = omega arith in
    rw e at (skip f a (b - a) (omega arith) λ k x y. unnamed k x (omega arith))

-- where a is named, its record is taken
pub takes_here : (f : Map) (a : ℕ) {c : List ℕ} → f a ≡ some c → a < max_blocks → Takes f a (a + 1)
takes_here f a named l =
    let e : max_blocks - a ≡ suc (max_blocks - suc a) = omega arith in
    elim (next f a (max_blocks - suc a)) [
      | skips here r n ↦ let z : ◌≡◌ {A = ℕ} 0 1 = cc in absurd (omega arith)
      | takes c here r n ↦ record { content = c; named = here; records = rw (e, add-one) r; count = rw (e, add-one) n }
    ]

-- and then addresses that are not named
pub takes_then : (f : Map) (a b k : ℕ) → Takes f a b → SameLeft f b k → Takes f a k
takes_then f a b k t same = record {
  content = t.content;
  named = t.named;
  records = rw same.records at t.records;
  count = rw same.count at t.count;
}

-- from 65,536 on nothing is left
pub none_left : (f : Map) (a : ℕ) → max_blocks ≤ a → (records_left f a ≡ []) × (count_left f a ≡ 0)
none_left f a l = let e : max_blocks - a ≡ 0 = omega arith in (rw e (records_zero f a), rw e (count_zero f a))
