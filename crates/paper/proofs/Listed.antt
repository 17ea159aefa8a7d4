-- A diff spelled out record by record: where the addresses rise, a head with the records' number and then the records
-- is what is written for the map that the records list. A walk over the addresses meets each record at its own address.
use Prim.Native.Nat.{ℕ, zero, suc, ◌+◌, ◌≤◌, ◌<◌}
use mathlib.Core.Path.{◌≡◌, refl}
use mathlib.Core.Option.{none, some}
use mathlib.Core.List.{List, [], ◌∷◌, ◌++◌}
use mathlib.Core.Bool.{false, cond}
use lib.Dec.{eqb}
use lib.ListN.{length}
use native.Mathlib.Omega.{arith}
use native.Mathlib.Decide.{ℕ_discrete}
use borrow.Author.Tests.{eq-eqb, ne_eqb}
use Rattle.paper.specs.Limits.{max_blocks, block_bytes}
use Rattle.paper.specs.Answer.{answer}
use Rattle.paper.specs.Image.{Map}
use Rattle.paper.specs.Diff.{Head, head_bytes, bad_head, record_bytes, check, named, records_of, count_of, counted, written}
use Rattle.paper.proofs.Names.{Fits}
use Rattle.paper.proofs.Meaning.{records_same, count_same, reads_back_check, reads_back_map}

-- one record: the block that it names, and its content
pub record Listed : Type 0 where
  pub address : ℕ
  pub content : List ℕ

abbrev pub names : ℕ → List ℕ → Listed
names a c = record { address = a; content = c }

-- the map of some records
unfoldable pub listing : List Listed → Map
listing [] a = none
listing (r ∷ rs) a = cond (eqb r.address a) (some r.content) (listing rs a)

-- their bytes
unfoldable pub listed_bytes : List Listed → List ℕ
listed_bytes [] = []
listed_bytes (r ∷ rs) = record_bytes r.address r.content ++ listed_bytes rs

-- addresses from low on, strictly rising, below top, and contents of whole blocks
abbrev pub Rising : ℕ → ℕ → List Listed → Type 0
Rising low top [] = Unit {0}
Rising low top (r ∷ rs) = (low ≤ r.address) × (r.address < top) × (length r.content ≡ block_bytes) × Rising (suc r.address) top rs

-- the records after r name nothing at or below it
pub listing_later : (r : Listed) (rs : List Listed) (b : ℕ) → r.address < b → listing (r ∷ rs) b ≡ listing rs b
unfolding listing
listing_later r rs b l = rw (ne_eqb r.address b (omega arith))

-- a record names its address
pub listing_here : (r : Listed) (rs : List Listed) (a : ℕ) → r.address ≡ a → listing (r ∷ rs) a ≡ some r.content
unfolding listing
listing_here r rs a here = rw (eq-eqb r.address a here)

-- nothing below the lowest is named
pub listing_below : (l : List Listed) (low top a : ℕ) → Rising low top l → a < low → listing l a ≡ none
unfolding listing
listing_below [] low top a r k = refl
listing_below (r ∷ rs) low top a (x, y, z, w) k = rw (ne_eqb r.address a (omega arith)) (listing_below rs (suc r.address) top a w (omega arith))

-- what is named lies below top and is a whole block
listing_of : (l : List Listed) (low top a : ℕ) {c : List ℕ} → Rising low top l → listing l a ≡ some c → (a < top) × (length c ≡ block_bytes)
unfolding listing
listing_of [] low top a r e = let z : ◌≡◌ {A = ℕ} 0 1 = cc in absurd (omega arith)
listing_of (r ∷ rs) low top a {c} (x, y, z, w) e = elim (ℕ_discrete r.address a) [
  | yes here ↦
      let e' : some r.content ≡ some c = rw (eq-eqb r.address a here) at e in
      let same : r.content ≡ c = cc in
      (omega arith, rw same at z)
  | no other ↦ listing_of rs (suc r.address) top a w (rw (ne_eqb r.address a other) at e)
]

-- so it is a map that a diff can mean
pub listing_fits : (l : List Listed) → Rising 0 max_blocks l → Fits (listing l)
listing_fits l r = record { within = λ a c e. (listing_of l 0 max_blocks a r e).0; whole = λ a c e. (listing_of l 0 max_blocks a r e).1 }

-- The records written for k addresses from a on, and their number, are those of the list.
pub record Spelled (l : List Listed) (a k : ℕ) : Type 0 where
  pub records : records_of (listing l) a k ≡ listed_bytes l
  pub count : count_of (listing l) a k ≡ length l

-- one record more, at its own address
spelled_more : (k a : ℕ) (r : Listed) (rs : List Listed) → r.address ≡ a → Spelled rs (suc a) k → Spelled (r ∷ rs) a (suc k)
unfolding records_of count_of listed_bytes
spelled_more k a r rs here later = record {
  records = rw (listing_here r rs a here, records_same (listing (r ∷ rs)) (listing rs) (suc a) k agree, later.records, here);
  count = rw (listing_here r rs a here, count_same (listing (r ∷ rs)) (listing rs) (suc a) k agree, later.count) (omega arith);
}
  where
    agree : (b : ℕ) → suc a ≤ b → b < suc a + k → listing (r ∷ rs) b ≡ listing rs b
    agree b l m = listing_later r rs b (omega arith)

-- they are where the addresses lie there and rise
pub spelled_out : (k a top : ℕ) (l : List Listed) → a + k ≡ top → Rising a top l → Spelled l a k
unfolding records_of count_of listed_bytes
spelled_out zero a top [] e r = record { records = refl; count = refl }
spelled_out zero a top (r ∷ rs) e (x, y, z, w) = absurd (omega arith)
spelled_out (suc k) a top [] e r =
    let later = spelled_out k (suc a) top [] (omega arith) tt in
    let none_here = listing_below [] (suc a) top a tt (omega arith) in
    record { records = rw none_here later.records; count = rw none_here (omega (arith, later.count)) }
spelled_out (suc k) a top (r ∷ rs) e (x, y, z, w) = elim (ℕ_discrete r.address a) [
  | yes here ↦
      spelled_more k a r rs here (spelled_out k (suc a) top rs (omega arith) (rw here at w))
  | no other ↦
      let up : Rising (suc a) top (r ∷ rs) = (omega arith, y, z, w) in
      let later = spelled_out k (suc a) top (r ∷ rs) (omega arith) up in
      let none_here = listing_below (r ∷ rs) (suc a) top a up (omega arith) in
      record { records = rw none_here later.records; count = rw none_here (omega (arith, later.count)) }
]

-- a head with another count
abbrev pub with_count : Head → ℕ → Head
with_count h n = record { kind = h.kind; spare = h.spare; p = h.p; q = h.q; n = n }

-- the diff: a head with the records' number, then the records
abbrev pub listed : Head → List Listed → List ℕ
listed h l = head_bytes (with_count h (length l)) ++ listed_bytes l

module _ (h : Head) (l : List Listed) (rises : Rising 0 max_blocks l) where
  -- it is what is written for its map
  pub listed_written : listed h l ≡ written h (listing l)
  unfolding written counted
  listed_written = let s = spelled_out max_blocks 0 max_blocks l refl rises in rw (s.records, s.count)

  -- it passes the check
  pub listed_checks : bad_head h ≡ false → check (listed h l) ≡ answer (with_count h (length l))
  unfolding counted
  listed_checks good =
      let s = spelled_out max_blocks 0 max_blocks l refl rises in
      rw (listed_written, reads_back_check h (listing l) good (listing_fits l rises), s.count)

  -- and means the map
  pub listed_names : bad_head h ≡ false → (a : ℕ) → named (listed h l) a ≡ listing l a
  listed_names good a = rw listed_written (reads_back_map h (listing l) good (listing_fits l rises) a)
