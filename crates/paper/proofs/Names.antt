-- What a diff names: a block is named exactly where a record has its address, with that record's content.
-- In a sound diff the addresses rise, so no two records have the same one, and the last one is the largest.
use Prim.Native.Nat.{ℕ, zero, suc, ◌+◌, ◌-◌, ◌≤◌, ◌<◌}
use mathlib.Core.Path.{◌≡◌, refl}
use mathlib.Core.Option.{Option, none, some, map}
use mathlib.Core.Logic.{◌↔◌}
use mathlib.Core.List.{List}
use mathlib.Core.Bool.{false}
use lib.Dec.{leb}
use lib.ListN.{length, length-drop}
use native.Mathlib.Omega.{arith}
use native.Mathlib.Decide.{ℕ_discrete}
use borrow.Author.Tests.{eq-eqb, ne_eqb, leb-false, lt-leb}
use Rattle.paper.specs.Limits.{max_blocks, block_bytes, content_at}
use Rattle.paper.specs.Answer.{answer}
use Rattle.paper.specs.Image.{Map}
use Rattle.paper.specs.Diff.{Head, rest, address_of, content_of, check, seek, named_by, named, names_outside}
use Rattle.paper.proofs.Bools.{neither, same_test}
use Rattle.paper.proofs.Numbers.{part_length}
use Rattle.paper.proofs.Check.{Sound, sound, from_first}

-- ---- seeking an address

-- Record j is one of the k records of d from record i on, and has address a.
pub record Sought (d : List ℕ) (a i k j : ℕ) : Type 0 where
  pub from : i ≤ j
  pub below : j < i + k
  pub address : address_of (rest d j) ≡ a

-- what is found has the address
pub seek_sound : {j : ℕ} (d : List ℕ) (a i k : ℕ) → seek d a i k ≡ some j → Sought d a i k j
unfolding seek
seek_sound d a i zero e = let z : ◌≡◌ {A = ℕ} 0 1 = cc in absurd (omega arith)
seek_sound {j} d a i (suc k) e = elim (ℕ_discrete (address_of (rest d i)) a) [
  | yes here ↦
      let e' : some i ≡ some j = rw (eq-eqb (address_of (rest d i)) a here) at e in
      let same : i ≡ j = cc in
      record { from = omega arith; below = omega arith; address = rw same at here }
  | no not_here ↦
      let s = seek_sound d a (suc i) k (rw (ne_eqb (address_of (rest d i)) a not_here) at e) in
      record { from = omega arith; below = omega arith; address = s.address }
]

-- the first record with the address is found
pub seek_finds : (d : List ℕ) (a i k j : ℕ) → Sought d a i k j → ((l : ℕ) → i ≤ l → l < j → address_of (rest d l) ≡ a → ⊥) → seek d a i k ≡ some j
unfolding seek
seek_finds d a i zero j s first = absurd (omega arith)
seek_finds d a i (suc k) j s first = elim (ℕ_discrete i j) [
  | yes here ↦ rw (here, eq-eqb (address_of (rest d j)) a s.address)
  | no later ↦
      let on : Sought d a (suc i) k j = record { from = omega arith; below = omega arith; address = s.address } in
      rw (ne_eqb (address_of (rest d i)) a (first i (omega arith) (omega arith))) (seek_finds d a (suc i) k j on λ l x y. first l (omega arith) y)
]

-- where nothing is found, no record has the address
pub none_sought : (d : List ℕ) (a i k : ℕ) → seek d a i k ≡ none → (j : ℕ) → i ≤ j → j < i + k → address_of (rest d j) ≡ a → ⊥
unfolding seek
none_sought d a i zero e = λ j x y s. omega arith
none_sought d a i (suc k) e = elim (ℕ_discrete (address_of (rest d i)) a) [
  | yes here ↦
      let e' : some i ≡ none = rw (eq-eqb (address_of (rest d i)) a here) at e in
      let z : ◌≡◌ {A = ℕ} 0 1 = cc in
      absurd (omega arith)
  | no not_here ↦
      from_first (λ j. address_of (rest d j) ≡ a → ⊥) i k not_here
      (none_sought d a (suc i) k (rw (ne_eqb (address_of (rest d i)) a not_here) at e))
]

-- where no record has the address, nothing is found
pub seek_none : (d : List ℕ) (a i k : ℕ) → ((j : ℕ) → Sought d a i k j → ⊥) → seek d a i k ≡ none
seek_none d a i k no_record = go (seek d a i k) refl
  where
    go : (o : Option ℕ) → seek d a i k ≡ o → seek d a i k ≡ none
    go none e = e
    go (some j) e = absurd (no_record j (seek_sound d a i k e))

-- ---- the map of some records

-- A record of d that names block a with content c, of the k records from record i on.
pub record NamedBy (d : List ℕ) (i k a : ℕ) (c : List ℕ) : Type 0 where
  pub place : ℕ
  pub sought : Sought d a i k place
  pub content : c ≡ content_of (rest d place)

-- what is named is in a record
pub named_by_sound : {c : List ℕ} (d : List ℕ) (i k a : ℕ) → named_by d i k a ≡ some c → NamedBy d i k a c
unfolding named_by
named_by_sound {c} d i k a e = go (seek d a i k) refl e
  where
    go : (o : Option ℕ) → seek d a i k ≡ o → map (λ j. content_of (rest d j)) o ≡ some c → NamedBy d i k a c
    go none s e = let z : ◌≡◌ {A = ℕ} 0 1 = cc in absurd (omega arith)
    go (some j) s e = record { place = j; sought = seek_sound d a i k s; content = cc }

-- what is sought and found is named
pub named_by_found : {j : ℕ} (d : List ℕ) (i k a : ℕ) → seek d a i k ≡ some j → named_by d i k a ≡ some (content_of (rest d j))
unfolding named_by
named_by_found d i k a e = rw e

-- what is not found is not named
pub named_by_none : (d : List ℕ) (i k a : ℕ) → ((j : ℕ) → Sought d a i k j → ⊥) → named_by d i k a ≡ none
unfolding named_by
named_by_none d i k a no_record = rw (seek_none d a i k no_record)

-- the first record names its address
pub named_by_here : (d : List ℕ) (i k a : ℕ) → address_of (rest d i) ≡ a → named_by d i (suc k) a ≡ some (content_of (rest d i))
unfolding named_by seek
named_by_here d i k a here = rw (eq-eqb (address_of (rest d i)) a here)

-- any other address is named by the records after it
pub named_by_later : (d : List ℕ) (i k a : ℕ) → (address_of (rest d i) ≡ a → ⊥) → named_by d i (suc k) a ≡ named_by d (suc i) k a
unfolding named_by seek
named_by_later d i k a not_here = rw (ne_eqb (address_of (rest d i)) a not_here)

-- ---- maps

-- A map names block a, or does not.
pub data Seen (f : Map) (a : ℕ) : Type 0 where
  unnamed : f a ≡ none → Seen f a
  named_as : (c : List ℕ) → f a ≡ some c → Seen f a

-- one of the two is so
pub seen : (f : Map) (a : ℕ) → Seen f a
seen f a = go (f a) refl
  where
    go : (o : Option (List ℕ)) → f a ≡ o → Seen f a
    go none e = unnamed e
    go (some c) e = named_as c e

-- A map that a diff can mean: of blocks that an image can have, each with a block's content.
pub record Fits (f : Map) : Type 0 where
  pub within : (a : ℕ) (c : List ℕ) → f a ≡ some c → a < max_blocks
  pub whole : (a : ℕ) (c : List ℕ) → f a ≡ some c → length c ≡ block_bytes

-- such a map names nothing beyond
pub beyond : {f : Map} → Fits f → (a : ℕ) → max_blocks ≤ a → f a ≡ none
beyond {f} fits a l = elim (seen f a) [
  | unnamed e ↦ e
  | named_as c e ↦ absurd (omega (arith, fits.within a c e))
]

-- ---- the map of a sound diff

module _ {d : List ℕ} {h : Head} (s : Sound d h) where
  -- a record's content is a whole block
  pub content_length : (i : ℕ) → i < h.n → length (content_of (rest d i)) ≡ block_bytes
  unfolding content_of
  content_length i l = let long = s.long in part_length (rest d i) content_at block_bytes (rw length-drop (omega arith))

  -- no record before record j has its address
  pub first_with : (j : ℕ) → j < h.n → (l : ℕ) → l < j → address_of (rest d l) ≡ address_of (rest d j) → ⊥
  first_with j below l before same = omega (arith, s.rising l j before below)

  -- a record's address is found in its place
  pub seek_record : (i k j : ℕ) → i ≤ j → j < i + k → j < h.n → seek d (address_of (rest d j)) i k ≡ some j
  seek_record i k j from below inside =
      seek_finds d (address_of (rest d j)) i k j (record { from = from; below = below; address = refl }) λ l x y. first_with j inside l y

  -- a record names its address, with its content
  pub names_record : (j : ℕ) → j < h.n → named d (address_of (rest d j)) ≡ some (content_of (rest d j))
  unfolding named
  names_record j below = rw (← s.head) (named_by_found d 0 h.n _ (seek_record 0 h.n j (omega arith) (omega arith) below))

  -- what is named is in a record
  pub named_sound : {c : List ℕ} (a : ℕ) → named d a ≡ some c → NamedBy d 0 h.n a c
  unfolding named
  named_sound a e = named_by_sound d 0 h.n a (rw s.head e)

  -- what no record has is not named
  pub named_none : (a : ℕ) → ((j : ℕ) → j < h.n → address_of (rest d j) ≡ a → ⊥) → named d a ≡ none
  unfolding named
  named_none a no_record = rw (← s.head) (named_by_none d 0 h.n a λ j f. no_record j (omega arith) f.address)

  -- what is not named, no record has
  pub none_named : (a : ℕ) → named d a ≡ none → (j : ℕ) → j < h.n → address_of (rest d j) ≡ a → ⊥
  none_named a e j below same =
      let n = names_record j below in
      let z : ◌≡◌ {A = ℕ} 0 1 = cc in
      omega arith

  -- a sound diff's map names blocks that an image can have, each with a whole block's content
  pub sound_fits : Fits (named d)
  sound_fits = record {
    within = λ a c e.
        let r = named_sound a e in
        let at = r.sought in
        omega (arith, s.low r.place (omega arith));
    whole = λ a c e.
        let r = named_sound a e in
        rw r.content (content_length r.place (omega arith));
  }

-- the map of a diff that passes the check fits
pub named_fits : (d : List ℕ) {h : Head} → check d ≡ answer h → Fits (named d)
named_fits d e = sound_fits (sound e)

-- ---- Outside

-- where none of the records is outside, each address is below the number of blocks
pub outside_false : (d : List ℕ) (i k m : ℕ) → names_outside d i k m ≡ false → (j : ℕ) → i ≤ j → j < i + k → address_of (rest d j) < m
unfolding names_outside
outside_false d i zero m e = λ j x y. absurd (omega arith)
outside_false d i (suc k) m e =
    let (here, later) = neither _ _ e in
    from_first (λ j. address_of (rest d j) < m) i k (leb-false m (address_of (rest d i)) here) (outside_false d (suc i) k m later)

-- where each address is below the number of blocks, none of the records is outside
pub inside_false : (d : List ℕ) (i k m : ℕ) → ((j : ℕ) → i ≤ j → j < i + k → address_of (rest d j) < m) → names_outside d i k m ≡ false
unfolding names_outside
inside_false d i zero m below = refl
inside_false d i (suc k) m below =
    rw (lt-leb m (address_of (rest d i)) (below i (omega arith) (omega arith))) (inside_false d (suc i) k m λ j x y. below j (omega arith) (omega arith))

-- no record of the first n is outside exactly where each address is below m
pub outside_means : (d : List ℕ) (n m : ℕ) → (names_outside d 0 n m ≡ false) ↔ ((i : ℕ) → i < n → address_of (rest d i) < m)
outside_means d n m = (
  λ e i l. outside_false d 0 n m e i (omega arith) (omega arith),
  λ below. inside_false d 0 n m λ j x y. below j (omega arith),
)

module _ {d : List ℕ} {h : Head} (s : Sound d h) where
  -- of a sound diff: exactly where each block named is below m
  pub outside_names : (m : ℕ) → (names_outside d 0 h.n m ≡ false) ↔ ((a : ℕ) (c : List ℕ) → named d a ≡ some c → a < m)
  outside_names m = (
    λ e a c n. let r = named_sound s a n in omega (arith, (outside_means d h.n m).0 e r.place (omega arith)),
    λ below. (outside_means d h.n m).1 λ i l. below _ _ (names_record s i l),
  )

  -- an empty diff names nothing outside
  pub outside_empty : (m : ℕ) → h.n ≡ 0 → names_outside d 0 h.n m ≡ false
  outside_empty m e = (outside_means d h.n m).1 λ i l. absurd (omega arith)

  -- the last record decides
  pub outside_by_last : (m : ℕ) → 0 < h.n → names_outside d 0 h.n m ≡ leb m (address_of (rest d (h.n - 1)))
  outside_by_last m some_record =
      same_test _ _
      (λ e. lt-leb m _ ((outside_means d h.n m).0 e (h.n - 1) (omega arith)))
      (λ e. (outside_means d h.n m).1 λ i l.
      let last : address_of (rest d (h.n - 1)) < m = leb-false m _ e in
      elim (ℕ_discrete i (h.n - 1)) [
        | yes same ↦ rw same last
        | no other ↦ omega (arith, s.rising i (h.n - 1) (omega arith) (omega arith))
      ])
