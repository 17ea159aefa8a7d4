-- A cursor on a diff that passed the check names what the diff does: nothing from `low` up to its address, and there its record.
use Prim.Native.Nat.{ℕ, ◌+◌, ◌≤◌, ◌<◌}
use mathlib.Core.Path.{◌≡◌, sym, ap, ◌∙◌}
use mathlib.Core.Option.{none, some}
use mathlib.Core.List.{List, ◌++◌, append-nil}
use lib.ListN.{length, take, drop, length-take, length-drop, drop_of_length-le}
use lib.Seq.{take_at}
use native.Mathlib.Omega.{arith}
use native.Mathlib.Decide.{ℕ_discrete, dec_lt}
use borrow.Author.Tests.{lt-ltb, le-ltb}
use Rattle.std.proofs.lemmas.List.{drop-take, take-take, get_or-take}
use Rattle.paper.specs.Limits.{max_blocks, record_size, block_mark}
use Rattle.paper.specs.Number.{Bytes, field, opens}
use Rattle.paper.specs.Diff.{rest, address_of, content_of, record_bytes, record_for, named}
use Rattle.paper.proofs.Numbers.{bytes_take}
use Rattle.paper.proofs.Parts.{record_own}
use Rattle.paper.proofs.Check.{sound}
use Rattle.paper.proofs.Names.{names_record, named_none}
use Rattle.paper.proofs.Merging.{merged_first, merged_second}
use Rattle.record.specs.declared.records.Checked.{Checked}
use Rattle.merge.specs.declared.Cursor.{Cursor}
use Rattle.merge.specs.declared.Pair.{Pair}
use Rattle.merge.specs.declared.Walk.{Walk}
use Rattle.merge.specs.Walks.{both, address_at, On, Walking}

-- the address at a record
pub at_record : (x : Checked) (i : ℕ) → i < x.h.n → address_at x i ≡ address_of (rest x.d.now i)
unfolding address_at
at_record x i l = rw (lt-ltb i x.h.n l)

-- and past the last
pub at_end : (x : Checked) (i : ℕ) → x.h.n ≤ i → address_at x i ≡ max_blocks
unfolding address_at
at_end x i l = rw (le-ltb i x.h.n l)

-- a cursor at the first record
pub on_begins : (x : Checked) (c : Cursor) → (c.place ≡ 0) × (c.address ≡ address_at x 0) → On x 0 c
on_begins x c at = record {
  inside = omega arith;
  address = at.1 ∙ ap (address_at x) (sym at.0);
  passed = λ j l. absurd (omega arith);
  ahead = omega arith;
}

module _ {x : Checked} {low : ℕ} {c : Cursor} (on : On x low c) where
  -- a cursor ahead stands where it is
  pub on_waits : (to : ℕ) → low ≤ to → to ≤ c.address → On x to c
  on_waits to l m = record {
    inside = on.inside;
    address = on.address;
    passed = λ j k. omega (arith, on.passed j k);
    ahead = m;
  }

  -- a cursor whose address is a block's stands at a record of that address
  pub on_record : c.address < max_blocks → (c.place < x.h.n) × (c.address ≡ address_of (rest x.d.now c.place))
  on_record l = elim (dec_lt c.place x.h.n) [
    | yes m ↦ (m, on.address ∙ at_record x c.place m)
    | no m ↦ absurd (omega (arith, on.address, at_end x c.place (omega arith)))
  ]

  -- an address is at most 65,536
  pub on_few : c.address ≤ max_blocks
  on_few = elim (dec_lt c.place x.h.n) [
    | yes m ↦ omega (arith, on.address, at_record x c.place m, (sound x.sound).low c.place m)
    | no m ↦ omega (arith, on.address, at_end x c.place (omega arith))
  ]

  -- what it stands at is named
  pub on_named : c.address < max_blocks → named x.d.now c.address ≡ some (content_of (rest x.d.now c.place))
  on_named l = let (m, e) = on_record l in rw e (names_record (sound x.sound) c.place m)

  -- nothing before is
  pub on_unnamed : (a : ℕ) → low ≤ a → a < c.address → named x.d.now a ≡ none
  on_unnamed a l m = named_none (sound x.sound) a λ j k same. elim (dec_lt j c.place) [
    | yes z ↦ omega (arith, on.passed j z)
    | no z ↦
        let here = at_record x c.place (omega arith) in
        let own = on.address in
        elim (ℕ_discrete c.place j) [
          | yes e ↦ let own' : address_of (rest x.d.now j) ≡ c.address = rw e at (sym here ∙ sym own) in omega arith
          | no e ↦ omega (arith, (sound x.sound).rising c.place j (omega arith) k)
        ]
  ]

  -- past the address it stands at, the next record is at the cursor
  pub on_next : (r : Cursor) → low < max_blocks → c.address ≤ low → (r.place ≡ c.place + 1) × (r.address ≡ address_at x (c.place + 1)) → On x (low + 1) r
  on_next r l m at =
      let ahead = on.ahead in
      let place = at.0 in
      let (inside, here) = on_record (omega arith) in
      record {
        inside = omega arith;
        address = at.1 ∙ ap (address_at x) (sym at.0);
        passed = λ j k. elim (dec_lt j c.place) [
          | yes z ↦ omega (arith, on.passed j z)
          | no z ↦ let e : j ≡ c.place = omega arith in rw e (omega arith)
        ];
        ahead = elim (dec_lt (c.place + 1) x.h.n) [
          | yes z ↦ omega (arith, at.1, at_record x (c.place + 1) z, (sound x.sound).rising c.place (c.place + 1) (omega arith) z)
          | no z ↦ omega (arith, at.1, at_end x (c.place + 1) (omega arith))
        ];
      }

-- ---- a record, whole

-- its 518 bytes have its mark, its address and its content
take_mark : (r : List ℕ) → opens (take record_size r) block_mark ≡ opens r block_mark
unfolding opens
take_mark r = rw (get_or-take record_size r 0 0 (omega arith), get_or-take record_size r 1 0 (omega arith))

take_address : (r : List ℕ) → address_of (take record_size r) ≡ address_of r
unfolding address_of field
take_address r = rw (drop-take 2 516 r, take-take 4 516 (drop 2 r) (omega arith))

take_content : (r : List ℕ) → content_of (take record_size r) ≡ content_of r
unfolding content_of
take_content r = rw (drop-take 6 512 r, take-take 512 512 (drop 6 r) (omega arith))

module _ (x : Checked) (i : ℕ) (l : i < x.h.n) where
  -- they are all there
  pub record_long : length (take record_size (rest x.d.now i)) ≡ record_size
  record_long = let long = (sound x.sound).long in simp (length-take, length-drop) (omega arith)

  -- and are the record of that address and content
  record_whole : Bytes (take record_size (rest x.d.now i))
      → take record_size (rest x.d.now i) ≡ record_bytes (address_of (rest x.d.now i)) (content_of (rest x.d.now i))
  record_whole bytes =
      let s = sound x.sound in
      let r = rest x.d.now i in
      let own = record_own (take record_size r) bytes (omega (arith, record_long)) (take_mark r ∙ s.marks i l) in
      let none = drop_of_length-le (take record_size r) {i = record_size} (omega (arith, record_long)) in
      sym (rw (take_address r, take_content r, none, append-nil) at own)

  -- where they are copied, that record stands
  pub record_copied : (r v y : List ℕ) → r ≡ take record_size (rest x.d.now i) → y ≡ take record_size r ++ v → Bytes y
      → y ≡ record_bytes (address_of (rest x.d.now i)) (content_of (rest x.d.now i)) ++ v
  record_copied r v y e f bytes =
      let t = take record_size (rest x.d.now i) in
      let copied : y ≡ t ++ v = rw (e, take-take record_size record_size _ (omega arith)) at f in
      let opens : take record_size y ≡ t = rw copied (take_at t v record_size record_long) in
      rw (← record_whole (rw opens at (bytes_take record_size y bytes))) copied

-- ---- the lowest of two addresses

module _ {p : Pair} {w : Walk} (walk : Walking p w) where
  -- where the second's is higher, the first's is the lower, and the merge has its content
  pub named_first : w.low < w.b.address → both p w.low ≡ some (content_of (rest p.first.d.now w.a.place))
  named_first l =
      let few = on_few walk.second in
      let e : w.low ≡ w.a.address = omega (arith, walk.lowest) in
      merged_first _ _ (on_unnamed walk.second w.low (omega arith) l) ∙ rw e (on_named walk.first (omega arith))

  -- else it has the second's
  pub named_second : w.low < max_blocks → w.b.address ≤ w.low → both p w.low ≡ some (content_of (rest p.second.d.now w.b.place))
  named_second l m =
      let e : w.low ≡ w.b.address = omega (arith, walk.lowest) in
      merged_second _ _ (rw e (on_named walk.second (omega arith)))

  -- so its record is that of the block
  pub record_first : w.low < w.b.address
      → record_for w.low (both p w.low) ≡ record_bytes (address_of (rest p.first.d.now w.a.place)) (content_of (rest p.first.d.now w.a.place))
  record_first l =
      let few = on_few walk.second in
      let here = (on_record walk.first (omega (arith, walk.lowest))).1 in
      let e : w.low ≡ address_of (rest p.first.d.now w.a.place) = omega (arith, walk.lowest) in
      rw (named_first l) (ap (λ (a : ℕ). record_bytes a (content_of (rest p.first.d.now w.a.place))) e)

  pub record_second : w.low < max_blocks → w.b.address ≤ w.low
      → record_for w.low (both p w.low) ≡ record_bytes (address_of (rest p.second.d.now w.b.place)) (content_of (rest p.second.d.now w.b.place))
  record_second l m =
      let here = (on_record walk.second (omega arith)).1 in
      let e : w.low ≡ address_of (rest p.second.d.now w.b.place) = omega (arith, walk.lowest) in
      rw (named_second l m) (ap (λ (a : ℕ). record_bytes a (content_of (rest p.second.d.now w.b.place))) e)
