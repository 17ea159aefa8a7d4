-- Two cursors walk over the addresses together, always to the lower of their two: between two turns nothing is named,
-- and each turn takes one record of the merge. So what is counted, or written, and what is left are the whole at every turn.
use Prim.Native.Nat.{ℕ, ◌+◌, ◌-◌, ◌*◌, ◌≤◌, ◌<◌, min}
use mathlib.Core.Path.{◌≡◌, refl, sym, ap, ◌∙◌}
use mathlib.Core.List.{List, ◌++◌}
use native.Mathlib.Omega.{arith}
use native.Mathlib.Decide.{dec_lt}
use lib.ListN.{length, take, drop}
use borrow.Rule.Slice.PartMut.{put_mid}
use Rattle.paper.specs.Limits.{max_blocks, head_size, record_size}
use Rattle.paper.specs.Diff.{record_bytes, record_for, records_of, count_of}
use Rattle.paper.proofs.Parts.{record_length}
use Rattle.paper.proofs.Names.{Fits, named_fits}
use Rattle.paper.proofs.Meaning.{count_le}
use Rattle.paper.proofs.Merging.{merged_first, merged_fits}
use Rattle.number.specs.Put.{put}
use Rattle.number.proofs.Puts.{put_none, put_length, put_put}
use Rattle.record.proofs.Stores.{put_part}
use Rattle.merge.specs.declared.Pair.{Pair}
use Rattle.merge.specs.declared.Walk.{Walk}
use Rattle.merge.specs.Walks.{both, address_at, On, Walking, records_left, count_left, SameLeft, Takes, Begun, Turned}
use Rattle.merge.proofs.Left.{same_left, takes_here, takes_then, none_left}
use Rattle.merge.proofs.Cursors.{on_begins, on_waits, on_few, on_unnamed, named_first, named_second}

-- The count: n records are counted, and the others are left.
pub record Counting (p : Pair) (w : Walk) (n : ℕ) : Type 0 where
  pub walking : Walking p w
  pub count : count_of (both p) 0 max_blocks ≡ n + count_left (both p) w.low
  pub few : count_of (both p) 0 max_blocks ≤ max_blocks

-- The writing: i records are written, and with the others put after them `out` is what it is to be.
pub record Writing (p : Pair) (old out : List ℕ) (w : Walk) (i : ℕ) : Type 0 where
  pub counting : Counting p w i
  pub same : length out ≡ length old
  pub left : put (head_size + record_size * i) (records_left (both p) w.low) out ≡ put head_size (records_of (both p) 0 max_blocks) old

-- the merge is a map that a diff can mean
pub both_fits : (p : Pair) → Fits (both p)
both_fits p = merged_fits (named_fits p.first.d.now p.first.sound) (named_fits p.second.d.now p.second.sound)

module _ {p : Pair} where
  -- ---- the walk

  -- the address of a walk is named
  pub walk_takes : {w : Walk} → Walking p w → w.low < max_blocks → Takes (both p) w.low (w.low + 1)
  walk_takes {w} walk l = elim (dec_lt w.low w.b.address) [
    | yes m ↦ takes_here (both p) w.low (named_first walk m) l
    | no m ↦ takes_here (both p) w.low (named_second walk l (omega arith)) l
  ]

  module _ {from : ℕ} {w : Walk} (on₀ : On p.first from w.a) (on₁ : On p.second from w.b) (e : w.low ≡ min w.a.address w.b.address) where
    -- cursors on both diffs walk to the lower of their addresses
    walk_to : Walking p w
    walk_to =
        let x = on₀.ahead in
        let y = on₁.ahead in
        record {
          first = on_waits on₀ w.low (omega arith) (omega arith);
          second = on_waits on₁ w.low (omega arith) (omega arith);
          lowest = e;
        }

    -- and no address before it is named
    gap : SameLeft (both p) from w.low
    gap =
        let few = on_few on₀ in
        let x = on₀.ahead in
        let y = on₁.ahead in
        same_left (both p) from w.low (omega arith) (omega arith) λ k l m.
        merged_first _ _ (on_unnamed on₁ k l (omega arith)) ∙ on_unnamed on₀ k l (omega arith)

  -- cursors at the first records begin a walk
  pub begins : (w : Walk) → (w.a.place ≡ 0) × (w.a.address ≡ address_at p.first 0) → (w.b.place ≡ 0) × (w.b.address ≡ address_at p.second 0)
      → w.low ≡ min w.a.address w.b.address → Begun p w
  begins w at₀ at₁ e =
      let on₀ = on_begins p.first w.a at₀ in
      let on₁ = on_begins p.second w.b at₁ in
      record { walking = walk_to on₀ on₁ e; same = gap on₀ on₁ e }

  -- cursors past its address make a turn
  pub turns : (w r : Walk) → Walking p w → w.low < max_blocks → On p.first (w.low + 1) r.a → On p.second (w.low + 1) r.b
      → r.low ≡ min r.a.address r.b.address → Turned p w r
  turns w r walk l on₀ on₁ e =
      let x = on₀.ahead in
      let y = on₁.ahead in
      record {
        walking = walk_to on₀ on₁ e;
        takes = takes_then (both p) w.low (w.low + 1) r.low (walk_takes walk l) (gap on₀ on₁ e);
        rises = omega arith;
      }

  -- ---- counting

  pub count_begins : {w : Walk} → Begun p w → Counting p w 0
  count_begins b = record { walking = b.walking; count = omega (arith, b.same.count); few = count_le (both p) 0 max_blocks }

  pub count_goes_on : {w r : Walk} {n : ℕ} → Counting p w n → Turned p w r → Counting p r (n + 1)
  count_goes_on c t = record { walking = t.walking; count = omega (arith, c.count, t.takes.count); few = c.few }

  pub count_ends : {w : Walk} {n : ℕ} → Counting p w n → max_blocks ≤ w.low → (n ≡ count_of (both p) 0 max_blocks) × (n ≤ max_blocks)
  count_ends {w} c l =
      let all = c.count in
      let none = (none_left (both p) w.low l).1 in
      (omega arith, omega (arith, c.few))

  -- where fewer are counted than there are, one is left; where all are, none is
  pub more_left : {w : Walk} {n : ℕ} → Counting p w n → n < count_of (both p) 0 max_blocks → w.low < max_blocks
  more_left {w} c l = elim (dec_lt w.low max_blocks) [
    | yes m ↦ m
    | no m ↦ absurd (omega (arith, c.count, (none_left (both p) w.low (omega arith)).1))
  ]

  pub no_more : {w : Walk} {n : ℕ} → Counting p w n → count_of (both p) 0 max_blocks ≤ n → max_blocks ≤ w.low
  no_more {w} c l = elim (dec_lt w.low max_blocks) [
    | yes m ↦ absurd (omega (arith, c.count, (walk_takes c.walking m).count))
    | no m ↦ omega arith
  ]

  -- ---- writing

  pub write_begins : {w : Walk} {out : List ℕ} → Begun p w → Writing p out out w 0
  write_begins {w} {out} b = record {
    counting = count_begins b;
    same = refl;
    left = ap (λ (x : List ℕ). put head_size x out) (sym b.same.records);
  }

  pub write_goes_on : {w r : Walk} {old out : List ℕ} {i : ℕ} (y : List ℕ) → Writing p old out w i → Turned p w r
      → head_size + record_size * count_of (both p) 0 max_blocks ≤ length old
      → let at = head_size + record_size * i in y ≡ record_for w.low (both p w.low) ++ drop record_size (take (length out - at) (drop at out))
      → Writing p old (put_mid at (length out - at) out y) r (i + 1)
  write_goes_on {w} {r} {old} {out} {i} y c turned room f =
      let at = head_size + record_size * i in
      let t = turned.takes in
      let counting = count_goes_on c.counting turned in
      let x = record_bytes w.low t.content in
      let n : length x ≡ record_size = record_length w.low t.content ((both_fits p).whole w.low t.content t.named) in
      let same = c.same in
      let now = put_part at record_size x y out n (rw t.named at f) in
      let here : at + record_size ≤ length out = omega (arith, counting.count) in
      let long = put_length at x out (omega arith) in
      let two = rw n at (put_put at x (records_left (both p) r.low) out (omega arith)) in
      let next : head_size + record_size * (i + 1) ≡ at + record_size = omega arith in
      record {
        counting = counting;
        same = rw now (omega arith);
        left = rw (now, next, two, ← t.records) c.left;
      }

  pub write_ends : {w : Walk} {old out : List ℕ} {i : ℕ} → Writing p old out w i → count_of (both p) 0 max_blocks ≤ i
      → out ≡ put head_size (records_of (both p) 0 max_blocks) old
  write_ends {w} {old} {out} {i} c l = sym (put_none (head_size + record_size * i) out) ∙ (rw (none_left (both p) w.low (no_more c.counting l)).0 at c.left)
