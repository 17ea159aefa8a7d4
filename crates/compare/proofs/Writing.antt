-- The walk that writes: at block a, what `out` is to hold is what it holds with the records from a on put at the place reached.
use Prim.Native.Nat.{ℕ, ◌+◌, ◌-◌, ◌*◌, ◌≤◌, ◌<◌}
use mathlib.Core.Path.{◌≡◌, refl, sym, ◌∙◌}
use mathlib.Core.Option.{none, some}
use mathlib.Core.List.{List, ◌++◌}
use mathlib.Core.Bool.{Bool, true, false, cond}
use native.Mathlib.Omega.{arith}
use lib.ListN.{length, get_or, take, drop}
use borrow.Rule.Slice.PartMut.{put_mid}
use Rattle.paper.specs.Limits.{block_bytes, record_size, head_size}
use Rattle.paper.specs.Image.{block}
use Rattle.paper.specs.Diff.{one_for, record_bytes, records_of, count_of}
use Rattle.paper.proofs.Images.{block_whole}
use Rattle.paper.proofs.Parts.{record_length}
use Rattle.paper.proofs.Meaning.{count_left, records_left, records_zero}
use Rattle.number.specs.Put.{put}
use Rattle.number.proofs.Puts.{put_length, put_none, put_put}
use Rattle.record.proofs.Walk.{part_block}
use Rattle.record.proofs.Stores.{put_part}
use Rattle.record.proofs.StateLaws.{put_first}
use Rattle.compare.specs.Marks.{marked}

-- The walk stands at block a, and the next record goes to byte `at`.
pub record Writing (new : List ℕ) (marks : List Bool) (start out : List ℕ) (at a : ℕ) : Type 0 where
  pub room : at + record_size * count_of (marked marks new) a (length marks - a) ≤ length out
  pub left : put head_size (records_of (marked marks new) 0 (length marks)) start ≡ put at (records_of (marked marks new) a (length marks - a)) out

-- a block that is marked is named with its content, and one that is not marked is not named
named_here : (marks : List Bool) (new : List ℕ) (a : ℕ) {t : Bool} → get_or marks a false ≡ t → marked marks new a ≡ cond t (some (block new a)) none
unfolding marked
named_here marks new a e = rw e

module _ {new : List ℕ} {marks : List Bool} {start out : List ℕ} {at a : ℕ} (w : Writing new marks start out at a) (l : a < length marks) where
  -- a block that is not marked has no record
  pub write_skips : get_or marks a false ≡ false → Writing new marks start out at (a + 1)
  write_skips e =
      let no : marked marks new a ≡ none = named_here marks new a e in
      let zero_here : one_for (marked marks new a) ≡ 0 = rw no in
      record {
        room = omega (arith, w.room, count_left (marked marks new) a (length marks) l);
        left = w.left ∙ rw (records_left (marked marks new) a (length marks) l, no);
      }

  -- one that is marked has room for its record
  pub write_room : get_or marks a false ≡ true → at + record_size * (1 + count_of (marked marks new) (a + 1) (length marks - (a + 1))) ≤ length out
  write_room e =
      let one : one_for (marked marks new a) ≡ 1 = rw (named_here marks new a e) in
      omega (arith, w.room, count_left (marked marks new) a (length marks) l)

  -- the record is put there, and the next goes behind it
  pub write_takes : length new ≡ block_bytes * length marks → get_or marks a false ≡ true → {y : List ℕ}
      → y ≡ put 0 (record_bytes a (take 512 (take (length new - 512 * a) (drop (512 * a) new)))) (take (length out - at) (drop at out))
      → Writing new marks start (put_mid at (length out - at) out y) (at + 518) (a + 1)
  write_takes whole e {y} f =
      let x = record_bytes a (block new a) in
      let size : length x ≡ record_size = record_length a (block new a) (block_whole new a (omega arith)) in
      let room = write_room e in
      let lent : y ≡ x ++ drop record_size (take (length out - at) (drop at out)) =
      f ∙ put_first _ _ ∙ rw (part_block new a (512 * a) refl, size) in
      let back : put_mid at (length out - at) out y ≡ put at x out = put_part at record_size x y out size lent in
      let kept : length (put at x out) ≡ length out = put_length at x out (omega arith) in
      let more = put_put at x (records_of (marked marks new) (a + 1) (length marks - (a + 1))) out (omega arith) in
      rw back (record {
        room = omega arith;
        left = w.left ∙ rw (records_left (marked marks new) a (length marks) l, named_here marks new a e) (sym (rw size at more));
      })

-- past the last block all is written
pub write_ends : {new : List ℕ} {marks : List Bool} {start out : List ℕ} {at a : ℕ} → Writing new marks start out at a → length marks ≤ a
    → out ≡ put head_size (records_of (marked marks new) 0 (length marks)) start
write_ends {marks} {out} {at} {a} w l =
    let e : length marks - a ≡ 0 = omega arith in
    sym (w.left ∙ rw (e, records_zero) (put_none at out))
