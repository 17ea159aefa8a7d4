-- What a comparison gives: the one compared diff that names the blocks where two images differ, with the second's content.
-- Put over the first image it gives the second, since a block that is not named is the same in both.
use Prim.Native.Nat.{ℕ, ◌+◌, ◌*◌, ◌/◌, ◌≤◌, ◌<◌}
use mathlib.Core.Path.{◌≡◌, refl, sym, ap, ◌∙◌}
use mathlib.Core.Option.{none, some}
use mathlib.Core.List.{List}
use mathlib.Core.Bool.{Bool, true, false, not, ◌||◌}
use lib.Dec.{eqb}
use lib.ListN.{length}
use lib.Seq.{ext_get_or}
use native.Mathlib.Omega.{arith}
use native.Mathlib.Decide.{dec_le}
use borrow.Author.Tests.{eqb-true, eq-eqb, not-false}
use Rattle.paper.specs.Limits.{block_bytes, max_blocks}
use Rattle.paper.specs.Answer.{answer, Wrote, BadImage, BadHead}
use Rattle.paper.specs.Image.{bad_image, block, overlay, same}
use Rattle.paper.specs.Diff.{compared_head, bad_head, check, named, counted, written}
use Rattle.paper.specs.Compare.{differing, compare}
use Rattle.paper.proofs.Answers.{guard_answer, wrote, output_answer, output_fits}
use Rattle.paper.proofs.Bools.{neither}
use Rattle.paper.proofs.Names.{Fits}
use Rattle.paper.proofs.Meaning.{reads_back_check, reads_back_map}
use Rattle.paper.proofs.Images.{WholeImage, whole_image, byte_of_block, block_whole, block_beyond, overlay_length, overlay_at, overlay_same, same_true, same_false}

-- ---- where two images differ

-- Block a is the same in both images, or it differs and is named with the second's content.
pub data ComparedBlock (old new : List ℕ) (a : ℕ) : Type 0 where
  alike : block old a ≡ block new a → differing old new a ≡ none → ComparedBlock old new a
  unlike : (block old a ≡ block new a → ⊥) → differing old new a ≡ some (block new a) → ComparedBlock old new a

-- one of the two is so
pub compared_block : (old new : List ℕ) (a : ℕ) → ComparedBlock old new a
unfolding differing
compared_block old new a = go (same (block old a) (block new a)) refl
  where
    go : (t : Bool) → same (block old a) (block new a) ≡ t → ComparedBlock old new a
    go true e = alike (same_true _ _ e) (rw e)
    go false e = unlike (same_false _ _ e) (rw e)

-- beyond the images nothing differs
pub alike_beyond : (old new : List ℕ) (a : ℕ) → length old ≡ length new → length new ≤ block_bytes * a → differing old new a ≡ none
alike_beyond old new a long l = elim (compared_block old new a) [
  | alike s n ↦ n
  | unlike s n ↦ absurd (s (block_beyond old a (omega arith) ∙ sym (block_beyond new a l)))
]

-- the map of a comparison is one that a diff can mean
pub differing_fits : (old new : List ℕ) → WholeImage new → length old ≡ length new → Fits (differing old new)
differing_fits old new w long = record { within = λ a c e. (of a c e).0; whole = λ a c e. (of a c e).1 }
  where
    of : (a : ℕ) (c : List ℕ) → differing old new a ≡ some c → (a < max_blocks) × (length c ≡ block_bytes)
    of a c e = elim (compared_block old new a) [
      | alike s n ↦ let z : ◌≡◌ {A = ℕ} 0 1 = cc in absurd (omega arith)
      | unlike s n ↦ elim (dec_le (length new) (block_bytes * a)) [
        | yes l ↦ let z : ◌≡◌ {A = ℕ} 0 1 = cc (alike_beyond old new a long l) in absurd (omega arith)
        | no l ↦
            let c_is : c ≡ block new a = cc in
            let inside : block_bytes * a + block_bytes ≤ length new = omega arith in
            (omega arith, rw c_is (block_whole new a inside))
      ]
    ]

-- the comparison takes the first image to the second
pub overlay_differing : (old new : List ℕ) → length old ≡ length new → overlay old (differing old new) ≡ new
overlay_differing old new long =
    ext_get_or 0 (overlay old (differing old new)) new (overlay_length old (differing old new) ∙ long) λ i l.
    let inside : i < length old = omega (arith, overlay_length old (differing old new)) in
    overlay_at old (differing old new) i inside ∙ elim (compared_block old new (i / block_bytes)) [
      | alike s n ↦ rw n (sym (byte_of_block old i) ∙ rw s (byte_of_block new i))
      | unlike s n ↦ rw n (byte_of_block new i)
    ]

-- ---- what a comparison gives

-- A comparison of two images: what holds of the two, and of what is written.
pub record CompareOf (old new : List ℕ) (p q : ℕ) (w : Wrote ℕ) : Type 0 where
  pub old_image : bad_image old ≡ false
  pub new_image : bad_image new ≡ false
  pub long : length old ≡ length new
  pub good : bad_head (compared_head p q) ≡ false
  pub value : w.value ≡ length w.bytes
  pub bytes : w.bytes ≡ written (compared_head p q) (differing old new)
  pub passes : check w.bytes ≡ answer (counted (compared_head p q) (differing old new))
  pub names : (a : ℕ) → named w.bytes a ≡ differing old new a
  pub leads : overlay old (named w.bytes) ≡ new

-- what an answer of a comparison says
pub compare_of : {w : Wrote ℕ} (old new : List ℕ) (p q room : ℕ) → compare old new p q room ≡ answer w → CompareOf old new p q w
unfolding compare
compare_of {w} old new p q room e =
    let images = guard_answer (bad_image old || bad_image new || not (eqb (length old) (length new))) BadImage _ e in
    let (bad, unequal) = neither (bad_image old || bad_image new) _ images.clear in
    let (old_image, new_image) = neither (bad_image old) (bad_image new) bad in
    let head = guard_answer (bad_head (compared_head p q)) BadHead _ images.onward in
    let o = output_answer (written (compared_head p q) (differing old new)) room head.onward in
    let long = eqb-true (length old) (length new) (not-false _ unequal) in
    let fits = differing_fits old new (whole_image new new_image) long in
    let names : (a : ℕ) → named w.bytes a ≡ differing old new a = λ a. rw o.bytes (reads_back_map _ _ head.clear fits a) in
    record {
      old_image = old_image;
      new_image = new_image;
      long = long;
      good = head.clear;
      value = o.value ∙ ap length (sym o.bytes);
      bytes = o.bytes;
      passes = rw o.bytes (reads_back_check _ _ head.clear fits);
      names = names;
      leads = overlay_same old _ _ names ∙ overlay_differing old new long;
    }

-- two whole images of one length are compared, where the gids are good and there is room
pub compares : (old new : List ℕ) (p q room : ℕ) → bad_image old ≡ false → bad_image new ≡ false → length old ≡ length new
    → bad_head (compared_head p q) ≡ false → length (written (compared_head p q) (differing old new)) ≤ room
    → compare old new p q room ≡ answer (wrote (written (compared_head p q) (differing old new)))
unfolding compare
compares old new p q room old_image new_image long good fits =
    rw (old_image, new_image, eq-eqb (length old) (length new) long, good) (output_fits _ room fits)
