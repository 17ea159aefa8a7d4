-- A read-through shows block a as it stands after the apply: the record's content where one names a, else the image's own block.
use Prim.Native.Nat.{ℕ, ◌+◌, ◌*◌, ◌≤◌, ◌<◌}
use mathlib.Core.Path.{◌≡◌, refl, sym, ap, ◌∙◌}
use mathlib.Core.Option.{Option, none, some}
use mathlib.Core.List.{List}
use mathlib.Core.Bool.{◌||◌}
use native.Mathlib.Omega.{arith}
use lib.Dec.{leb}
use lib.ListN.{length, take, drop}
use lib.Seq.{drop-drop}
use borrow.Author.Tests.{leb-false}
use Rattle.paper.specs.Limits.{block_bytes}
use Rattle.paper.specs.Answer.{answer, Outside}
use Rattle.paper.specs.Image.{check_image, block, overlay}
use Rattle.paper.specs.Diff.{Head, rest, content_of, check, seek, named_by, named, names_outside}
use Rattle.paper.specs.Volume.{View, shown, view_of, read_through}
use Rattle.paper.proofs.Bools.{or_false_right}
use Rattle.paper.proofs.Answers.{answer_injective, guard_answer, then_answer}
use Rattle.paper.proofs.Images.{image_blocks}
use Rattle.paper.proofs.Overlay.{unnamed_stays, named_becomes}
use Rattle.paper.proofs.Check.{Sound, sound}
use Rattle.paper.proofs.Names.{sound_fits}

-- the content of record i, by its place in the diff
pub content_place : (d : List ℕ) (i : ℕ) → take 512 (drop (24 + 518 * i + 6) d) ≡ content_of (rest d i)
unfolding content_of
content_place d i = ap (take 512) (sym (drop-drop 6 (24 + 518 * i) d))

-- A read-through that answers: the diff is sound, block a lies in the image, and the view is that of the record that names it, or of the image.
pub record ReadsThrough (d img : List ℕ) (a : ℕ) (v : View) : Type 0 where
  pub head : Head
  pub sound : Sound d head
  pub inside : block_bytes * a + block_bytes ≤ length img
  pub view : v ≡ view_of a (seek d a 0 head.n)

pub reads_through : {v : View} (d img : List ℕ) (a : ℕ) → read_through d img a ≡ answer v → ReadsThrough d img a v
unfolding read_through
reads_through d img a e =
    let c₁ = then_answer (check d) _ e in
    let c₂ = then_answer (check_image img) _ c₁.onward in
    let c₃ = guard_answer (names_outside d 0 c₁.first.n c₂.first || leb c₂.first a) Outside _ c₂.onward in
    let inside : a < c₂.first = leb-false _ _ (or_false_right (names_outside d 0 c₁.first.n c₂.first) _ c₃.clear) in
    let m = image_blocks img c₂.answered in
    record { head = c₁.first; sound = sound c₁.answered; inside = omega arith; view = sym (answer_injective c₃.onward) }

-- "A read-through shows block a as it would stand after the apply"
pub read_through_shows : {v : View} (d img : List ℕ) (a : ℕ) → read_through d img a ≡ answer v → shown d img v ≡ block (overlay img (named d)) a
unfolding shown named named_by block
read_through_shows {v} d img a e =
    let r = reads_through d img a e in
    ap (shown d img) r.view ∙ go r.head r.sound r.inside (seek d a 0 r.head.n) refl
  where
    go : (h : Head) → Sound d h → 512 * a + 512 ≤ length img → (o : Option ℕ) → seek d a 0 h.n ≡ o → shown d img (view_of a (seek d a 0 h.n)) ≡ block (overlay img (named d)) a
    go h s l none n = rw n (sym (unnamed_stays img (named d) a (rw (← s.head, n))))
    go h s l (some i) n =
        let y : named d a ≡ some (content_of (rest d i)) = rw (← s.head, n) in
        rw n (content_place d i ∙ sym (named_becomes img (named d) a (content_of (rest d i)) y ((sound_fits s).whole a _ y) l))
