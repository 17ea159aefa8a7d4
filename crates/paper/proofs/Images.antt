-- Images byte by byte: byte i lies in block i / 512, at i % 512 of it. So blocks that are equal have equal bytes, and the other way round.
use Prim.Native.Nat.{ℕ, zero, suc, ◌+◌, ◌*◌, ◌/◌, ◌%◌, ◌-◌, ◌≤◌, ◌<◌, min}
use mathlib.Core.Path.{◌≡◌, refl, sym, ap, fun_ext, ◌∙◌}
use mathlib.Core.List.{List, [], ◌∷◌}
use mathlib.Core.Logic.{◌↔◌}
use mathlib.Core.Bool.{true, false, not, ◌||◌, true≢false, false≢true}
use native.Mathlib.Omega.{arith}
use native.Mathlib.Nat.{not-suc-le-zero, le_of_suc-le-suc}
use lib.Dec.{eqb, ltb}
use borrow.Author.Tests.{ltb-false, eqb-true, eqb-false, eq-eqb, ne_eqb, not-false, le-ltb}
use lib.ListN.{length, get_or, drop, length-take, length-drop, drop_of_length-le}
use lib.Seq.{get_or-take, get_or-drop, ext_get_or}
use Rattle.paper.specs.Limits.{block_bytes, max_blocks}
use Rattle.paper.specs.Image.{Map, bad_image, check_image, block, each, byte_after, overlay, same}
use Rattle.paper.specs.Answer.{answer, refuse, BadImage}
use Rattle.paper.proofs.Answers.{answer_injective, guard_answer, guard_refuse}
use Rattle.paper.proofs.Numbers.{part_length}
use Rattle.paper.proofs.Bools.{neither, and_true_left, and_true_right}

pub each_length : (n : ℕ) (f : ℕ → ℕ) → length (each n f) ≡ n
unfolding each
each_length zero f = refl
each_length (suc n) f = ap suc (each_length n (λ k. f (suc k)))

pub each_at : (n : ℕ) (f : ℕ → ℕ) (i : ℕ) → i < n → get_or (each n f) i 0 ≡ f i
unfolding each
each_at zero f i h = absurd (not-suc-le-zero h)
each_at (suc n) f zero h = refl
each_at (suc n) f (suc i) h = each_at n (λ k. f (suc k)) i (le_of_suc-le-suc h)

-- an apply keeps the length
pub overlay_length : (img : List ℕ) (f : Map) → length (overlay img f) ≡ length img
unfolding overlay
overlay_length img f = each_length _ _

-- byte i after an apply: the content's where block i / 512 is named, else the old one
pub overlay_at : (img : List ℕ) (f : Map) (i : ℕ) → i < length img → get_or (overlay img f) i 0 ≡ byte_after (f (i / 512)) (i % 512) (get_or img i 0)
unfolding overlay
overlay_at img f i h = each_at (length img) (λ k. byte_after (f (k / 512)) (k % 512) (get_or img k 0)) i h

pub block_length : (img : List ℕ) (a : ℕ) → length (block img a) ≡ min 512 (length img - 512 * a)
unfolding block
block_length img a = length-take 512 (drop (512 * a) img) ∙ ap (λ (k : ℕ). min 512 k) (length-drop (512 * a) img)

-- byte k of block a
pub block_at : (img : List ℕ) (a k : ℕ) → k < 512 → get_or (block img a) k 0 ≡ get_or img (512 * a + k) 0
unfolding block
block_at img a k h = get_or-take 512 (drop (512 * a) img) k 0 h ∙ get_or-drop (512 * a) img k 0

-- byte i is in block i / 512, at i % 512
pub byte_of_block : (img : List ℕ) (i : ℕ) → get_or (block img (i / 512)) (i % 512) 0 ≡ get_or img i 0
byte_of_block img i =
    let e : 512 * (i / 512) + i % 512 ≡ i = omega arith in
    block_at img (i / 512) (i % 512) (omega arith) ∙ ap (λ (k : ℕ). get_or img k 0) e

pub bytes_of_equal_blocks : (x y : List ℕ) (i : ℕ) → block x (i / 512) ≡ block y (i / 512) → get_or x i 0 ≡ get_or y i 0
bytes_of_equal_blocks x y i e = sym (byte_of_block x i) ∙ ap (λ (c : List ℕ). get_or c (i % 512) 0) e ∙ byte_of_block y i

pub blocks_of_equal_bytes : (x y : List ℕ) (a : ℕ) → length x ≡ length y → ((i : ℕ) → i < length x → i / 512 ≡ a → get_or x i 0 ≡ get_or y i 0) → block x a ≡ block y a
blocks_of_equal_bytes x y a e h = ext_get_or 0 (block x a) (block y a) (cc (block_length x a, block_length y a)) same_byte
  where
    same_byte : (k : ℕ) → k < length (block x a) → get_or (block x a) k 0 ≡ get_or (block y a) k 0
    same_byte k l =
        let m : k < min 512 (length x - 512 * a) = rw block_length at l in
        block_at x a k (omega arith) ∙ h (512 * a + k) (omega arith) (omega arith) ∙ sym (block_at y a k (omega arith))

-- `same` is true of equal lists alone
pub same_true : (xs ys : List ℕ) → same xs ys ≡ true → xs ≡ ys
unfolding same
same_true [] [] e = refl
same_true [] (y ∷ ys) e = absurd (false≢true e)
same_true (x ∷ xs) [] e = absurd (false≢true e)
same_true (x ∷ xs) (y ∷ ys) e =
    let h : x ≡ y = eqb-true x y (and_true_left _ _ e) in
    let t : xs ≡ ys = same_true xs ys (and_true_right (eqb x y) _ e) in
    cc

-- an image that passes has as many whole blocks as are answered
pub image_blocks : {m : ℕ} (img : List ℕ) → check_image img ≡ answer m → m ≡ length img / 512
unfolding check_image
image_blocks img e = sym (answer_injective (guard_answer (bad_image img) BadImage _ e).onward)

-- an image is refused where it is bad, and only with BadImage
pub image_no : {k : ℕ} (img : List ℕ) → check_image img ≡ refuse k → (bad_image img ≡ true) × (BadImage ≡ k)
unfolding check_image
image_no img e = guard_refuse (bad_image img) BadImage _ e

-- and passes where it is not
pub image_yes : {m : ℕ} (img : List ℕ) → check_image img ≡ answer m → bad_image img ≡ false
unfolding check_image
image_yes img e = (guard_answer (bad_image img) BadImage _ e).clear

-- the image rule looks at the length alone
pub same_length_image : (x y : List ℕ) → length x ≡ length y → check_image x ≡ check_image y
unfolding check_image bad_image
same_length_image x y e = rw e

-- The rules of BadImage, turned round.
pub record WholeImage (img : List ℕ) : Type 0 where
  pub some_block : 0 < length img
  pub blocks : length img % block_bytes ≡ 0
  pub few : length img ≤ block_bytes * max_blocks

-- an image that is not bad is whole
pub whole_image : (img : List ℕ) → bad_image img ≡ false → WholeImage img
unfolding bad_image
whole_image img e =
    let part = not (eqb (length img % block_bytes) 0) in
    let (e₂, long) = neither (eqb (length img) 0 || part) (ltb (block_bytes * max_blocks) (length img)) e in
    let (empty, blocks) = neither (eqb (length img) 0) part e₂ in
    record {
      some_block = omega (arith, eqb-false (length img) 0 empty);
      blocks = eqb-true (length img % block_bytes) 0 (not-false _ blocks);
      few = ltb-false (block_bytes * max_blocks) (length img) long;
    }

-- a whole image is not bad
pub whole_passes : {img : List ℕ} → WholeImage img → bad_image img ≡ false
unfolding bad_image
whole_passes {img} w =
    rw (ne_eqb (length img) 0 (omega arith), eq-eqb (length img % block_bytes) 0 w.blocks) (le-ltb (block_bytes * max_blocks) (length img) w.few)

-- a block within the image is whole
pub block_whole : (img : List ℕ) (a : ℕ) → block_bytes * a + block_bytes ≤ length img → length (block img a) ≡ block_bytes
unfolding block
block_whole img a l = part_length img (block_bytes * a) block_bytes l

-- beyond the image there is nothing
pub block_beyond : (img : List ℕ) (a : ℕ) → length img ≤ block_bytes * a → block img a ≡ []
unfolding block
block_beyond img a l = rw (drop_of_length-le img l)

-- an overlay hangs on the map's values alone
pub overlay_same : (img : List ℕ) (f g : Map) → ((a : ℕ) → f a ≡ g a) → overlay img f ≡ overlay img g
overlay_same img f g e = ap (overlay img) (fun_ext e)

-- a list is found the same as itself
pub same_self : (u : List ℕ) → same u u ≡ true
unfolding same
same_self [] = refl
same_self (x ∷ u) = rw (eq-eqb x x refl) (same_self u)

-- lists are found the same exactly where they are equal
pub same_means : (u v : List ℕ) → (same u v ≡ true) ↔ (u ≡ v)
same_means u v = (same_true u v, λ e. rw e (same_self v))

-- lists that are not found the same are not equal
pub same_false : (u v : List ℕ) → same u v ≡ false → u ≡ v → ⊥
same_false u v e q = true≢false (sym ((same_means u v).1 q) ∙ e)
