-- Applying one map over another is applying their merge (the note's b2): it holds byte by byte.
use Prim.Native.Nat.{ℕ, ◌*◌, ◌/◌, ◌%◌, ◌+◌, ◌-◌, ◌≤◌, ◌<◌, min}
use mathlib.Core.Path.{◌≡◌, refl, sym, ◌∙◌}
use mathlib.Core.Option.{Option, none, some}
use mathlib.Core.List.{List}
use mathlib.Core.Logic.{◌⊎◌, inl, inr}
use native.Mathlib.Omega.{arith}
use lib.ListN.{length, get_or}
use lib.Seq.{ext_get_or}
use Rattle.paper.specs.Image.{Map, block, byte_after, overlay}
use Rattle.paper.specs.Merge.{second_else_first, merged}
use Rattle.paper.specs.History.{Mixed}
use Rattle.paper.proofs.Images.{overlay_length, overlay_at, block_at, block_length, blocks_of_equal_bytes}

-- an image after an apply is settled by its bytes
pub is_overlay : (img : List ℕ) (f : Map) (now : List ℕ) → length now ≡ length img
    → ((i : ℕ) → i < length img → get_or now i 0 ≡ byte_after (f (i / 512)) (i % 512) (get_or img i 0)) → now ≡ overlay img f
is_overlay img f now e h =
    ext_get_or 0 now (overlay img f) (e ∙ sym (overlay_length img f)) (λ i k. h i (omega (arith, e)) ∙ sym (overlay_at img f i (omega (arith, e))))

-- b2: first f and then g is their merge
pub overlay_overlay : (img : List ℕ) (f g : Map) → overlay (overlay img f) g ≡ overlay img (merged f g)
unfolding merged
overlay_overlay img f g =
    is_overlay img (merged f g) (overlay (overlay img f) g) (overlay_length (overlay img f) g ∙ overlay_length img f) (λ i k. at_byte i k (f (i / 512)) (g (i / 512)) refl refl)
  where
    at_byte : (i : ℕ) → i < length img → (c d : Option (List ℕ)) → f (i / 512) ≡ c → g (i / 512) ≡ d
        → get_or (overlay (overlay img f) g) i 0 ≡ byte_after (second_else_first (g (i / 512)) (f (i / 512))) (i % 512) (get_or img i 0)
    at_byte i k c d x y =
        rw (overlay_at (overlay img f) g i (rw overlay_length k), overlay_at img f i k, x, y) (last c d)
      where
        last : (c d : Option (List ℕ)) → byte_after d (i % 512) (byte_after c (i % 512) (get_or img i 0)) ≡ byte_after (second_else_first d c) (i % 512) (get_or img i 0)
        last c none = refl
        last c (some z) = refl

-- a block that a map does not name stays
pub unnamed_stays : (img : List ℕ) (f : Map) (a : ℕ) → f a ≡ none → block (overlay img f) a ≡ block img a
unnamed_stays img f a n =
    blocks_of_equal_bytes (overlay img f) img a (overlay_length img f) (λ i k e. rw (overlay_at img f i (rw overlay_length at k), e, n))

-- a block that it names becomes the content
pub named_becomes : (img : List ℕ) (f : Map) (a : ℕ) (c : List ℕ) → f a ≡ some c → length c ≡ 512 → 512 * a + 512 ≤ length img → block (overlay img f) a ≡ c
named_becomes img f a c y l m =
    ext_get_or 0 (block (overlay img f) a) c (block_length (overlay img f) a ∙ rw (overlay_length, l) (omega arith)) same_byte
  where
    same_byte : (k : ℕ) → k < length (block (overlay img f) a) → get_or (block (overlay img f) a) k 0 ≡ get_or c k 0
    same_byte k u =
        let v : k < min 512 (length (overlay img f) - 512 * a) = rw block_length at u in
        let d : (512 * a + k) / 512 ≡ a = omega arith in
        let r : (512 * a + k) % 512 ≡ k = omega arith in
        block_at (overlay img f) a k (omega arith) ∙ rw (overlay_at img f (512 * a + k) (omega arith), d, r, y)

-- a cut of an apply leaves the blocks that are not named
pub mixed_stays : (img : List ℕ) (f : Map) (now : List ℕ) (a : ℕ) → Mixed img (overlay img f) now → f a ≡ none → block now a ≡ block img a
mixed_stays img f now a m n = blocks_of_equal_bytes now img a m.long (λ i k e. go i e (m.bytes i (omega (arith, m.long))) (omega (arith, m.long)))
  where
    go : (i : ℕ) → i / 512 ≡ a → (get_or now i 0 ≡ get_or img i 0) ⊎ (get_or now i 0 ≡ get_or (overlay img f) i 0) → i < length img → get_or now i 0 ≡ get_or img i 0
    go i e (inl x) k = x
    go i e (inr x) k = x ∙ rw (overlay_at img f i k, e, n)
