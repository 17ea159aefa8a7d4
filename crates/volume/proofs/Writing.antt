-- Records written into an image one after another: what the records left would make of the image as it stands is at every turn what all of them would
-- make of the first one. A record's content put at its block is the map of that record alone, and in a sound diff no later record names the same block.
use Prim.Native.Nat.{ℕ, suc, ◌+◌, ◌-◌, ◌*◌, ◌/◌, ◌%◌, ◌≤◌, ◌<◌}
use mathlib.Core.Path.{◌≡◌, refl, sym, ap, ◌∙◌}
use mathlib.Core.Option.{Option, none, some}
use mathlib.Core.List.{List, ◌++◌}
use native.Mathlib.Numerals.{add-one}
use native.Mathlib.Decide.{ℕ_discrete, dec_le}
use native.Mathlib.Omega.{arith}
use lib.ListN.{length, get_or, take, drop, length-append, get_or-append}
use lib.Seq.{get_or-append-add, get_or-take, get_or-drop, length-take-le, take_all}
use borrow.Rule.Slice.PartMut.{put_mid}
use Rattle.paper.specs.Answer.{answer}
use Rattle.paper.specs.Image.{Map, byte_after, overlay}
use Rattle.paper.specs.Diff.{Head, rest, address_of, content_of, check, seek, named_by}
use Rattle.paper.specs.Merge.{second_else_first, merged}
use Rattle.paper.proofs.Images.{overlay_same}
use Rattle.paper.proofs.Overlay.{is_overlay, overlay_overlay}
use Rattle.paper.proofs.Check.{Sound, sound}
use Rattle.paper.proofs.Names.{named_by_none, named_by_here, named_by_later, content_length, outside_means}
use Rattle.number.specs.Put.{put}
use Rattle.number.proofs.Puts.{put_length}
use Rattle.record.proofs.Stores.{put_part}
use Rattle.volume.specs.Writes.{Writable}

-- ---- bytes put at a place, byte by byte

module _ (k : ℕ) (x s : List ℕ) (fits : k + length x ≤ length s) where
  front_length : length (take k s ++ x) ≡ k + length x
  front_length = simp length-append (omega (arith, length-take-le k s (omega arith)))

  pub put_inside : (j : ℕ) → j < length x → get_or (put k x s) (k + j) 0 ≡ get_or x j 0
  unfolding put
  put_inside j l =
      get_or-append (take k s ++ x) _ 0 (k + j) (omega (arith, front_length))
      ∙ (rw (length-take-le k s (omega arith)) at (get_or-append-add (take k s) x j 0))

  pub put_elsewhere : (i : ℕ) → (k ≤ i → k + length x ≤ i) → get_or (put k x s) i 0 ≡ get_or s i 0
  unfolding put
  put_elsewhere i out = elim (dec_le k i) [
    | yes after ↦
        let e : i ≡ k + length x + (i - (k + length x)) = omega (arith, out after) in
        rw e
        ((rw front_length at (get_or-append-add (take k s ++ x) (drop (k + length x) s) (i - (k + length x)) 0))
        ∙ get_or-drop (k + length x) s (i - (k + length x)) 0)
    | no before ↦
        let l : i < length (take k s) = omega (arith, length-take-le k s (omega arith)) in
        get_or-append (take k s ++ x) _ 0 i (omega (arith, front_length))
        ∙ get_or-append (take k s) x 0 i l
        ∙ get_or-take k s i 0 (omega arith)
  ]

-- a content put at its block is the apply of a map that names this block alone
pub put_block : (img c : List ℕ) (a : ℕ) (f : Map) → length c ≡ 512 → 512 * a + 512 ≤ length img → f a ≡ some c → ((x : ℕ) → (a ≡ x → ⊥) → f x ≡ none)
    → put (512 * a) c img ≡ overlay img f
put_block img c a f whole inside named others = is_overlay img f _ (put_length (512 * a) c img (omega arith)) at_byte
  where
    at_byte : (i : ℕ) → i < length img → get_or (put (512 * a) c img) i 0 ≡ byte_after (f (i / 512)) (i % 512) (get_or img i 0)
    at_byte i l = elim (ℕ_discrete a (i / 512)) [
      | yes here ↦
          let e : i ≡ 512 * a + i % 512 = omega arith in
          rw (← here, named)
          (ap (λ (k : ℕ). get_or (put (512 * a) c img) k 0) e ∙ put_inside (512 * a) c img (omega arith) (i % 512) (omega arith))
      | no other ↦ rw (others (i / 512) other) (put_elsewhere (512 * a) c img (omega arith) i λ from. omega arith)
    ]

-- ---- the records of a sound diff

-- no record writes nothing
pub overlay_nothing : (img d : List ℕ) (j : ℕ) → overlay img (named_by d j 0) ≡ img
unfolding named_by seek
overlay_nothing img d j = sym (is_overlay img (named_by d j 0) img refl λ i l. refl)

second_or_none : (o : Option (List ℕ)) → second_else_first o none ≡ o
second_or_none none = refl
second_or_none (some c) = refl

module _ {d : List ℕ} {h : Head} (s : Sound d h) (j : ℕ) where
  -- the first record and those after it name what all of them name
  first_and_later : (k : ℕ) → j + suc k ≤ h.n → (x : ℕ) → named_by d j (suc k) x ≡ merged (named_by d j 1) (named_by d (suc j) k) x
  unfolding merged
  first_and_later k l x = elim (ℕ_discrete (address_of (rest d j)) x) [
    | yes here ↦
        rw (named_by_here d j 0 x here, named_by_here d j k x here, named_by_none d (suc j) k x λ m f. omega (arith, f.address, s.rising j m (omega arith) (omega arith)))
    | no other ↦
        rw (named_by_later d j 0 x other, named_by_later d j k x other, named_by_none d (suc j) 0 x λ m f. omega arith)
        (sym (second_or_none (named_by d (suc j) k x)))
  ]

  -- a record's content put at its block
  put_record : (img : List ℕ) → j < h.n → 512 * address_of (rest d j) + 512 ≤ length img
      → put (512 * address_of (rest d j)) (content_of (rest d j)) img ≡ overlay img (named_by d j 1)
  put_record img l inside =
      put_block img _ (address_of (rest d j)) _ (content_length s j l) inside (named_by_here d j 0 _ refl)
      λ x other. named_by_later d j 0 x other ∙ named_by_none d (suc j) 0 x λ m f. omega arith

  -- one record more
  pub write_more : (img : List ℕ) (k : ℕ) → j + suc k ≤ h.n → 512 * address_of (rest d j) + 512 ≤ length img
      → overlay img (named_by d j (suc k)) ≡ overlay (put (512 * address_of (rest d j)) (content_of (rest d j)) img) (named_by d (suc j) k)
  write_more img k l inside =
      overlay_same img _ _ (first_and_later k l)
      ∙ sym (overlay_overlay img _ _)
      ∙ ap (λ (m : List ℕ). overlay m (named_by d (suc j) k)) (sym (put_record img (omega arith) inside))

-- ---- the turns

-- the writing before record j of a diff with head h: img₀ is the image as it was lent, img as it stands
pub record Writing (d : List ℕ) (h : Head) (i end : ℕ) (img₀ img : List ℕ) (j : ℕ) : Type 0 where
  pub may : Writable d h j end img
  pub long : length img ≡ length img₀
  pub left : overlay img₀ (named_by d i (end - i)) ≡ overlay img (named_by d j (end - j))

pub write_begins : (d : List ℕ) (h : Head) (i end : ℕ) (img : List ℕ) → Writable d h i end img → Writing d h i end img img i
write_begins d h i end img w = record { may = w; long = refl; left = refl }

module _ {d img₀ img : List ℕ} {h : Head} {i end j : ℕ} (w : Writing d h i end img₀ img j) where
  -- record j stands in the diff
  pub stands : j < end → j < h.n
  stands l = omega (arith, w.may.within)

  -- and its block in the image
  pub block_stands : j < end → 512 * address_of (rest d j) + 512 ≤ length img
  block_stands l =
      let below = (outside_means d h.n (length img / 512)).0 w.may.inside j (stands l) in
      omega arith

  -- record j at x, y in the image's part from there on
  pub write_goes_on : check d ≡ answer h → (x : ℕ) (c y : List ℕ) → j < end → x ≡ address_of (rest d j) → c ≡ content_of (rest d j)
      → y ≡ take 512 c ++ drop 512 (take (length img - 512 * x) (drop (512 * x) img))
      → Writing d h i end img₀ (put_mid (512 * x) (length img - 512 * x) img y) (j + 1)
  write_goes_on passed x c y l e k f =
      let may = w.may in
      let s = sound passed in
      let whole = content_length s j (stands l) in
      let content : take 512 c ≡ content_of (rest d j) = rw k (take_all 512 (content_of (rest d j)) (omega (arith, whole))) in
      let put_there : put_mid (512 * x) (length img - 512 * x) img y ≡ put (512 * x) (content_of (rest d j)) img =
      put_part (512 * x) 512 (content_of (rest d j)) y img whole (rw (← content) f) in
      let inside = block_stands l in
      let kept : length (put (512 * x) (content_of (rest d j)) img) ≡ length img = put_length (512 * x) (content_of (rest d j)) img (omega arith) in
      let more : end - j ≡ suc (end - suc j) = omega arith in
      let step = write_more s j img (end - suc j) (omega (arith, may.within)) inside in
      rw put_there
      (record {
        may = record { order = omega arith; within = may.within; inside = rw kept may.inside };
        long = kept ∙ w.long;
        left = w.left ∙ rw (more, e, add-one) step;
      })

  pub write_ends : end ≤ j → img ≡ overlay img₀ (named_by d i (end - i))
  write_ends l =
      let none_left : end - j ≡ 0 = omega arith in
      sym (w.left ∙ rw none_left (overlay_nothing img d j))
