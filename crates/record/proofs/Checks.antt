-- What the checks of `paper` answer, one law for each answer: a broken rule is refused whatever the others say.
use Prim.Native.Nat.{ℕ, ◌*◌, ◌%◌, ◌≤◌, ◌<◌, ◌/◌}
use mathlib.Core.Path.{◌≡◌}
use mathlib.Core.List.{List}
use mathlib.Core.Bool.{true, false, or-true}
use lib.ListN.{length}
use borrow.Author.Tests.{lt-ltb, le-ltb, le-leb, ne_eqb}
use Rattle.paper.specs.Limits.{max_gid, max_blocks, max_address, block_bytes, block_mark}
use Rattle.paper.specs.Number.{opens}
use Rattle.paper.specs.Answer.{answer, refuse, BadHead, TooMany, BadMark, BadOrder, BadImage}
use Rattle.paper.specs.Diff.{Head, bad_head, check_head, address_of, check_record}
use Rattle.paper.specs.Image.{bad_image, check_image}
use Rattle.paper.proofs.Check.{GoodHead, good_passes}
use Rattle.paper.proofs.Images.{WholeImage, whole_passes}

-- ---- the head rules

-- one of the rules of BadHead, broken
pub data BreaksHead (h : Head) : Type 0 where
  kind : 1 < h.kind → BreaksHead h
  spare : (h.spare ≡ 0 → ⊥) → BreaksHead h
  large_p : max_gid < h.p → BreaksHead h
  large_q : max_gid < h.q → BreaksHead h
  falls : h.q ≤ h.p → BreaksHead h

-- a head that breaks one is refused
pub head_refused : {h : Head} → BreaksHead h → check_head h ≡ refuse BadHead
unfolding check_head bad_head
head_refused {h} (kind l) = rw (lt-ltb 1 h.kind l)
head_refused {h} (spare n) = simp (ne_eqb h.spare 0 n, or-true)
head_refused {h} (large_p l) = simp (lt-ltb max_gid h.p l, or-true)
head_refused {h} (large_q l) = simp (lt-ltb max_gid h.q l, or-true)
head_refused {h} (falls l) = simp (le-leb h.q h.p l, or-true)

-- a good head with too many blocks is refused
pub head_too_many : {h : Head} → GoodHead h → max_blocks < h.n → check_head h ≡ refuse TooMany
unfolding check_head
head_too_many {h} good l = rw (good_passes good, lt-ltb max_blocks h.n l)

-- any other good head is answered
pub head_accepted : {h : Head} → GoodHead h → h.n ≤ max_blocks → check_head h ≡ answer h
unfolding check_head
head_accepted {h} good l = rw (good_passes good, le-ltb max_blocks h.n l)

-- ---- a block record

-- the mark goes first
pub record_unmarked : (r : List ℕ) (low : ℕ) → opens r block_mark ≡ false → check_record r low ≡ refuse BadMark
unfolding check_record
record_unmarked r low e = rw e

-- an address above the largest
pub record_large : (r : List ℕ) (low : ℕ) → opens r block_mark ≡ true → max_address < address_of r → check_record r low ≡ refuse BadOrder
unfolding check_record
record_large r low e l = rw (e, lt-ltb max_address (address_of r) l)

-- an address below the lowest still allowed
pub record_low : (r : List ℕ) (low : ℕ) → opens r block_mark ≡ true → address_of r < low → check_record r low ≡ refuse BadOrder
unfolding check_record
record_low r low e l = rw (e, lt-ltb (address_of r) low l, or-true)

-- ---- the image rule

-- one of the rules of BadImage, broken
pub data BreaksImage (img : List ℕ) : Type 0 where
  empty : length img ≡ 0 → BreaksImage img
  ragged : (length img % block_bytes ≡ 0 → ⊥) → BreaksImage img
  long : block_bytes * max_blocks < length img → BreaksImage img

-- an image that breaks one is refused
pub image_refused : {img : List ℕ} → BreaksImage img → check_image img ≡ refuse BadImage
unfolding check_image bad_image
image_refused {img} (empty e) = rw e
image_refused {img} (ragged n) = simp (ne_eqb (length img % block_bytes) 0 n, or-true)
image_refused {img} (long l) = simp (lt-ltb (block_bytes * max_blocks) (length img) l, or-true)

-- a whole image answers its number of blocks
pub image_accepted : {img : List ℕ} → WholeImage img → check_image img ≡ answer (length img / block_bytes)
unfolding check_image
image_accepted w = rw (whole_passes w)
