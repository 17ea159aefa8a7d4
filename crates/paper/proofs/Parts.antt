-- The bytes of a head and of a block record are read back as what was written, and marked bytes are what is read from them, written:
-- each part stands where its length puts it.
use Prim.Native.Nat.{ℕ, ◌+◌, ◌≤◌, ◌<◌}
use mathlib.Core.Path.{◌≡◌, refl}
use mathlib.Core.List.{List, [], ◌∷◌, ◌++◌, append_assoc}
use mathlib.Core.Bool.{true}
use lib.ListN.{length, take, drop, length-append, take-append-drop}
use lib.Seq.{drop-cons, drop-drop, drop_at, take_at}
use native.Mathlib.Omega.{arith}
use borrow.Author.Tests.{eqb-true}
use Rattle.paper.specs.Limits.{max_blocks, block_bytes, head_size, record_size, content_at, head_mark, block_mark}
use Rattle.paper.specs.Number.{Bytes, spelled, field, opens}
use Rattle.paper.specs.Diff.{Head, head_of, head_bytes, address_of, content_of, record_bytes}
use Rattle.paper.proofs.Bools.{both_true}
use Rattle.paper.proofs.Numbers.{bytes_two, spelled_length, spelled_bytes, bytes_append, field_at, spelled_field}
use Rattle.paper.proofs.Check.{GoodHead}

-- ---- parts

-- a part and what follows it are what stands there
pub part_joins : (s : List ℕ) (k w : ℕ) → take w (drop k s) ++ drop (k + w) s ≡ drop k s
part_joins s k w = rw (← drop-drop w k s) (take-append-drop w (drop k s))

-- a field spelled and what follows it are what stands there
pub field_joins : (s : List ℕ) (k w : ℕ) → Bytes s → k + w ≤ length s → spelled w (field s k w) ++ drop (k + w) s ≡ drop k s
field_joins s k w h l = rw (spelled_field s k w h l) (part_joins s k w)

-- bytes that open with a mark are the mark and the rest
pub opened : (s : List ℕ) (x y : ℕ) → 2 ≤ length s → opens s (x ∷ y ∷ []) ≡ true → x ∷ y ∷ drop 2 s ≡ s
unfolding opens
opened [] x y l e = absurd (omega arith)
opened (a ∷ []) x y l e = absurd (omega arith)
opened (a ∷ b ∷ s) x y l e =
    let (first, second) = both_true _ _ e in
    rw (eqb-true a x first, eqb-true b y second)

-- ---- the head

-- the parts of a head's bytes, one after the other
pub head_parts : (h : Head) (v : List ℕ) → head_bytes h ++ v
    ≡ 0x57 ∷ 0x44 ∷ h.kind ∷ h.spare ∷ (spelled 8 h.p ++ (spelled 8 h.q ++ (spelled 4 h.n ++ v)))
unfolding head_bytes
head_parts h v = simp append_assoc

-- a head is as long as it is said to be
pub head_length : (h : Head) → length (head_bytes h) ≡ head_size
unfolding head_bytes
head_length h = simp (length-append, spelled_length) (omega arith)

-- a head is marked
pub head_marked : (h : Head) (v : List ℕ) → opens (head_bytes h ++ v) head_mark ≡ true
unfolding opens
head_marked h v = rw head_parts

-- a good head is read back
pub head_back : (h : Head) (v : List ℕ) → GoodHead h → h.n ≤ max_blocks → head_of (head_bytes h ++ v) ≡ h
unfolding head_of
head_back h v good few =
    let mark : List ℕ = 0x57 ∷ 0x44 ∷ h.kind ∷ h.spare ∷ [] in
    let p = field_at mark (spelled 8 h.q ++ (spelled 4 h.n ++ v)) 8 h.p 4 refl (omega arith) in
    let q = field_at (mark ++ spelled 8 h.p) (spelled 4 h.n ++ v) 8 h.q 12 (simp spelled_length) (omega arith) in
    let n = field_at (mark ++ (spelled 8 h.p ++ spelled 8 h.q)) v 4 h.n 20 (simp (length-append, spelled_length)) (omega arith) in
    let n' = simp append_assoc at n in
    rw head_parts λ i. record { kind = h.kind; spare = h.spare; p = p i; q = q i; n = n' i }

-- a good head is written in bytes
pub head_is_bytes : (h : Head) → GoodHead h → Bytes (head_bytes h)
unfolding head_bytes
head_is_bytes h good =
    let mark = bytes_two 0x57 0x44 (omega arith) (omega arith) in
    let kind = bytes_two h.kind h.spare (omega arith) (omega arith) in
    let start = head_mark ++ h.kind ∷ h.spare ∷ [] in
    let p = bytes_append start (spelled 8 h.p) (bytes_append head_mark (h.kind ∷ h.spare ∷ []) mark kind) (spelled_bytes 8 h.p) in
    let q = bytes_append (start ++ spelled 8 h.p) (spelled 8 h.q) p (spelled_bytes 8 h.q) in
    bytes_append (start ++ spelled 8 h.p ++ spelled 8 h.q) (spelled 4 h.n) q (spelled_bytes 4 h.n)

-- bytes that open with a head's mark are the head that is read from them, and the rest
pub head_own : (d : List ℕ) → Bytes d → head_size ≤ length d → opens d head_mark ≡ true → head_bytes (head_of d) ++ drop head_size d ≡ d
unfolding head_of
head_own d bytes long mark =
    rw (
      head_parts,
      field_joins d 20 4 bytes (omega arith),
      field_joins d 12 8 bytes (omega arith),
      field_joins d 4 8 bytes (omega arith),
      ← drop-cons d 3 0 (omega arith),
      ← drop-cons d 2 0 (omega arith),
    )
    (opened d _ _ (omega arith) mark)

-- ---- a block record

-- the parts of a record's bytes, one after the other
pub record_parts : (a : ℕ) (c v : List ℕ) → record_bytes a c ++ v ≡ 0x57 ∷ 0x42 ∷ (spelled 4 a ++ (c ++ v))
unfolding record_bytes
record_parts a c v = simp append_assoc

-- a record is as long as it is said to be
pub record_length : (a : ℕ) (c : List ℕ) → length c ≡ block_bytes → length (record_bytes a c) ≡ record_size
unfolding record_bytes
record_length a c l = simp (length-append, spelled_length) (omega arith)

-- a record is marked
pub record_marked : (a : ℕ) (c v : List ℕ) → opens (record_bytes a c ++ v) block_mark ≡ true
unfolding opens
record_marked a c v = rw record_parts

-- a record's address is read back
pub address_back : (a : ℕ) (c v : List ℕ) → a < max_blocks → address_of (record_bytes a c ++ v) ≡ a
unfolding address_of
address_back a c v l = rw record_parts (field_at (0x57 ∷ 0x42 ∷ []) (c ++ v) 4 a 2 refl (omega arith))

-- a record's content is read back
pub content_back : (a : ℕ) (c v : List ℕ) → length c ≡ block_bytes → content_of (record_bytes a c ++ v) ≡ c
unfolding content_of
content_back a c v l = rw (record_parts, drop_at (spelled 4 a) (c ++ v) 4 (spelled_length 4 a)) (take_at c v block_bytes l)

-- a record of bytes is written in bytes
pub record_is_bytes : (a : ℕ) (c : List ℕ) → Bytes c → Bytes (record_bytes a c)
unfolding record_bytes
record_is_bytes a c bytes =
    let mark = bytes_two 0x57 0x42 (omega arith) (omega arith) in
    bytes_append (block_mark ++ spelled 4 a) c (bytes_append block_mark (spelled 4 a) mark (spelled_bytes 4 a)) bytes

-- bytes that open with a record's mark are the record that is read from them, and the rest
pub record_own : (r : List ℕ) → Bytes r → record_size ≤ length r → opens r block_mark ≡ true
    → record_bytes (address_of r) (content_of r) ++ drop record_size r ≡ r
unfolding address_of content_of
record_own r bytes long mark =
    rw (record_parts, part_joins r content_at block_bytes, field_joins r 2 4 bytes (omega arith)) (opened r _ _ (omega arith) mark)
