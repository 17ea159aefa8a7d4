-- Spelling a number in w bytes and reading it back are inverse, and each byte is below 256: one step of either takes the least byte off or puts it on.
use Prim.Native.Nat.{ℕ, zero, suc, ◌+◌, ◌*◌, ◌/◌, ◌%◌, ◌^◌, ◌<◌, ◌≤◌}
use mathlib.Core.Path.{◌≡◌, refl, ap}
use mathlib.Core.List.{List, [], ◌∷◌, ◌++◌}
use lib.ListN.{length, take, drop, length-take, length-drop}
use lib.Seq.{take_at, drop_at, drop-drop, get_or-drop}
use native.Mathlib.Nat.{pow-succ'}
use native.Mathlib.Omega.{arith}
use Rattle.paper.specs.Number.{Bytes, little, spelled, field}

-- ---- bytes

-- two bytes are bytes
pub bytes_two : (x y : ℕ) → x < 256 → y < 256 → Bytes (x ∷ y ∷ [])
bytes_two x y l m zero = l
bytes_two x y l m (suc zero) = m
bytes_two x y l m (suc (suc i)) = omega arith

-- bytes after bytes are bytes
pub bytes_append : (u v : List ℕ) → Bytes u → Bytes v → Bytes (u ++ v)
bytes_append [] v hu hv i = hv i
bytes_append (b ∷ u) v hu hv zero = hu 0
bytes_append (b ∷ u) v hu hv (suc i) = bytes_append u v (λ j. hu (suc j)) hv i

-- what stands from some place on in bytes is bytes
pub bytes_drop : (n : ℕ) (s : List ℕ) → Bytes s → Bytes (drop n s)
bytes_drop n s h i = rw get_or-drop (h (n + i))

-- what bytes open with is bytes
pub bytes_take : (n : ℕ) (s : List ℕ) → Bytes s → Bytes (take n s)
bytes_take zero s h i = omega arith
bytes_take (suc n) [] h i = h i
bytes_take (suc n) (b ∷ s) h zero = h 0
bytes_take (suc n) (b ∷ s) h (suc i) = bytes_take n s (λ j. h (suc j)) i

-- ---- spelling

-- a number is spelled in as many bytes as it is asked to be
pub spelled_length : (w x : ℕ) → length (spelled w x) ≡ w
unfolding spelled
spelled_length zero x = refl
spelled_length (suc w) x = ap suc (spelled_length w (x / 256))

-- they are bytes
pub spelled_bytes : (w x : ℕ) → Bytes (spelled w x)
unfolding spelled
spelled_bytes zero x i = omega arith
spelled_bytes (suc w) x zero = omega arith
spelled_bytes (suc w) x (suc i) = spelled_bytes w (x / 256) i

-- a number that w bytes can hold is read back from them
pub little_spelled : (w x : ℕ) → x < 256 ^ w → little (spelled w x) ≡ x
unfolding little spelled
little_spelled zero x h = omega arith
little_spelled (suc w) x h =
    let p = pow-succ' 256 w in
    let back = little_spelled w (x / 256) (omega arith) in
    omega arith

-- bytes are what their number is spelled as
pub spelled_little : (s : List ℕ) → Bytes s → spelled (length s) (little s) ≡ s
unfolding little spelled
spelled_little [] h = refl
spelled_little (b ∷ s) h =
    let small = h 0 in
    let least : (b + 256 * little s) % 256 ≡ b = omega arith in
    let others : (b + 256 * little s) / 256 ≡ little s = omega arith in
    rw (least, others, spelled_little s (λ j. h (suc j)))

-- w bytes spell a number below 256 ^ w
pub little_small : (s : List ℕ) → Bytes s → little s < 256 ^ length s
unfolding little
little_small [] h = omega arith
little_small (b ∷ s) h =
    let small = h 0 in
    let p = pow-succ' 256 (length s) in
    let below = little_small s (λ j. h (suc j)) in
    omega arith

-- ---- fields

-- the field where a spelled number stands is that number
pub field_at : (u v : List ℕ) (w x k : ℕ) → length u ≡ k → x < 256 ^ w → field (u ++ (spelled w x ++ v)) k w ≡ x
unfolding field
field_at u v w x k e h = rw (drop_at u (spelled w x ++ v) k, take_at (spelled w x) v w, spelled_length w x) (little_spelled w x h)

-- a field of what stands from byte n on is a field of the whole
pub field_drop : (n : ℕ) (s : List ℕ) (k w : ℕ) → field (drop n s) k w ≡ field s (n + k) w
unfolding field
field_drop n s k w = rw drop-drop

-- a part that lies within is as long as it is asked to be
pub part_length : (s : List ℕ) (k w : ℕ) → k + w ≤ length s → length (take w (drop k s)) ≡ w
part_length s k w e = simp (length-take, length-drop) (omega arith)

-- a part of bytes is bytes
pub bytes_part : (s : List ℕ) (k w : ℕ) → Bytes s → Bytes (take w (drop k s))
bytes_part s k w h = bytes_take w (drop k s) (bytes_drop k s h)

-- a field's bytes are what its number is spelled as
pub spelled_field : (s : List ℕ) (k w : ℕ) → Bytes s → k + w ≤ length s → spelled w (field s k w) ≡ take w (drop k s)
unfolding field
spelled_field s k w h e = rw (part_length s k w e) at (spelled_little (take w (drop k s)) (bytes_part s k w h))

-- a field of w bytes is below 256 ^ w
pub field_small : (s : List ℕ) (k w : ℕ) → Bytes s → k + w ≤ length s → field s k w < 256 ^ w
unfolding field
field_small s k w h e = rw (part_length s k w e) at (little_small (take w (drop k s)) (bytes_part s k w h))
