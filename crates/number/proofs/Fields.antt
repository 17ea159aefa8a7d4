-- The bytes of a number, as std reads and spells them, are those of the paper.
use Prim.Native.Nat.{ℕ, suc, ◌+◌, ◌-◌, ◌*◌, ◌/◌, ◌%◌, ◌≤◌, ◌<◌}
use mathlib.Core.Path.{◌≡◌, refl, ap, ap₂}
use mathlib.Core.List.{List, ◌∷◌, ◌++◌}
use native.Mathlib.Numerals.{add-one}
use native.Mathlib.Omega.{arith}
use lib.ListN.{length, get_or, take, drop, length-take, length-drop}
use lib.Seq.{drop-cons, take_all}
use Rattle.std.specs.Int.{w32, w64, from_le_bytes, to_le_bytes}
use Rattle.paper.specs.Number.{little, field, spelled}

-- a field of one byte more
pub field_more : (s : List ℕ) (k l w : ℕ) → k + 1 ≡ l → k < length s → field s k (suc w) ≡ get_or s k 0 + 256 * field s l w
unfolding field little
field_more s k l w e h = rw (← e, add-one, drop-cons s k 0)

pub field_none : (s : List ℕ) (k : ℕ) → field s k 0 ≡ 0
unfolding field little
field_none s k = refl

-- four bytes, one by one
pub field_4 : (s : List ℕ) (k : ℕ) → k + 4 ≤ length s
    → get_or s k 0 + get_or s (k + 1) 0 * 256 + get_or s (k + 2) 0 * 65536 + get_or s (k + 3) 0 * 16777216 ≡ field s k 4
field_4 s k h =
    let e₀ = field_more s k (k + 1) 3 (omega arith) (omega arith) in
    let e₁ = field_more s (k + 1) (k + 2) 2 (omega arith) (omega arith) in
    let e₂ = field_more s (k + 2) (k + 3) 1 (omega arith) (omega arith) in
    let e₃ = field_more s (k + 3) (k + 4) 0 (omega arith) (omega arith) in
    let e₄ = field_none s (k + 4) in
    omega arith

-- eight bytes are four and four
pub field_8 : (s : List ℕ) (k : ℕ) → k + 8 ≤ length s → field s k 4 + field s (k + 4) 4 * 4294967296 ≡ field s k 8
field_8 s k h =
    let e₀ = field_more s k (k + 1) 7 (omega arith) (omega arith) in
    let e₁ = field_more s (k + 1) (k + 2) 6 (omega arith) (omega arith) in
    let e₂ = field_more s (k + 2) (k + 3) 5 (omega arith) (omega arith) in
    let e₃ = field_more s (k + 3) (k + 4) 4 (omega arith) (omega arith) in
    let f = field_4 s k (omega arith) in
    omega arith

-- all the bytes of a list
field_all : (b : List ℕ) (w : ℕ) → length b ≡ w → field b 0 w ≡ little b
unfolding field
field_all b w e = ap little (take_all w b (omega arith))

-- four bytes and eight, read
pub read_4 : (b : List ℕ) → length b ≡ 4 → from_le_bytes w32 b ≡ little b
read_4 b e = let f = field_4 b 0 (omega arith) in let all = field_all b 4 e in omega arith

pub read_8 : (b : List ℕ) → length b ≡ 8 → from_le_bytes w64 b ≡ little b
read_8 b e =
    let f = field_4 b 0 (omega arith) in
    let g = field_4 b 4 (omega arith) in
    let halves = field_8 b 0 (omega arith) in
    let all = field_all b 8 e in
    omega arith

-- and spelled
cons : {a b : ℕ} {x y : List ℕ} → a ≡ b → x ≡ y → a ∷ x ≡ b ∷ y
cons e f = ap₂ ◌∷◌ e f

pub spell_4 : (x : ℕ) → to_le_bytes w32 x ≡ spelled 4 x
unfolding spelled
spell_4 x = cons refl (cons refl (cons (omega arith) (cons (omega arith) refl)))

pub spell_8 : (x : ℕ) → to_le_bytes w64 x ≡ spelled 8 x
unfolding spelled
spell_8 x =
    cons refl (cons refl (cons (omega arith) (cons (omega arith) (cons (omega arith) (cons (omega arith) (cons (omega arith) (cons (omega arith) refl)))))))

-- the bytes of a number in two halves
pub spelled_8 : (x : ℕ) → spelled 4 (x % 4294967296) ++ spelled 4 (x / 4294967296) ≡ spelled 8 x
unfolding spelled
spelled_8 x =
    cons (omega arith)
    (cons (omega arith) (cons (omega arith) (cons (omega arith) (cons (omega arith) (cons (omega arith) (cons (omega arith) (cons (omega arith) refl)))))))

-- the bytes of a part are those of a field
pub part_length : (s b : List ℕ) (k w : ℕ) → k + w ≤ length s → b ≡ take (k + w - k) (drop k s) → length b ≡ w
part_length s b k w h e = rw e (simp (length-take, length-drop) (omega arith))

pub part_field : (s b : List ℕ) (k w : ℕ) → b ≡ take (k + w - k) (drop k s) → little b ≡ field s k w
unfolding field
part_field s b k w e = let n : k + w - k ≡ w = omega arith in rw (e, n)
