-- Bytes stored one after another are bytes put at a place.
use Prim.Native.Nat.{ℕ, suc, ◌+◌, ◌-◌, ◌≤◌, ◌<◌}
use mathlib.Core.Path.{◌≡◌, sym}
use mathlib.Core.List.{List, [], ◌∷◌, ◌++◌, append_assoc, append-nil}
use native.Mathlib.Numerals.{add-one, towards_suc}
use native.Mathlib.Nat.{add-zero}
use native.Mathlib.Omega.{arith}
use lib.ListN.{length, get_or, take, drop, set, length-append, length-take, length-drop, take-append-drop}
use lib.Seq.{drop-cons, take-suc, set_at, sets-eq, take_at, drop_at, drop-drop, length-take-le, take_all}
use borrow.Rule.Slice.PartMut.{put_mid}
use Rattle.number.specs.Put.{put}

pub put_length : (k : ℕ) (bytes old : List ℕ) → k + length bytes ≤ length old → length (put k bytes old) ≡ length old
unfolding put
put_length k bytes old h = simp (length-append, length-take, length-drop) (omega arith)

-- no bytes change nothing
pub put_none : (k : ℕ) (old : List ℕ) → put k [] old ≡ old
unfolding put
put_none k old = rw (append-nil, add-zero) (take-append-drop k old)

-- four stores
pub put_4 : (s : List ℕ) (k a b c d : ℕ) → k + 4 ≤ length s → set (set (set (set s k a) (k + 1) b) (k + 2) c) (k + 3) d ≡ put k (a ∷ b ∷ c ∷ d ∷ []) s
unfolding put
put_4 s k a b c d h = simp towards_suc (simp towards_suc at (sets-eq (a ∷ b ∷ c ∷ d ∷ []) s k h))

-- one put after another
pub put_put : (k : ℕ) (x y old : List ℕ) → k ≤ length old → put (k + length x) y (put k x old) ≡ put k (x ++ y) old
unfolding put
put_put k x y old h =
    let front : List ℕ = take k old ++ x in
    let after : List ℕ = drop (k + length x) old in
    let n : length front ≡ k + length x = simp (length-append, length-take) (omega arith) in
    let e : k + length x + length y ≡ k + length (x ++ y) = simp length-append (omega arith) in
    rw (take_at front after (k + length x) n, ← drop-drop (length y) (k + length x) (front ++ after), drop_at front after (k + length x) n, drop-drop (length y) (k + length x) old, e)
    (simp append_assoc)

-- a copy of one element more
pub copy_more : (src dst : List ℕ) (i : ℕ) → i < length src → i < length dst → set (take i src ++ drop i dst) i (get_or src i 0) ≡ take (i + 1) src ++ drop (i + 1) dst
copy_more src dst i h k =
    rw (add-one, drop-cons dst i 0, take-suc src i 0, set_at (take i src) (get_or dst i 0) (drop (suc i) dst) (get_or src i 0) i (length-take-le i src (omega arith)))
    (sym (append_assoc (take i src) (get_or src i 0 ∷ []) (drop (suc i) dst)))

-- a part that is all the rest
pub part_all : (d : List ℕ) (at : ℕ) → take (length d - at) (drop at d) ≡ drop at d
part_all d at = take_all (length d - at) (drop at d) (rw length-drop (omega arith))

-- bytes written over a part
pub part_put : (k w : ℕ) (s y bytes : List ℕ) → y ≡ bytes → length bytes ≡ w → put_mid k (k + w - k) s y ≡ put k bytes s
unfolding put
part_put k w s y bytes e n = let m : k + w - k ≡ w = omega arith in rw (e, m, n, drop-drop w k s) (sym (append_assoc (take k s) bytes (drop (k + w) s)))
