-- Bytes stored one after another where a slice opens are the record that they make up, put there.
use Prim.Native.Nat.{ℕ, ◌+◌, ◌-◌, ◌≤◌}
use mathlib.Core.Path.{◌≡◌, refl, sym, ◌∙◌}
use mathlib.Core.List.{List, [], ◌∷◌, ◌++◌, append_assoc, append-nil}
use native.Mathlib.Nat.{zero-add}
use native.Mathlib.Omega.{arith}
use lib.ListN.{length, take, drop, length-append, length-drop, drop_of_length-le}
use lib.Seq.{sets, sets-eq, take_all, drop-drop}
use borrow.Rule.Slice.PartMut.{put_mid}
use Rattle.paper.specs.Limits.{head_size, record_size, content_at, block_bytes, head_mark, block_mark}
use Rattle.paper.specs.Number.{spelled}
use Rattle.paper.specs.Diff.{Head, head_bytes, record_bytes}
use Rattle.paper.proofs.Numbers.{spelled_length}
use Rattle.number.specs.Put.{put}
use Rattle.number.proofs.Puts.{put_put}

-- stores from the first byte on
pub stores : (x s : List ℕ) → length x ≤ length s → sets s 0 x ≡ put 0 x s
unfolding put
stores x s h = sets-eq x s 0 (omega arith)

-- one put more, right after what is put
pub put_next : (x y s t u : List ℕ) (k : ℕ) → length x ≡ k → k + length y ≤ length s → t ≡ put 0 x s → u ≡ put k y t → u ≡ put 0 (x ++ y) s
put_next x y s t u k e h p q = q ∙ rw (p, ← e) (simp zero-add at (put_put 0 x y s (omega arith)))

-- the bytes of a head: what its four first bytes and its three numbers leave, each put after the one before
pub put_head : (h : Head) (s t u v : List ℕ) → head_size ≤ length s
    → t ≡ put 4 (spelled 8 h.p) (sets s 0 (0x57 ∷ 0x44 ∷ h.kind ∷ h.spare ∷ [])) → u ≡ put 12 (spelled 8 h.q) t → v ≡ put 20 (spelled 4 h.n) u
    → v ≡ put 0 (head_bytes h) s
unfolding head_bytes
put_head h s t u v l e f g =
    let p = spelled_length 8 h.p in
    let q = spelled_length 8 h.q in
    let n = spelled_length 4 h.n in
    let mark = head_mark ++ h.kind ∷ h.spare ∷ [] in
    let one = put_next mark (spelled 8 h.p) s (sets s 0 mark) t 4 refl (omega arith) (stores mark s (omega arith)) e in
    let two = put_next (mark ++ spelled 8 h.p) (spelled 8 h.q) s t u 12 (omega arith) (omega arith) one f in
    put_next (mark ++ spelled 8 h.p ++ spelled 8 h.q) (spelled 4 h.n) s u v 20 (simp length-append (omega arith)) (omega arith) two g

-- a part from byte k on, lent and given back with x in the place of its first n bytes
pub put_part : (k n : ℕ) (x y s : List ℕ) → length x ≡ n → y ≡ x ++ drop n (take (length s - k) (drop k s)) → put_mid k (length s - k) s y ≡ put k x s
unfolding put
put_part k n x y s e f =
    let whole = take_all (length s - k) (drop k s) (simp length-drop (omega arith)) in
    let after = drop_of_length-le (drop k s) {i = length s - k} (simp length-drop (omega arith)) in
    rw (f, whole, after, drop-drop, append-nil, e) (sym (append_assoc (take k s) x (drop (k + n) s)))

-- the bytes of a block's record: what its mark and its address leave, and the content put after them
pub put_record : (a : ℕ) (b s t y : List ℕ) → length b ≡ block_bytes → record_size ≤ length s
    → t ≡ put 2 (spelled 4 a) (sets s 0 block_mark) → y ≡ b ++ drop block_bytes (take (length t - content_at) (drop content_at t))
    → put_mid content_at (length t - content_at) t y ≡ put 0 (record_bytes a b) s
unfolding record_bytes
put_record a b s t y e l f g =
    let n = spelled_length 4 a in
    let address = put_next block_mark (spelled 4 a) s (sets s 0 block_mark) t 2 refl (omega arith) (stores block_mark s (omega arith)) f in
    put_next (block_mark ++ spelled 4 a) b s t _ 6 (omega arith) (omega arith) address (put_part content_at block_bytes b y t e g)
