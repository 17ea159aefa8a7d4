-- Small histories for examples: each block is filled with one number, and each step lists the blocks that it writes.
use Rattle.std.specs.Prelude.{ℕ, zero, suc, ◌*◌, ◌/◌, ◌<◌, ◌≡◌, refl, List, [], ◌∷◌, Bool, false, cond, ◌&&◌, ◌||◌, ◌⊎◌, ltb, eqb, length, get_or}
use Rattle.std.proofs.Common.{sym, ◌∙◌, true≢false, arith, inl, inr, ltb-true, lt-ltb}
use Rattle.paper.specs.Limits.{block_bytes}
use Rattle.paper.specs.Image.{block, each}
use Rattle.paper.specs.Diff.{log_head, compared_head, written}
use Rattle.paper.specs.Compare.{differing}
use Rattle.paper.specs.History.{History, logged, Mixed}
use Rattle.paper.proofs.Bools.{Which, holds, fails, which, and_true_left}
use Rattle.paper.proofs.Images.{each_length, each_at, blocks_of_equal_bytes}

-- an image of n blocks, each filled with its number
unfoldable pub filled : ℕ → (ℕ → ℕ) → List ℕ
filled n number = each (block_bytes * n) (λ i. number (i / block_bytes))

-- one block that a step writes, and the number that fills it
pub record Put : Type 0 where
  pub address : ℕ
  pub number : ℕ

abbrev pub put : ℕ → ℕ → Put
put a x = record { address = a; number = x }

-- a step puts something into block a
unfoldable pub puts : List Put → ℕ → Bool
puts [] a = false
puts (w ∷ ws) a = eqb w.address a || puts ws a

-- the number in block a after a step, where it was x
unfoldable pub after_step : List Put → ℕ → ℕ → ℕ
after_step [] a x = x
after_step (w ∷ ws) a x = cond (eqb w.address a) w.number (after_step ws a x)

-- the number in block a at gid g
unfoldable pub number_at : List ℕ → List (List Put) → ℕ → ℕ → ℕ
number_at start steps zero a = get_or start a 0
number_at start steps (suc g) a = after_step (get_or steps g []) a (number_at start steps g a)

-- what a step leaves out stays
left_out : (ws : List Put) (a x : ℕ) → puts ws a ≡ false → after_step ws a x ≡ x
unfolding puts after_step
left_out [] a x e = refl
left_out (w ∷ ws) a x e = go (which (eqb w.address a)) (left_out ws a x)
  where
    go : Which (eqb w.address a) → (puts ws a ≡ false → after_step ws a x ≡ x) → after_step (w ∷ ws) a x ≡ x
    go (holds y) later = absurd (true≢false (rw y at e))
    go (fails y) later = rw y (later (rw y at e))

-- it has n blocks
pub filled_length : (n : ℕ) (number : ℕ → ℕ) → length (filled n number) ≡ block_bytes * n
unfolding filled
filled_length n number = each_length _ _

-- a byte has its block's number
pub filled_at : (n : ℕ) (number : ℕ → ℕ) (i : ℕ) → i < block_bytes * n → get_or (filled n number) i 0 ≡ number (i / block_bytes)
unfolding filled
filled_at n number i l = each_at (block_bytes * n) (λ k. number (k / block_bytes)) i l

-- blocks with equal numbers are equal
pub filled_block : (n : ℕ) (x y : ℕ → ℕ) (a : ℕ) → (a < n → x a ≡ y a) → block (filled n x) a ≡ block (filled n y) a
filled_block n x y a same =
    blocks_of_equal_bytes (filled n x) (filled n y) a (filled_length n x ∙ sym (filled_length n y)) λ i k e.
    let l : i < block_bytes * n = rw filled_length at k in
    filled_at n x i l ∙ rw e (same (omega arith)) ∙ sym (filled_at n y i l)

-- a block that a step does not write stays
pub made_stays : (start : List ℕ) (steps : List (List Put)) (g a : ℕ) → (ltb a (length start) && puts (get_or steps g []) a) ≡ false
    → block (filled (length start) (number_at start steps (suc g))) a ≡ block (filled (length start) (number_at start steps g)) a
unfolding number_at
made_stays start steps g a w =
    filled_block (length start) (number_at start steps (suc g)) (number_at start steps g) a λ l.
    left_out (get_or steps g []) a (number_at start steps g a) (rw (lt-ltb a (length start) l) at w)

-- the history that begins with some numbers and takes some steps; a step writes nothing outside
abbrev pub made : List ℕ → List (List Put) → History
made start steps = record {
  last = length steps;
  blocks = length start;
  image = λ g. filled (length start) (number_at start steps g);
  writes = λ g a. ltb a (length start) && puts (get_or steps g []) a;
  long = λ g l. filled_length (length start) (number_at start steps g);
  inside = λ g a l w. ltb-true a (length start) (and_true_left (ltb a (length start)) (puts (get_or steps g []) a) w);
  stays = λ g a l w. made_stays start steps g a w;
}

-- the log diff of a history from p to q, in bytes
abbrev pub log_diff : History → ℕ → ℕ → List ℕ
log_diff H p q = written (log_head p q) (logged H p q)

-- the compared diff
abbrev pub compared_diff : History → ℕ → ℕ → List ℕ
compared_diff H p q = written (compared_head p q) (differing (H.image p) (H.image q))

-- an image that a cut may leave: the first k bytes are new, the others old
unfoldable pub partly : ℕ → List ℕ → List ℕ → List ℕ
partly k old new = each (length old) (λ i. cond (ltb i k) (get_or new i 0) (get_or old i 0))

-- its bytes
pub partly_at : (k : ℕ) (old new : List ℕ) (i : ℕ) → i < length old → get_or (partly k old new) i 0 ≡ cond (ltb i k) (get_or new i 0) (get_or old i 0)
unfolding partly
partly_at k old new i l = each_at (length old) (λ j. cond (ltb j k) (get_or new j 0) (get_or old j 0)) i l

-- it is a mix of old and new bytes
pub partly_mixed : (k : ℕ) (old new : List ℕ) → Mixed old new (partly k old new)
unfolding partly
partly_mixed k old new = record { long = each_length _ _; bytes = λ i l. go i l (which (ltb i k)) }
  where
    go : (i : ℕ) → i < length old → Which (ltb i k) → (get_or (partly k old new) i 0 ≡ get_or old i 0) ⊎ (get_or (partly k old new) i 0 ≡ get_or new i 0)
    go i l (holds y) = inr (partly_at k old new i l ∙ rw y)
    go i l (fails y) = inl (partly_at k old new i l ∙ rw y)
