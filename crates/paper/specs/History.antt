-- 01, "History and truth": a history, and when a diff and a state are true to it.
use Rattle.std.specs.Prelude.{ℕ, zero, suc, ◌-◌, ◌*◌, ◌≤◌, ◌<◌, ◌≡◌, List, ◌⊎◌, Bool, true, false, cond, ◌||◌, length, get_or}
use Rattle.std.proofs.Math.Option.{none, some}
use Rattle.paper.specs.Limits.{block_bytes}
use Rattle.paper.specs.Answer.{answer}
use Rattle.paper.specs.Image.{Map, block}
use Rattle.paper.specs.Diff.{Head, is_compared, check, named}
use Rattle.paper.specs.State.{State, bad_state}
use Rattle.paper.specs.Compare.{differing}

-- "A history gives an image H(g) for each gid g from 0 up to some last gid; step g writes some blocks, leaves every other block as it was,
-- and so leads from H(g) to H(g+1)." "all its images have the volume's length". Histories longer or larger than 01's limits are in too.
pub record History : Type 0 where
  pub last : ℕ
  pub blocks : ℕ
  pub image : ℕ → List ℕ
  pub writes : ℕ → ℕ → Bool
  pub long : (g : ℕ) → g ≤ last → length (image g) ≡ block_bytes * blocks
  pub inside : (g a : ℕ) → g < last → writes g a ≡ true → a < blocks
  pub stays : (g a : ℕ) → g < last → writes g a ≡ false → block (image (suc g)) a ≡ block (image g) a

-- one of the k steps from step p on writes block a
unfoldable pub writes_in : History → ℕ → ℕ → ℕ → Bool
writes_in H p zero a = false
writes_in H p (suc k) a = H.writes p a || writes_in H (suc p) k a

-- "exactly the blocks written in steps p to q−1, each with its content in H(q)"
unfoldable pub logged : History → ℕ → ℕ → Map
logged H p q a = cond (writes_in H p (q - p) a) (some (block (H.image q) a)) none

-- the map of the true diff with a head
unfoldable pub true_map : History → Head → Map
true_map H h = cond (is_compared h) (differing (H.image h.p) (H.image h.q)) (logged H h.p h.q)

-- A diff is true: it names just what the history says. "All gids used lie within it".
pub record TrueDiff (H : History) (d : List ℕ) : Type 0 where
  pub head : Head
  pub sound : check d ≡ answer head
  pub within : head.q ≤ H.last
  pub names : (a : ℕ) → named d a ≡ true_map H head a

-- "every byte of the image is that byte in some H(u), b ≤ u ≤ e"; of a pair "that of H(b) or of H(t)"
pub data TrueByte (H : History) (s : State) (img : List ℕ) (i : ℕ) : Type 0 where
  of_span : s.kind < 2 → (u : ℕ) → s.b ≤ u → u ≤ s.e → get_or img i 0 ≡ get_or (H.image u) i 0 → TrueByte H s img i
  of_b : s.kind ≡ 2 → get_or img i 0 ≡ get_or (H.image s.b) i 0 → TrueByte H s img i
  of_t : s.kind ≡ 2 → get_or img i 0 ≡ get_or (H.image s.t) i 0 → TrueByte H s img i

-- A state is true of an image: it is a state, its gids lie within the history, and every byte is true.
pub record TrueState (H : History) (s : State) (img : List ℕ) : Type 0 where
  pub legal : bad_state s ≡ false
  pub long : length img ≡ block_bytes * H.blocks
  pub within : s.e ≤ H.last
  pub bytes : (i : ℕ) → i < length img → TrueByte H s img i

-- A cut leaves "any mix of old and new bytes": byte by byte, what stood there before or what stands there after.
pub record Mixed (old new img : List ℕ) : Type 0 where
  pub long : length img ≡ length old
  pub bytes : (i : ℕ) → i < length old → (get_or img i 0 ≡ get_or old i 0) ⊎ (get_or img i 0 ≡ get_or new i 0)
