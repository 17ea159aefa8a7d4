-- What a comparison has checked before it looks at the blocks, and what its marks stand for.
use Rattle.std.specs.Prelude.{ℕ, ◌<◌, ◌≡◌, List, Bool, false, cond, length, get_or}
use Rattle.std.proofs.Math.Option.{none, some}
use Rattle.paper.specs.Image.{Map, bad_image, block}
use Rattle.paper.specs.Diff.{Head, compared_head, bad_head, count_of}
use Rattle.paper.specs.Compare.{differing}

-- the head of a compared diff of n blocks
abbrev pub compared : ℕ → ℕ → ℕ → Head
compared p q n = record { kind = 1; spare = 0; p = p; q = q; n = n }

-- The checks 8 and 3, passed.
pub record Comparable (old new : List ℕ) (p q : ℕ) : Type 0 where
  pub old_image : bad_image old ≡ false
  pub new_image : bad_image new ≡ false
  pub long : length old ≡ length new
  pub good : bad_head (compared_head p q) ≡ false

-- the map that marks stand for: the second image's block at each marked address
unfoldable pub marked : List Bool → List ℕ → Map
marked marks new a = cond (get_or marks a false) (some (block new a)) none

-- The marks of a comparison: the blocks that differ are marked, no others, and counted.
pub record Marks (old new : List ℕ) (blocks : ℕ) (marks : List Bool) (count : ℕ) : Type 0 where
  pub each : (a : ℕ) → a < blocks → marked marks new a ≡ differing old new a
  pub all : count ≡ count_of (differing old new) 0 blocks
