-- The difference of two gids is a signed number of 64 bits, since a gid is below half of them.
use Prim.Native.Nat.{ℕ, zero, suc, ◌≤◌}
use mathlib.Core.Path.{◌≡◌}
use native.Mathlib.Omega.{arith}
use lib.Dec.{ltb}
use lib.IntN.{pos, ◌-ℤ◌}
use mir.Syntax.{w64}
use mir.Val.{to_z, of_z, SFits}
use mir.ValLaws.{to_z_pos, to_z-of_z}
use Rattle.paper.specs.Limits.{max_gid}
use Rattle.paper.proofs.Bools.{Which, holds, fails, which}

pub gid_fits : {a : ℕ} → a ≤ max_gid → SFits w64 (pos a)
gid_fits l = record { sfits = omega arith }

module _ (a b : ℕ) (la : a ≤ max_gid) (lb : b ≤ max_gid) where
  difference_fits : SFits w64 (pos a -ℤ pos b)
  difference_fits = by b lb
    where
      cases : (b : ℕ) → suc b ≤ max_gid → Which (ltb a (suc b)) → SFits w64 (pos a -ℤ pos (suc b))
      cases b l (holds y) = rw y record { sfits = omega arith }
      cases b l (fails n) = rw n record { sfits = omega arith }

      by : (b : ℕ) → b ≤ max_gid → SFits w64 (pos a -ℤ pos b)
      by zero l = record { sfits = omega arith }
      by (suc b) l = cases b l (which (ltb a (suc b)))

  -- as the machine takes it, from the two as signed numbers
  pub read_fits : SFits w64 (to_z w64 a -ℤ to_z w64 b)
  read_fits = rw (to_z_pos w64 a (omega arith), to_z_pos w64 b (omega arith)) difference_fits

  pub read_back : to_z w64 (of_z w64 (to_z w64 a -ℤ to_z w64 b)) ≡ pos a -ℤ pos b
  read_back = rw (to_z_pos w64 a (omega arith), to_z_pos w64 b (omega arith)) (to_z-of_z w64 (pos a -ℤ pos b) difference_fits)
