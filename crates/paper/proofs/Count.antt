-- How many places below a bound pass a test: never more than the bound, and one more for each place that passes only the weaker of two tests.
use Prim.Native.Nat.{ℕ, zero, suc, ◌+◌, ◌≤◌, ◌<◌}
use mathlib.Core.Path.{◌≡◌, refl}
use mathlib.Core.Bool.{Bool, true, false, cond, false≢true}
use native.Mathlib.Omega.{arith}
use native.Mathlib.Decide.{ℕ_discrete}

-- of the places below n, the number that pass
unfoldable pub how_many : (ℕ → Bool) → ℕ → ℕ
how_many f zero = 0
how_many f (suc n) = cond (f n) 1 0 + how_many f n

-- no more than there are places
pub how_many_bounded : (f : ℕ → Bool) (n : ℕ) → how_many f n ≤ n
unfolding how_many
how_many_bounded f zero = omega arith
how_many_bounded f (suc n) = go (f n) (how_many_bounded f n)
  where
    go : (a : Bool) → how_many f n ≤ n → cond a 1 0 + how_many f n ≤ suc n
    go true h = omega arith
    go false h = omega arith

-- one place
one_weaker : (a b : Bool) → (a ≡ true → b ≡ true) → ◌≤◌ (cond a 1 0) (cond b 1 0)
one_weaker true true h = omega arith
one_weaker true false h = absurd (false≢true (h refl))
one_weaker false b h = omega arith

module _ (f g : ℕ → Bool) (weaker : (i : ℕ) → f i ≡ true → g i ≡ true) where
  -- no fewer pass a weaker test
  pub how_many_weaker : (n : ℕ) → how_many f n ≤ how_many g n
  unfolding how_many
  how_many_weaker zero = omega arith
  how_many_weaker (suc n) = omega (arith, how_many_weaker n, one_weaker (f n) (g n) (weaker n))

  -- and more, if some place passes it alone
  pub how_many_more : (n i : ℕ) → i < n → f i ≡ false → g i ≡ true → how_many f n < how_many g n
  unfolding how_many
  how_many_more zero i h a b = omega arith
  how_many_more (suc n) i h a b = go (ℕ_discrete i n) (how_many_more n i)
    where
      go : Dec (i ≡ n) → (i < n → f i ≡ false → g i ≡ true → how_many f n < how_many g n)
          → cond (f n) 1 0 + how_many f n < cond (g n) 1 0 + how_many g n
      go (yes e) ih = rw (← e, a, b) (omega (arith, how_many_weaker i))
      go (no e) ih = omega (arith, ih (omega arith) a b, one_weaker (f n) (g n) (weaker n))
