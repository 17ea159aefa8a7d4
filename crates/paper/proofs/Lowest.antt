-- The lowest place that passes a test, found by going up from place i through k places; the laws of one turn are for a loop that does so.
use Prim.Native.Nat.{ℕ, zero, suc, ◌+◌, ◌-◌, ◌≤◌, ◌<◌}
use mathlib.Core.Path.{◌≡◌, refl, sym, ◌∙◌}
use mathlib.Core.Option.{Option, none, some}
use mathlib.Core.Bool.{Bool, true, false, cond, false≢true}
use native.Mathlib.Numerals.{add-one}
use native.Mathlib.Omega.{arith}
use native.Mathlib.Decide.{ℕ_discrete}

-- of k places from place i on, the lowest that passes
unfoldable pub lowest : (ℕ → Bool) → ℕ → ℕ → Option ℕ
lowest test i zero = none
lowest test i (suc k) = cond (test i) (some i) (lowest test (suc i) k)

-- whether one was found
abbrev pub is_some : Option ℕ → Bool
is_some none = false
is_some (some i) = true

-- j is the lowest of them
pub record IsLowest (test : ℕ → Bool) (i k j : ℕ) : Type 0 where
  pub low : i ≤ j
  pub high : j < i + k
  pub passes : test j ≡ true
  pub none_lower : (n : ℕ) → i ≤ n → n < j → test n ≡ false

-- what is found: the lowest, or that none passes
pub data Lowest (test : ℕ → Bool) (i k : ℕ) : Option ℕ → Type 0 where
  is_lowest : {j : ℕ} → IsLowest test i k j → Lowest test i k (some j)
  is_none : ((n : ℕ) → i ≤ n → n < i + k → test n ≡ false) → Lowest test i k none

module _ (test : ℕ → Bool) where
  -- `lowest` finds that
  pub lowest_finds : (i k : ℕ) → Lowest test i k (lowest test i k)
  unfolding lowest
  lowest_finds i zero = is_none (λ n l h. absurd (omega arith))
  lowest_finds i (suc k) = go (test i) refl (lowest_finds (suc i) k)
    where
      below : test i ≡ false → (n : ℕ) → i ≤ n → Dec (n ≡ i) → (suc i ≤ n → test n ≡ false) → test n ≡ false
      below t n l (yes e) rest = rw e t
      below t n l (no e) rest = rest (omega arith)

      go : (a : Bool) → test i ≡ a → {o : Option ℕ} → Lowest test (suc i) k o → Lowest test i (suc k) (cond a (some i) o)
      go true t r = is_lowest {j = i} (record {
        low = omega arith;
        high = omega arith;
        passes = t;
        none_lower = λ n l h. absurd (omega arith);
      })
      go false t (is_lowest {j} r) = is_lowest {j = j} (record {
        low = omega arith;
        high = omega arith;
        passes = r.passes;
        none_lower = λ n l h. below t n l (ℕ_discrete n i) (λ m. r.none_lower n m h);
      })
      go false t (is_none f) = is_none (λ n l h. below t n l (ℕ_discrete n i) (λ m. f n m (omega arith)))

  -- what it finds is the lowest
  pub found_is_lowest : (i k j : ℕ) → lowest test i k ≡ some j → IsLowest test i k j
  found_is_lowest i k j e = go (rw e at (lowest_finds i k))
    where
      go : Lowest test i k (some j) → IsLowest test i k j
      go (is_lowest r) = r

  -- where it finds none, none passes
  pub none_found : (i k : ℕ) → lowest test i k ≡ none → (n : ℕ) → i ≤ n → n < i + k → test n ≡ false
  none_found i k e = go (rw e at (lowest_finds i k))
    where
      go : Lowest test i k none → (n : ℕ) → i ≤ n → n < i + k → test n ≡ false
      go (is_none f) = f

  -- it finds one where one passes
  pub passing_is_found : (i k n : ℕ) → i ≤ n → n < i + k → test n ≡ true → is_some (lowest test i k) ≡ true
  passing_is_found i k n l h t = go (lowest_finds i k)
    where
      go : {o : Option ℕ} → Lowest test i k o → is_some o ≡ true
      go (is_lowest r) = refl
      go (is_none f) = absurd (false≢true (sym (f n l h) ∙ t))

  -- a turn of the loop, by what is left: the place passes
  pub lowest_here : (i n : ℕ) → i < n → test i ≡ true → lowest test i (n - i) ≡ some i
  unfolding lowest
  lowest_here i n h t = let e : n - i ≡ suc (n - (i + 1)) = omega arith in rw (e, t)

  -- it does not pass
  pub lowest_on : (i n : ℕ) → i < n → test i ≡ false → lowest test i (n - i) ≡ lowest test (i + 1) (n - (i + 1))
  unfolding lowest
  lowest_on i n h t = let e : n - i ≡ suc (n - (i + 1)) = omega arith in rw (e, t, add-one)

  -- no place is left
  pub lowest_end : (i n : ℕ) → n ≤ i → lowest test i (n - i) ≡ none
  unfolding lowest
  lowest_end i n h = let e : n - i ≡ 0 = omega arith in rw e
