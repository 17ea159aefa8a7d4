-- The dictionary order of lists of places is a strict total order: the first places that differ decide, and of places any two can be compared.
use Prim.Native.Nat.{ℕ, ◌<◌}
use mathlib.Core.Path.{◌≡◌, refl, sym, ap₂, ◌∙◌}
use mathlib.Core.List.{List, [], ◌∷◌}
use mathlib.Core.Bool.{true, false, false≢true}
use native.Mathlib.Omega.{arith}
use native.Mathlib.Decide.{dec_lt}
use borrow.Author.Tests.{lt-ltb, le-ltb, eq-eqb, ne_eqb}
use Rattle.paper.specs.Plan.{before}

-- a lower first place comes before
pub lower_is_before : (i j : ℕ) (l m : List ℕ) → i < j → before (i ∷ l) (j ∷ m) ≡ true
unfolding before
lower_is_before i j l m h = rw (lt-ltb i j h)

-- a higher first place does not
pub higher_is_not_before : (i j : ℕ) (l m : List ℕ) → j < i → before (i ∷ l) (j ∷ m) ≡ false
unfolding before
higher_is_not_before i j l m h = rw (le-ltb i j (omega arith), ne_eqb i j (omega arith))

-- the same first place leaves the rest to decide
pub same_place_before : (i : ℕ) (l m : List ℕ) → before (i ∷ l) (i ∷ m) ≡ before l m
unfolding before
same_place_before i l m = rw (le-ltb i i (omega arith), eq-eqb i i refl)

-- nothing comes before the empty list
pub none_before_empty : (l : List ℕ) → before l [] ≡ false
unfolding before
none_before_empty [] = refl
none_before_empty (i ∷ l) = refl

-- no list is before itself
pub before_irreflexive : (l : List ℕ) → before l l ≡ false
unfolding before
before_irreflexive [] = refl
before_irreflexive (i ∷ l) = rw same_place_before (before_irreflexive l)

-- two lists of which neither is before the other are one list
pub neither_before : (l m : List ℕ) → before l m ≡ false → before m l ≡ false → l ≡ m
unfolding before
neither_before [] [] p q = refl
neither_before [] (j ∷ m) p q = cc
neither_before (i ∷ l) [] p q = cc
neither_before (i ∷ l) (j ∷ m) p q = go (dec_lt i j) (dec_lt j i) (neither_before l m)
  where
    go : Dec (i < j) → Dec (j < i) → (before l m ≡ false → before m l ≡ false → l ≡ m) → i ∷ l ≡ j ∷ m
    go (yes h) d rest = cc (lower_is_before i j l m h)
    go (no h) (yes k) rest = cc (lower_is_before j i m l k)
    go (no h) (no k) rest =
        let e : i ≡ j = omega arith in
        ap₂ ◌∷◌ e (rest (sym (same_place_before j l m) ∙ rw e at p) (sym (same_place_before j m l) ∙ rw e at q))

-- why one list comes before another: at the first place, or after it
data Why (i j : ℕ) (l m : List ℕ) : Type 0 where
  lower : i < j → Why i j l m
  later : i ≡ j → before l m ≡ true → Why i j l m

why_before : (i j : ℕ) (l m : List ℕ) → before (i ∷ l) (j ∷ m) ≡ true → Why i j l m
why_before i j l m p = go (dec_lt i j) (dec_lt j i)
  where
    go : Dec (i < j) → Dec (j < i) → Why i j l m
    go (yes h) d = lower h
    go (no h) (yes k) = absurd (false≢true (sym (higher_is_not_before i j l m k) ∙ p))
    go (no h) (no k) =
        let e : i ≡ j = omega arith in
        later e (sym (same_place_before j l m) ∙ rw e at p)

-- a list before one that is before a third is before the third
pub before_transitive : (l m n : List ℕ) → before l m ≡ true → before m n ≡ true → before l n ≡ true
unfolding before
before_transitive [] [] n p q = q
before_transitive [] (j ∷ m) [] p q = q
before_transitive [] (j ∷ m) (k ∷ n) p q = refl
before_transitive (i ∷ l) [] n p q = absurd (false≢true p)
before_transitive (i ∷ l) (j ∷ m) [] p q = q
before_transitive (i ∷ l) (j ∷ m) (k ∷ n) p q = go (why_before i j l m p) (why_before j k m n q) (before_transitive l m n)
  where
    go : Why i j l m → Why j k m n → (before l m ≡ true → before m n ≡ true → before l n ≡ true) → before (i ∷ l) (k ∷ n) ≡ true
    go (lower h) (lower g) rest = lower_is_before i k l n (omega arith)
    go (lower h) (later e b) rest = lower_is_before i k l n (omega arith)
    go (later e b) (lower g) rest = lower_is_before i k l n (omega arith)
    go (later e b) (later d c) rest =
        let f : i ≡ k = omega arith in
        rw f (same_place_before k l n ∙ rest b c)
