-- Tests that are true or false, and what `&&` and `||` say of their parts.
use mathlib.Core.Path.{◌≡◌, refl, sym}
use mathlib.Core.Bool.{Bool, true, false, ◌&&◌, ◌||◌, true≢false}

-- a test with its outcome as an equation
pub data Which (t : Bool) : Type 0 where
  holds : t ≡ true → Which t
  fails : t ≡ false → Which t

pub which : (t : Bool) → Which t
which true = holds refl
which false = fails refl

-- where neither fault is there, each is not
pub neither : (a b : Bool) → (a || b) ≡ false → (a ≡ false) × (b ≡ false)
neither true b e = absurd (true≢false e)
neither false b e = (refl, e)

-- where both tests are passed, each is
pub both_true : (a b : Bool) → (a && b) ≡ true → (a ≡ true) × (b ≡ true)
both_true true b e = (refl, e)
both_true false b e = absurd (true≢false (sym e))

-- two tests that fail together are the same
pub same_test : (a b : Bool) → (a ≡ false → b ≡ false) → (b ≡ false → a ≡ false) → a ≡ b
same_test true true f g = refl
same_test true false f g = g refl
same_test false b f g = sym (f refl)

-- the parts one by one
pub or_false_left : (a b : Bool) → (a || b) ≡ false → a ≡ false
or_false_left a b e = (neither a b e).0

pub or_false_right : (a b : Bool) → (a || b) ≡ false → b ≡ false
or_false_right a b e = (neither a b e).1

pub and_true_left : (a b : Bool) → (a && b) ≡ true → a ≡ true
and_true_left a b e = (both_true a b e).0

pub and_true_right : (a b : Bool) → (a && b) ≡ true → b ≡ true
and_true_right a b e = (both_true a b e).1
