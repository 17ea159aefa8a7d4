-- What an answer says of the checks before it: each was passed. A chain of checks answers only where none of them refused.
use Prim.Native.Nat.{ℕ, ◌≤◌}
use mathlib.Core.Path.{◌≡◌, refl, sym, ◌∙◌}
use mathlib.Core.List.{List, append-nil}
use mathlib.Core.Bool.{Bool, true, false}
use lib.Dec.{ltb}
use lib.ListN.{length}
use lib.Seq.{drop-length}
use native.Mathlib.Omega.{arith}
use borrow.Author.Tests.{ltb-false, le-ltb}
use Rattle.paper.specs.Answer.{Said, answer, refuse, guard, ◌then◌, Wrote, comes_back, over, output, NoRoom}

-- an answer holds one value
pub answer_injective : {A : Type 0} {a b : A} → answer a ≡ answer b → a ≡ b
answer_injective e = cc

-- a refusal is no answer
pub refuse_not_answer : {A : Type 0} {a : A} {k : ℕ} → refuse k ≡ answer a → ⊥
refuse_not_answer e = let z : ◌≡◌ {A = ℕ} 0 1 = cc in omega arith

-- A check that was passed: the fault is not there, and the rest answers.
pub record Passed {A : Type 0} (fault : Bool) (r : Said A) (a : A) : Type 0 where
  pub clear : fault ≡ false
  pub onward : r ≡ answer a

-- where a check answers, it was passed
pub guard_answer : {A : Type 0} {a : A} (fault : Bool) (k : ℕ) (r : Said A) → guard fault k r ≡ answer a → Passed fault r a
guard_answer true k r e = absurd (refuse_not_answer e)
guard_answer false k r e = record { clear = refl; onward = e }

-- a check whose fault is not there is passed
pub guard_passes : {A : Type 0} {fault : Bool} (k : ℕ) (r : Said A) → fault ≡ false → guard fault k r ≡ r
guard_passes k r e = rw e

-- a check before an answer that refuses: its fault is there, and the number is its own
pub guard_refuse : {A : Type 0} {j : ℕ} (fault : Bool) (k : ℕ) (a : A) → guard fault k (answer a) ≡ refuse j → (fault ≡ true) × (k ≡ j)
guard_refuse true k a e = (refl, cc)
guard_refuse false k a e = absurd (refuse_not_answer (sym e))

-- Two checks in order that were passed: the first answers `first`, and from there the second answers b.
pub record Both {A B : Type 0} (r : Said A) (f : A → Said B) (b : B) : Type 0 where
  pub first : A
  pub answered : r ≡ answer first
  pub onward : f first ≡ answer b

-- where checks in order answer, each answers
pub then_answer : {A B : Type 0} {b : B} (r : Said A) (f : A → Said B) → (r then f) ≡ answer b → Both r f b
then_answer (answer a) f e = record { first = a; answered = refl; onward = e }
then_answer (refuse k) f e = absurd (refuse_not_answer e)

-- after an answer, the next check decides
pub then_passes : {A B : Type 0} {r : Said A} {a : A} (f : A → Said B) → r ≡ answer a → (r then f) ≡ f a
then_passes f e = rw e

-- what an output of bytes w answers and writes
abbrev pub wrote : List ℕ → Wrote ℕ
wrote w = record { value = length w; bytes = w }

-- An output that was written: its length is the answer, it is the bytes, and there was room.
pub record Output (w : List ℕ) (room : ℕ) (v : Wrote ℕ) : Type 0 where
  pub value : v.value ≡ length w
  pub bytes : v.bytes ≡ w
  pub fits : length w ≤ room

-- what an output's answer says
pub output_answer : {v : Wrote ℕ} (w : List ℕ) (room : ℕ) → output w room ≡ answer v → Output w room v
unfolding output
output_answer w room e = of (guard_answer (ltb room (length w)) NoRoom _ e)
  where
    of : {v : Wrote ℕ} → Passed (ltb room (length w)) (answer (wrote w)) v → Output w room v
    of r =
        let same = answer_injective r.onward in
        record { value = cc; bytes = cc; fits = ltb-false room (length w) r.clear }

-- where there is room, the output is written
pub output_fits : (w : List ℕ) (room : ℕ) → length w ≤ room → output w room ≡ answer (wrote w)
unfolding output
output_fits w room h = guard_passes NoRoom _ (le-ltb room (length w) h)

-- and so whatever says the same is its answer
pub output_passes : {w : List ℕ} {room : ℕ} {v : Wrote ℕ} → Output w room v → output w room ≡ answer v
output_passes {w} {room} o =
    output_fits w room o.fits ∙ λ i. answer (record { value = sym o.value i; bytes = sym o.bytes i })

-- an output as long as the lent slice is all that the slice then holds
pub over_all : {A : Type 0} (old : List ℕ) (w : Wrote A) → length w.bytes ≡ length old → over old (answer w) ≡ w.bytes
unfolding over
over_all old w e = rw (e, drop-length) (append-nil w.bytes)

-- a refusal leaves the lent slice as it was
pub over_refused : {A : Type 0} (old : List ℕ) (r : Said (Wrote A)) {k : ℕ} → r ≡ refuse k → over old r ≡ old
unfolding over
over_refused old r e = rw e

-- it comes back alone, and the lent slice stays
pub refused : {A : Type 0} {r : Said (Wrote A)} {k : ℕ} (old : List ℕ) → r ≡ refuse k → (refuse k ≡ comes_back r) × (old ≡ over old r)
unfolding comes_back over
refused old e = rw e (refl, refl)

-- of a call that writes: what it answers and what it leaves, as its two clauses
pub both : {P Q : Type 0} → P × Q → record { answered : P; leaves : Q }
both e = record { answered = e.0; leaves = e.1 }
