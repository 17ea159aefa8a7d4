-- Checks in order, as `?` makes them: where one refuses, that is what is said, and where it passes, the rest decides.
use Prim.Native.Nat.{ℕ, ◌/◌}
use mathlib.Core.Path.{◌≡◌, refl, sym, ap, ◌∙◌}
use mathlib.Core.List.{List}
use mathlib.Core.Bool.{Bool, true, false, ◌||◌}
use lib.ListN.{length}
use Rattle.std.specs.Prelude.{Result, Ok, Err, IsErrAnd}
use Rattle.paper.specs.Answer.{Said, answer, refuse, guard, ◌then◌, Wrote, comes_back, over, Outside}
use Rattle.paper.specs.Image.{check_image}
use Rattle.paper.specs.Diff.{names_outside}
use Rattle.paper.proofs.Answers.{then_answer, guard_answer, refused}
use Rattle.paper.proofs.Images.{image_blocks}
use Rattle.record.specs.declared.refusal.Refusal.{Refusal}
use Rattle.record.specs.Refusals.{number_of, said}
use Rattle.record.specs.Records.{fits}

-- the answer r hands on the refusal x
pub hands_on : {A B : Type 0} (says : A → B) (x : Refusal) (r : Result A Refusal) → IsErrAnd r (λ y. y ≡ x) → said says r ≡ refuse (number_of x)
hands_on says x (Ok a) e = absurd e
hands_on says x (Err y) e = ap (λ (z : Refusal). refuse (number_of z)) e

-- and where the call writes, the lent slice stays
pub hands_back : {A B : Type 0} (says : A → B) {D : Said (Wrote B)} (x : Refusal) (r : Result A Refusal) (old : List ℕ) → IsErrAnd r (λ y. y ≡ x) → refuse (number_of x) ≡ D
    → record { answered : said says r ≡ comes_back D; leaves : old ≡ over old D }
hands_back says x r old h e = let no = refused old (sym e) in record { answered = hands_on says x r h ∙ no.0; leaves = no.1 }

-- a check says D, and k comes after it
module _ {B C : Type 0} (D : Said B) (k : B → Said C) where
  pub stops : {A : Type 0} (says : A → C) (x : Refusal) (r : Result A Refusal) → IsErrAnd r (λ y. y ≡ x) → refuse (number_of x) ≡ D → said says r ≡ (D then k)
  stops says x r h e = hands_on says x r h ∙ ap (λ (y : Said B). y then k) e

  pub goes_on : (b : B) → answer b ≡ D → (D then k) ≡ k b
  goes_on b e = ap (λ (y : Said B). y then k) (sym e)

-- ---- an image that fits

guard_then : {B : Type 0} (b : Bool) (n m : ℕ) (k : ℕ → Said B) → guard b n (k m) ≡ (guard b n (answer m) then k)
guard_then true n m k = refl
guard_then false n m k = refl

-- the image rule and Outside, and then k, are the one check and then k
pub fits_then : {B : Type 0} (d : List ℕ) (n : ℕ) (img : List ℕ) (k : ℕ → Said B) → (check_image img then λ m. guard (names_outside d 0 n m) Outside (k m)) ≡ (fits d n img then k)
fits_then {B} d n img k = go (check_image img)
  where
    go : (s : Said ℕ) → (s then λ m. guard (names_outside d 0 n m) Outside (k m)) ≡ (s then (λ m. guard (names_outside d 0 n m) Outside (answer m)) then k)
    go (answer m) = guard_then (names_outside d 0 n m) Outside m k
    go (refuse x) = refl

-- two checks of one number are one
pub guard_both : {B : Type 0} (b c : Bool) (n : ℕ) (r : Said B) → guard (b || c) n r ≡ guard b n (guard c n r)
guard_both true c n r = refl
guard_both false c n r = refl

-- an image that fits has m blocks, and each that is named
pub fit_blocks : (d : List ℕ) (n : ℕ) (img : List ℕ) (m : ℕ) → fits d n img ≡ answer m → check_image img ≡ answer m
fit_blocks d n img m e =
    let b = then_answer (check_image img) _ e in
    let g = guard_answer _ _ _ b.onward in
    b.answered ∙ g.onward

pub fit_inside : (d : List ℕ) (n : ℕ) (img : List ℕ) (m : ℕ) → fits d n img ≡ answer m → names_outside d 0 n (length img / 512) ≡ false
fit_inside d n img m e =
    let b = then_answer (check_image img) _ e in
    rw (← image_blocks img b.answered) (guard_answer _ _ _ b.onward).clear
