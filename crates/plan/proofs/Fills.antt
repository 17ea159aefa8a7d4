-- A list of a fixed length that is filled from its front, one place after another, over a value that fills the rest.
use Prim.Native.Nat.{ℕ, zero, suc, ◌+◌, ◌-◌, ◌<◌}
use mathlib.Core.Path.{◌≡◌, refl, sym, ap, ◌∙◌}
use mathlib.Core.List.{List, [], ◌∷◌, ◌++◌, map}
use native.Mathlib.Omega.{arith}
use lib.ListN.{length, set, replicate}
use lib.Seq.{set_at, append_snoc}

-- one place more
pub fill_one : {A : Type 0} (l : List A) (k n : ℕ) (x v : A) → length l ≡ k → k < n
    → set (l ++ replicate (n - k) x) k v ≡ (l ++ (v ∷ [])) ++ replicate (n - (k + 1)) x
fill_one l k n x v e h =
    let m : n - k ≡ suc (n - (k + 1)) = omega arith in
    rw m (set_at l x (replicate (n - (k + 1)) x) v k e ∙ sym (append_snoc l v (replicate (n - (k + 1)) x)))

-- a filling, seen through a map
pub map-replicate : {A B : Type 0} (f : A → B) (n : ℕ) (x : A) → map f (replicate n x) ≡ replicate n (f x)
map-replicate f zero x = refl
map-replicate f (suc n) x = ap (λ (r : List _). f x ∷ r) (map-replicate f n x)

-- a store, seen through a map
pub map_set : {A B : Type 0} (f : A → B) (l : List A) (i : ℕ) (v : A) → map f (set l i v) ≡ set (map f l) i (f v)
map_set f [] i v = refl
map_set f (a ∷ l) zero v = refl
map_set f (a ∷ l) (suc i) v = ap (λ (r : List _). f a ∷ r) (map_set f l i v)
