-- What a read-through answers, case by case: the first check that refuses, and where none does, the place of block a, which lies within its slice.
use Prim.Native.Nat.{ℕ, ◌+◌, ◌-◌, ◌*◌, ◌≤◌, ◌<◌}
use mathlib.Core.Path.{◌≡◌, refl, sym, ap, ◌∙◌}
use mathlib.Core.Option.{Option, none, some}
use mathlib.Core.List.{List, []}
use native.Mathlib.Nat.{add_comm}
use native.Mathlib.Omega.{arith}
use lib.Dec.{leb}
use lib.ListN.{length, take, drop}
use borrow.Author.Tests.{le-leb, lt-leb}
use Rattle.paper.specs.Limits.{block_bytes, max_blocks}
use Rattle.paper.specs.Answer.{Said, answer, refuse, guard, ◌then◌, number, Outside}
use Rattle.paper.specs.Image.{check_image}
use Rattle.paper.specs.Diff.{Head, check, seek, names_outside}
use Rattle.paper.specs.Volume.{View, in_diff, in_image, shown, view_of, read_through, seen}
use Rattle.paper.proofs.Check.{Sound, sound}
use Rattle.paper.proofs.Names.{seek_sound}
use Rattle.paper.proofs.Views.{reads_through}
use Rattle.std.specs.Prelude.{Result, Ok}
use Rattle.record.specs.declared.refusal.Refusal.{Refusal}
use Rattle.record.specs.Records.{fits}
use Rattle.record.proofs.Passing.{goes_on, fits_then, guard_both}
use Rattle.volume.specs.declared.view.Place.{Place}
use Rattle.volume.specs.Views.{view, said_place, place_of}

-- where the diff has passed the image decides, and then a and the lookup
pub then_look : (d img : List ℕ) (a : ℕ) (h : Head) → check d ≡ answer h
    → read_through d img a ≡ (fits d h.n img then λ m. guard (leb m a) Outside (answer (view_of a (seek d a 0 h.n))))
unfolding read_through
then_look d img a h e =
    rw e
    ((λ i. check_image img then λ m. guard_both (names_outside d 0 h.n m) (leb m a) Outside (answer (view_of a (seek d a 0 h.n))) i)
    ∙ fits_then d h.n img (λ m. guard (leb m a) Outside (answer (view_of a (seek d a 0 h.n)))))

module _ (d img : List ℕ) (a : ℕ) (h : Head) (passed : check d ≡ answer h) (m : ℕ) (fitting : answer m ≡ fits d h.n img) where
  pub beyond_no : m ≤ a → refuse Outside ≡ read_through d img a
  beyond_no l = sym (then_look d img a h passed ∙ goes_on _ _ m fitting ∙ rw (le-leb m a l))

  pub looked_up : (o : Option ℕ) → a < m → o ≡ seek d a 0 h.n → answer (view_of a o) ≡ read_through d img a
  looked_up o l s = sym (then_look d img a h passed ∙ goes_on _ _ m fitting ∙ rw (lt-leb m a l, s))

-- a record that is found is one of those that a diff can have
pub found_low : {h : Head} {i : ℕ} (d : List ℕ) (a : ℕ) → check d ≡ answer h → seek d a 0 h.n ≡ some i → i < max_blocks
found_low {h} d a passed e = let s = seek_sound d a 0 h.n e in omega (arith, (sound passed).few)

-- the place that a call answers is the view that is said
pub place_read : {D : Said View} {r : Result Place Refusal} {p q : Place} → said_place r ≡ D → r ≡ Ok p → p ≡ q → D ≡ answer (view q)
place_read e f g = sym e ∙ ap said_place (f ∙ ap Ok g)

-- a view lies within its slice
abbrev pub within : List ℕ → List ℕ → View → Type 0
within d img (in_diff k) = k + block_bytes ≤ length d
within d img (in_image k) = k + block_bytes ≤ length img

pub view_within : {v : View} (d img : List ℕ) (a : ℕ) → read_through d img a ≡ answer v → within d img v
view_within d img a e =
    let r = reads_through d img a e in
    rw r.view (go r.head r.sound r.inside (seek d a 0 r.head.n) refl)
  where
    go : (h : Head) → Sound d h → 512 * a + 512 ≤ length img → (o : Option ℕ) → seek d a 0 h.n ≡ o → within d img (view_of a o)
    go h s l none f = l
    go h s l (some i) f = let t = seek_sound d a 0 h.n f in omega (arith, s.long)

-- what goes out with an answer of a read-through: the number, the bytes and their place, where the diff is at p and the image at q
abbrev pub Hands : List ℕ → List ℕ → ℕ × ℕ → ℕ × ℕ → Said View → ℕ → List ℕ → ℕ × ℕ → Type 0
Hands d img p q said n bytes at = (n ≡ number said) × ((bytes ≡ seen d img said) × (at ≡ place_of p q said))

module _ (d img : List ℕ) (a : ℕ) (p q : ℕ × ℕ) where
  part : (s : List ℕ) (k : ℕ) → take (k + 512 - k) (drop k s) ≡ take 512 (drop k s)
  part s k = let e : k + 512 - k ≡ 512 = omega arith in rw e

  pub hands_diff : (k : ℕ) → read_through d img a ≡ answer (in_diff k) → Hands d img p q (read_through d img a) 0 (take (k + 512 - k) (drop k d)) (p.0, k + p.1)
  unfolding number seen shown
  hands_diff k e = rw e (refl, (part d k, ap (λ (o : ℕ). (p.0, o)) (add_comm k p.1)))

  pub hands_image : (k : ℕ) → read_through d img a ≡ answer (in_image k) → Hands d img p q (read_through d img a) 0 (take (k + 512 - k) (drop k img)) (q.0, k + q.1)
  unfolding number seen shown
  hands_image k e = rw e (refl, (part img k, ap (λ (o : ℕ). (q.0, o)) (add_comm k q.1)))

  pub hands_nothing : (n k : ℕ) → n ≡ k → read_through d img a ≡ refuse k → Hands d img p q (read_through d img a) n [] (p.0, 0 + p.1)
  unfolding number seen
  hands_nothing n k same e = rw e (same, (refl, ap (λ (o : ℕ). (p.0, o)) (add_comm 0 p.1)))
