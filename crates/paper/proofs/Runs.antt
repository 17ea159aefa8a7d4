-- Runs: each writes part of the diff's map, and the maps of runs that cover all records merge into the whole map, in any order and with repeats.
-- A cut among them leaves a mix of old and new bytes.
use Prim.Native.Nat.{ℕ, ◌+◌, ◌-◌, ◌/◌, ◌%◌, ◌≤◌, ◌<◌}
use mathlib.Core.Path.{◌≡◌, refl, sym, ap, ◌∙◌}
use mathlib.Core.Option.{Option, none, some}
use mathlib.Core.List.{List, ◌∷◌}
use mathlib.Core.Bool.{true, ◌&&◌, ◌||◌, false≢true}
use mathlib.Core.Logic.{◌⊎◌, inl, inr}
use native.Mathlib.Omega.{arith}
use lib.Dec.{leb, ltb}
use lib.ListN.{length, get_or}
use borrow.Author.Tests.{ltb-false, ltb-true, leb-true}
use Rattle.paper.specs.Answer.{answer, Wrote, Outside, BadStart}
use Rattle.paper.specs.Image.{Map, byte_after, overlay, check_image}
use Rattle.paper.specs.Diff.{Head, rest, content_of, address_of, check, named_by, named, names_outside}
use Rattle.paper.specs.Volume.{run_end, run, Stretch, covers, Runs, no_run, one_more}
use Rattle.paper.specs.History.{Mixed}
use Rattle.paper.proofs.Bools.{Which, holds, fails, which, and_true_left, and_true_right}
use Rattle.paper.proofs.Answers.{answer_injective, guard_answer, then_answer}
use Rattle.paper.proofs.Images.{overlay_length, overlay_at}
use Rattle.paper.proofs.Overlay.{is_overlay}
use Rattle.paper.proofs.Check.{Sound, passes}
use Rattle.paper.proofs.Names.{named_by_sound, named_by_found, seek_record, named_sound, names_record}

-- f gives some blocks what F gives them, and no others anything
abbrev pub Part : Map → Map → Type 0
Part f F = (a : ℕ) → (f a ≡ none) ⊎ (f a ≡ F a)

-- an accepted run
pub record Ran (d img : List ℕ) (r : Stretch) (w : Wrote ℕ) : Type 0 where
  pub head : Head
  pub sound : check d ≡ answer head
  pub starts : r.first ≤ head.n
  pub value : w.value ≡ run_end head r.first r.number
  pub bytes : w.bytes ≡ overlay img (named_by d r.first (run_end head r.first r.number - r.first))

pub ran : {w : Wrote ℕ} (d img : List ℕ) (r : Stretch) → run d img r.first r.number ≡ answer w → Ran d img r w
unfolding run
ran d img r e =
    let c₁ = then_answer (check d) _ e in
    let h = c₁.first in
    let c₂ = then_answer (check_image img) _ c₁.onward in
    let c₃ = guard_answer (names_outside d 0 h.n c₂.first) Outside _ c₂.onward in
    let c₄ = guard_answer (ltb h.n r.first) BadStart _ c₃.onward in
    let w≡ = answer_injective c₄.onward in
    record { head = h; sound = c₁.answered; starts = ltb-false _ _ c₄.clear; value = ap (λ v. v.value) (sym w≡); bytes = ap (λ v. v.bytes) (sym w≡) }

module _ {d : List ℕ} {h : Head} (s : Sound d h) where
  -- the map of some records is part of the diff's
  pub part_of_diff : (i k : ℕ) → i + k ≤ h.n → Part (named_by d i k) (named d)
  part_of_diff i k l a = go (named_by d i k a) refl
    where
      go : (o : Option (List ℕ)) → named_by d i k a ≡ o → (named_by d i k a ≡ none) ⊎ (named_by d i k a ≡ named d a)
      go none e = inl e
      go (some c) e =
          let r = named_by_sound d i k a e in
          let at = r.sought in
          inr (e ∙ ap some r.content ∙ sym (names_record s r.place (omega arith)) ∙ ap (named d) at.address)

  -- the map of a run
  run_map : Stretch → Map
  run_map r = named_by d r.first (run_end h r.first r.number - r.first)

  run_gives : {w : Wrote ℕ} (img : List ℕ) (r : Stretch) → run d img r.first r.number ≡ answer w → (w.bytes ≡ overlay img (run_map r)) × Part (run_map r) (named d)
  unfolding run_map
  run_gives {w} img r e =
      let a = ran d img r e in
      let same : a.head ≡ h = answer_injective (sym a.sound ∙ passes s) in
      let starts : r.first ≤ h.n = rw same at a.starts in
      (rw same at a.bytes, part_of_diff r.first (run_end h r.first r.number - r.first) (omega arith))

  -- a run that covers record j names its block
  run_covers : (r : Stretch) (j : ℕ) → j < h.n → (leb r.first j && ltb j (r.first + r.number)) ≡ true
      → run_map r (address_of (rest d j)) ≡ some (content_of (rest d j))
  unfolding run_map
  run_covers r j l c =
      let low : r.first ≤ j = leb-true _ _ (and_true_left _ _ c) in
      let high : j < r.first + r.number = ltb-true _ _ (and_true_right (leb r.first j) _ c) in
      named_by_found d _ _ _ (seek_record s r.first _ j low (omega arith) l)

  -- byte i of an image after one run: what the diff's map gives, or what stood there
  run_byte : {w : Wrote ℕ} (img : List ℕ) (r : Stretch) → run d img r.first r.number ≡ answer w → (i : ℕ) → i < length img
      → (get_or w.bytes i 0 ≡ get_or img i 0) ⊎ (get_or w.bytes i 0 ≡ byte_after (named d (i / 512)) (i % 512) (get_or img i 0))
  run_byte {w} img r e i l =
      let (b, p) = run_gives img r e in
      go b (p (i / 512))
    where
      go : w.bytes ≡ overlay img (run_map r) → (run_map r (i / 512) ≡ none) ⊎ (run_map r (i / 512) ≡ named d (i / 512))
          → (get_or w.bytes i 0 ≡ get_or img i 0) ⊎ (get_or w.bytes i 0 ≡ byte_after (named d (i / 512)) (i % 512) (get_or img i 0))
      go b (inl n) = inl (rw (b, overlay_at img (run_map r) i l, n))
      go b (inr n) = inr (rw (b, overlay_at img (run_map r) i l, n))

  run_length : {w : Wrote ℕ} (img : List ℕ) (r : Stretch) → run d img r.first r.number ≡ answer w → length w.bytes ≡ length img
  run_length img r e = rw (run_gives img r e).0 (overlay_length img (run_map r))

  pub runs_length : {rs : List Stretch} {img end : List ℕ} → Runs d rs img end → length end ≡ length img
  runs_length no_run = refl
  runs_length {img = img} (one_more {r = r} e rs) = runs_length rs ∙ run_length img r e

  -- a byte that no record names stays
  runs_unnamed : {rs : List Stretch} {img end : List ℕ} (i : ℕ) → i < length img → named d (i / 512) ≡ none → Runs d rs img end → get_or end i 0 ≡ get_or img i 0
  runs_unnamed i l n no_run = refl
  runs_unnamed {img = img} i l n (one_more {r = r} {w = w} e rs) =
      runs_unnamed i (rw (run_length img r e) l) n rs ∙ stays (run_byte img r e i l)
    where
      stays : (get_or w.bytes i 0 ≡ get_or img i 0) ⊎ (get_or w.bytes i 0 ≡ byte_after (named d (i / 512)) (i % 512) (get_or img i 0)) → get_or w.bytes i 0 ≡ get_or img i 0
      stays (inl x) = x
      stays (inr x) = x ∙ rw n

  -- a byte that is new stays new
  runs_new : {rs : List Stretch} {img end : List ℕ} (i : ℕ) (c : List ℕ) → i < length img → named d (i / 512) ≡ some c → get_or img i 0 ≡ get_or c (i % 512) 0
      → Runs d rs img end → get_or end i 0 ≡ get_or c (i % 512) 0
  runs_new i c l n x no_run = x
  runs_new {img = img} i c l n x (one_more {r = r} {w = w} e rs) =
      runs_new i c (rw (run_length img r e) l) n (stays (run_byte img r e i l)) rs
    where
      stays : (get_or w.bytes i 0 ≡ get_or img i 0) ⊎ (get_or w.bytes i 0 ≡ byte_after (named d (i / 512)) (i % 512) (get_or img i 0)) → get_or w.bytes i 0 ≡ get_or c (i % 512) 0
      stays (inl y) = y ∙ x
      stays (inr y) = y ∙ rw n

  -- a byte of a record that is covered is new
  runs_covered : {rs : List Stretch} {img end : List ℕ} (i j : ℕ) → i < length img → j < h.n → address_of (rest d j) ≡ i / 512 → covers rs j ≡ true
      → Runs d rs img end → get_or end i 0 ≡ get_or (content_of (rest d j)) (i % 512) 0
  unfolding covers
  runs_covered i j l m a c no_run = absurd (false≢true c)
  runs_covered {rs = r₀ ∷ rs₀} {img = img} {end = end} i j l m a c (one_more {r = r} {rs = rs} {w = w} e more) =
      go (which (leb r.first j && ltb j (r.first + r.number))) c (λ c'. runs_covered i j (rw (run_length img r e) l) m a c' more)
    where
      go : Which (leb r.first j && ltb j (r.first + r.number)) → ((leb r.first j && ltb j (r.first + r.number)) || covers rs j) ≡ true
          → (covers rs j ≡ true → get_or end i 0 ≡ get_or (content_of (rest d j)) (i % 512) 0) → get_or end i 0 ≡ get_or (content_of (rest d j)) (i % 512) 0
      go (fails n) c' later = later (rw n at c')
      go (holds y) c' later =
          let k = run_covers r j m y in
          let b = (run_gives img r e).0 in
          runs_new i (content_of (rest d j)) (rw (run_length img r e) l) (ap (named d) (sym a) ∙ names_record s j m)
          (rw (b, overlay_at img (run_map r) i l, ← a, k)) more

  -- Runs that between them cover all records leave the image as doing does.
  pub runs_as_apply : {rs : List Stretch} {img end : List ℕ} → ((j : ℕ) → j < h.n → covers rs j ≡ true) → Runs d rs img end → end ≡ overlay img (named d)
  runs_as_apply {rs} {img} {end} all r = is_overlay img (named d) end (runs_length r) (λ i l. go i l (named d (i / 512)) refl)
    where
      go : (i : ℕ) → i < length img → (o : Option (List ℕ)) → named d (i / 512) ≡ o → get_or end i 0 ≡ byte_after (named d (i / 512)) (i % 512) (get_or img i 0)
      go i l none n = rw n (runs_unnamed i l n r)
      go i l (some c) n =
          let f = named_sound s (i / 512) n in
          let at = f.sought in
          let m : f.place < h.n = omega arith in
          rw (n, f.content) (runs_covered i f.place l m at.address (all f.place m) r)

  -- A cut in the middle of a run leaves a mix of what stood before all runs and what stands after the apply.
  pub cut_run_mixed : {w : Wrote ℕ} (img mid now : List ℕ) (r : Stretch) → Mixed img (overlay img (named d)) mid → run d mid r.first r.number ≡ answer w
      → Mixed mid w.bytes now → Mixed img (overlay img (named d)) now
  cut_run_mixed {w} img mid now r m e c = record { long = c.long ∙ m.long; bytes = bytes }
    where
      bytes : (i : ℕ) → i < length img → (get_or now i 0 ≡ get_or img i 0) ⊎ (get_or now i 0 ≡ get_or (overlay img (named d)) i 0)
      bytes i l = of_cut (c.bytes i l')
        where
          l' : i < length mid
          l' = omega (arith, m.long)

          of_mid : get_or now i 0 ≡ get_or mid i 0 → (get_or mid i 0 ≡ get_or img i 0) ⊎ (get_or mid i 0 ≡ get_or (overlay img (named d)) i 0)
              → (get_or now i 0 ≡ get_or img i 0) ⊎ (get_or now i 0 ≡ get_or (overlay img (named d)) i 0)
          of_mid x (inl y) = inl (x ∙ y)
          of_mid x (inr y) = inr (x ∙ y)

          of_new : get_or now i 0 ≡ byte_after (named d (i / 512)) (i % 512) (get_or mid i 0) → (o : Option (List ℕ)) → named d (i / 512) ≡ o
              → (get_or now i 0 ≡ get_or img i 0) ⊎ (get_or now i 0 ≡ get_or (overlay img (named d)) i 0)
          of_new x none n = of_mid (x ∙ rw n) (m.bytes i l)
          of_new x (some z) n = inr (x ∙ rw (overlay_at img (named d) i l, n))

          of_run : get_or now i 0 ≡ get_or w.bytes i 0 → (get_or w.bytes i 0 ≡ get_or mid i 0) ⊎ (get_or w.bytes i 0 ≡ byte_after (named d (i / 512)) (i % 512) (get_or mid i 0))
              → (get_or now i 0 ≡ get_or img i 0) ⊎ (get_or now i 0 ≡ get_or (overlay img (named d)) i 0)
          of_run x (inl y) = of_mid (x ∙ y) (m.bytes i l)
          of_run x (inr y) = of_new (x ∙ y) (named d (i / 512)) refl

          of_cut : (get_or now i 0 ≡ get_or mid i 0) ⊎ (get_or now i 0 ≡ get_or w.bytes i 0) → (get_or now i 0 ≡ get_or img i 0) ⊎ (get_or now i 0 ≡ get_or (overlay img (named d)) i 0)
          of_cut (inl x) = of_mid x (m.bytes i l)
          of_cut (inr x) = of_run x (run_byte mid r e i l')

  -- Runs, whether or not they cover all records, leave such a mix too.
  pub runs_mixed : {rs : List Stretch} {img mid end : List ℕ} → Mixed img (overlay img (named d)) mid → Runs d rs mid end → Mixed img (overlay img (named d)) end
  runs_mixed m no_run = m
  runs_mixed {img = img} {mid = mid} m (one_more {r = r} {w = w} e rs) =
      runs_mixed (cut_run_mixed img mid w.bytes r m e (record { long = run_length mid r e; bytes = λ i l. inr refl })) rs
