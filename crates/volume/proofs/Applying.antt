-- What an apply and a run answer and leave in the image, case by case: a refusal leaves it as it is, and an accepted one leaves the overlay of the
-- records that were written, which is as long as the image.
use Prim.Native.Nat.{ℕ, ◌-◌, ◌+◌, ◌≤◌, ◌<◌, min}
use mathlib.Core.Path.{◌≡◌, refl, sym, ap, ◌∙◌}
use mathlib.Core.List.{List}
use native.Mathlib.Nat.{sub-zero}
use native.Mathlib.Omega.{arith}
use lib.Dec.{ltb}
use borrow.Author.Tests.{lt-ltb, le-ltb}
use Rattle.paper.specs.Answer.{Said, answer, refuse, guard, ◌then◌, Wrote, comes_back, over, BadStart}
use Rattle.paper.specs.Image.{overlay}
use Rattle.paper.specs.Diff.{Head, head_of, check, named, named_by}
use Rattle.paper.specs.Volume.{Further, decide, apply, run_end, run}
use Rattle.paper.proofs.Answers.{answer_injective, over_all}
use Rattle.paper.proofs.Images.{overlay_length, image_blocks}
use Rattle.paper.proofs.Check.{sound}
use Rattle.paper.proofs.Applies.{decides}
use Rattle.record.specs.Records.{fits}
use Rattle.record.proofs.Passing.{goes_on, fits_then}
use Rattle.volume.specs.Writes.{Writable}

-- a call that writes into `old` and should do r: a comes back, and x is what the slice then holds
abbrev pub Gives : {A : Type 0} → List ℕ → Said (Wrote A) → Said A → List ℕ → Type 0
Gives old r a x = (a ≡ comes_back r) × (x ≡ over old r)

-- ---- apply

module _ (d state img : List ℕ) where
  pub apply_no : (k : ℕ) → refuse k ≡ decide d state img → refuse k ≡ apply d state img
  unfolding apply
  apply_no k e = rw (sym e)

  module _ (f : Further) (accepted : answer f ≡ decide d state img) where
    -- each of the diff's records may be written
    pub apply_may : (h : Head) → check d ≡ answer h → Writable d h 0 h.n img
    apply_may h e =
        let a = (decides d state img (sym accepted)).applies in
        let same : h ≡ a.head = answer_injective (sym e ∙ a.diff) in
        record { order = omega arith; within = omega arith; inside = rw (same, ← image_blocks img a.image) a.inside }

    pub applied : (h : Head) (x : List ℕ) → check d ≡ answer h → x ≡ overlay img (named_by d 0 (h.n - 0)) → Gives img (apply d state img) (answer f.done) x
    unfolding apply comes_back named
    applied h x e l =
        let x≡ : x ≡ overlay img (named_by d 0 (head_of d).n) = l ∙ rw (sub-zero, ← (sound e).head) in
        rw (sym accepted) (refl, x≡ ∙ sym (over_all img _ (overlay_length img _)))

-- ---- run

pub ends : {m n l : ℕ} (i k : ℕ) → m ≡ min k (n - i) → n ≡ l → i + m ≡ i + min k (l - i)
ends i k e f = rw (e, f)

module _ (d img : List ℕ) (i k : ℕ) where
  pub run_checked : (n : ℕ) → refuse n ≡ check d → refuse n ≡ run d img i k
  unfolding run
  run_checked n e = rw (sym e)

  module _ (h : Head) (passed : check d ≡ answer h) where
    -- where the diff has passed the image decides, and then the start
    pub then_start : run d img i k
        ≡ (fits d h.n img then λ m. guard (ltb h.n i) BadStart (answer (record { value = run_end h i k; bytes = overlay img (named_by d i (run_end h i k - i)) })))
    unfolding run
    then_start = rw passed (fits_then d h.n img _)

    pub run_fits : (n : ℕ) → refuse n ≡ fits d h.n img → refuse n ≡ run d img i k
    run_fits n e = sym (then_start ∙ rw (sym e))

    module _ (m : ℕ) (fitting : answer m ≡ fits d h.n img) where
      pub start_no : h.n < i → refuse BadStart ≡ run d img i k
      start_no l = sym (then_start ∙ goes_on _ _ m fitting ∙ rw (lt-ltb h.n i l))

      module _ (starts : i ≤ h.n) (end : ℕ) (ends : end ≡ i + min k (h.n - i)) where
        pub ran : (x : List ℕ) → x ≡ overlay img (named_by d i (end - i)) → Gives img (run d img i k) (answer end) x
        unfolding comes_back
        ran x l =
            let e : end ≡ run_end h i k = omega arith in
            let says : run d img i k ≡ answer (record { value = run_end h i k; bytes = overlay img (named_by d i (run_end h i k - i)) }) =
            then_start ∙ goes_on _ _ m fitting ∙ rw (le-ltb h.n i starts) in
            rw says (ap answer e, l ∙ rw e (sym (over_all img _ (overlay_length img _))))
