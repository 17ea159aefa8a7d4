-- What a decision and an apply leave where their states cross as records: NoRoom, where too few bytes are lent, is checked last.
-- Both states of an accepted apply are states, so writing their records is never refused for them.
use Prim.Native.Nat.{ℕ, ◌≤◌, ◌<◌}
use mathlib.Core.Path.{◌≡◌, refl, sym}
use mathlib.Core.List.{List}
use mathlib.Core.Bool.{false}
use lib.ListN.{length}
use borrow.Author.Tests.{lt-ltb, le-ltb}
use Rattle.paper.specs.Limits.{state_size}
use Rattle.paper.specs.Answer.{Said, answer, refuse, guard, ◌then◌, Wrote, comes_back, onto, over, NoRoom}
use Rattle.paper.specs.State as Paper
use Rattle.paper.specs.State.{state_bytes, write_state}
use Rattle.paper.specs.Volume.{decide, apply}
use Rattle.paper.proofs.Answers.{answer_injective, refuse_not_answer}
use Rattle.paper.proofs.States.{GoodState, good_back}
use Rattle.paper.proofs.Applies.{further_good, does}
use Rattle.record.proofs.StateLaws.{write_fits}
use Rattle.volume.specs.declared.decision.While.{While}
use Rattle.volume.specs.declared.decision.Done.{Done}
use Rattle.volume.specs.Decisions.{while, done, further}
use Rattle.desk.specs.Rows.{decide_records, further_row, apply_record, applied_row}

-- a state's record where a slice with room for it opens
recorded : (s : Paper.State) (old new : List ℕ) → GoodState s → state_size ≤ length old → new ≡ over old (write_state s (length old)) → new ≡ onto (state_bytes s) old
unfolding over
recorded s old new g l e = rw (write_fits s (length old) (good_back s g) l) at e

-- ---- deciding

module _ (d saved img during done₀ : List ℕ) where
  pub decide_no : (n k : ℕ) → refuse n ≡ decide d saved img → k ≡ n
      → (k, during, done₀) ≡ further_row during done₀ (decide_records d saved img (length during) (length done₀))
  unfolding decide_records
  decide_no n k e f = rw (← e, f) refl

  module _ (b : While × Done) (accepted : answer (further b) ≡ decide d saved img) where
    pub no_room_for_while : (k : ℕ) → length during < 28 → k ≡ NoRoom
        → (k, during, done₀) ≡ further_row during done₀ (decide_records d saved img (length during) (length done₀))
    unfolding decide_records
    no_room_for_while k h e = rw (← accepted, lt-ltb (length during) 28 h, e) refl

    module _ (room₀ : 28 ≤ length during) where
      pub no_room_for_done : (k : ℕ) → length done₀ < 28 → k ≡ NoRoom
          → (k, during, done₀) ≡ further_row during done₀ (decide_records d saved img (length during) (length done₀))
      unfolding decide_records
      no_room_for_done k h e = rw (← accepted, le-ltb (length during) 28 room₀, lt-ltb (length done₀) 28 h, e) refl

      pub decide_yes : (s t : Paper.State) (during₁ done₁ : List ℕ) → 28 ≤ length done₀ → s ≡ while b.0 → t ≡ done b.1
          → during₁ ≡ over during (write_state s (length during)) → done₁ ≡ over done₀ (write_state t (length done₀))
          → (0, during₁, done₁) ≡ further_row during done₀ (decide_records d saved img (length during) (length done₀))
      unfolding decide_records
      decide_yes s t during₁ done₁ room₁ ws dt e₀ e₁ =
          let good = further_good d saved img (sym accepted) in
          let one = recorded (while b.0) during during₁ good.while room₀ (rw ws at e₀) in
          let two = recorded (done b.1) done₀ done₁ good.done room₁ (rw dt at e₁) in
          rw (← accepted, le-ltb (length during) 28 room₀, le-ltb (length done₀) 28 room₁, one, two) refl

-- ---- an apply

-- what it said, and what it left in the image
applied_no : (img img₁ done₀ : List ℕ) (k : ℕ) (m : Said (Wrote Paper.State)) → img₁ ≡ over img m → refuse k ≡ comes_back m
    → (k, img₁, done₀) ≡ applied_row img done₀ (m then λ w. guard false NoRoom (answer w))
unfolding over comes_back
applied_no img img₁ done₀ k (answer w) l e = cc
applied_no img img₁ done₀ k (refuse j) l e = cc

applied_yes : (img img₁ done₀ done₁ : List ℕ) (s : Paper.State) (m : Said (Wrote Paper.State)) → img₁ ≡ over img m → answer s ≡ comes_back m
    → done₁ ≡ onto (state_bytes s) done₀ → (0, img₁, done₁) ≡ applied_row img done₀ (m then λ w. guard false NoRoom (answer w))
unfolding over comes_back
applied_yes img img₁ done₀ done₁ s (answer w) l e g = rw (l, g, answer_injective e) refl
applied_yes img img₁ done₀ done₁ s (refuse j) l e g = cc

-- where a comes back, it came with bytes
record Came (m : Said (Wrote Paper.State)) (a : Paper.State) : Type 0 where
  with_bytes : Wrote Paper.State
  done : m ≡ answer with_bytes
  value : with_bytes.value ≡ a

came : (m : Said (Wrote Paper.State)) (a : Paper.State) → answer a ≡ comes_back m → Came m a
unfolding comes_back
came (answer w) a e = record { with_bytes = w; done = refl; value = sym (answer_injective e) }
came (refuse j) a e = absurd (refuse_not_answer (sym e))

module _ (d saved img : List ℕ) where
  pub none_no : (n k : ℕ) → refuse n ≡ decide d saved img → k ≡ n → refuse k ≡ apply_record d saved img 0
  unfolding apply_record apply
  none_no n k e f = rw (← e, f) refl

  pub none_yes : (b : While × Done) (k : ℕ) → answer (further b) ≡ decide d saved img → k ≡ NoRoom → refuse k ≡ apply_record d saved img 0
  unfolding apply_record apply
  none_yes b k e g = rw (← e, g) refl

  -- room for too few bytes is no room
  pub apply_short : (done₀ : List ℕ) (k : ℕ) → length done₀ < 28 → refuse k ≡ apply_record d saved img 0
      → (k, img, done₀) ≡ applied_row img done₀ (apply_record d saved img (length done₀))
  unfolding apply_record
  apply_short done₀ k h e = rw (lt-ltb (length done₀) 28 h, ← e) refl

  module _ (done₀ img₁ : List ℕ) (room : 28 ≤ length done₀) (leaves : img₁ ≡ over img (apply d saved img)) where
    pub apply_no : (n k : ℕ) → refuse n ≡ comes_back (apply d saved img) → k ≡ n
        → (k, img₁, done₀) ≡ applied_row img done₀ (apply_record d saved img (length done₀))
    unfolding apply_record
    apply_no n k e f = rw (le-ltb (length done₀) 28 room, f) (applied_no img img₁ done₀ n (apply d saved img) leaves e)

    pub apply_yes : (f : Done) (s : Paper.State) (done₁ : List ℕ) → answer (done f) ≡ comes_back (apply d saved img) → s ≡ done f
        → done₁ ≡ over done₀ (write_state s (length done₀))
        → (0, img₁, done₁) ≡ applied_row img done₀ (apply_record d saved img (length done₀))
    unfolding apply_record
    apply_yes f s done₁ a g h =
        let c = came (apply d saved img) (done f) a in
        let v = does d saved img c.done in
        let good = rw (← v.value, c.value) at (further_good d saved img v.decides).done in
        let one = recorded (done f) done₀ done₁ good room (rw g at h) in
        rw (le-ltb (length done₀) 28 room) (applied_yes img img₁ done₀ done₁ (done f) (apply d saved img) leaves a one)
