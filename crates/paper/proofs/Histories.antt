-- A history over several steps: a block that no step from p to q − 1 writes is the same in each image from H(p) to H(q).
-- So the maps of two log diffs that touch or overlap merge into the map of the log diff over both.
use Prim.Native.Nat.{ℕ, zero, suc, ◌+◌, ◌-◌, ◌≤◌, ◌<◌, min}
use mathlib.Core.Path.{◌≡◌, sym, ap, ◌∙◌}
use mathlib.Core.Option.{some}
use mathlib.Core.Bool.{true, false, ◌||◌, true≢false}
use native.Mathlib.Omega.{arith}
use native.Mathlib.Decide.{dec_lt}
use Rattle.paper.specs.Image.{block}
use Rattle.paper.specs.Merge.{merged}
use Rattle.paper.specs.History.{History, writes_in, logged}
use Rattle.paper.proofs.Bools.{Which, holds, fails, which, or_false_left, or_false_right}

-- a step from p up to, not including, q that writes block a
pub record Step (H : History) (p q a : ℕ) : Type 0 where
  pub gid : ℕ
  pub from : p ≤ gid
  pub to : gid < q
  pub writes : H.writes gid a ≡ true

module _ (H : History) where
  -- "the blocks written in steps p to q−1": the test finds a step
  pub step_of : (k p q a : ℕ) → p + k ≡ q → writes_in H p k a ≡ true → Step H p q a
  unfolding writes_in
  step_of zero p q a e w = absurd (true≢false (sym w))
  step_of (suc k) p q a e w = go (which (H.writes p a)) w (λ v. step_of k (suc p) q a (omega arith) v)
    where
      go : Which (H.writes p a) → (H.writes p a || writes_in H (suc p) k a) ≡ true → (writes_in H (suc p) k a ≡ true → Step H (suc p) q a) → Step H p q a
      go (holds y) v later = record { gid = p; from = omega arith; to = omega arith; writes = y }
      go (fails y) v later =
          let s : Step H (suc p) q a = later (rw y at v) in
          record { gid = s.gid; from = omega arith; to = s.to; writes = s.writes }

  -- and a step makes the test true
  pub step_in : (k p q a : ℕ) → p + k ≡ q → Step H p q a → writes_in H p k a ≡ true
  unfolding writes_in
  step_in zero p q a e s = absurd (omega arith)
  step_in (suc k) p q a e s = go (which (H.writes p a)) (λ l. step_in k (suc p) q a (omega arith) (record { gid = s.gid; from = l; to = s.to; writes = s.writes }))
    where
      go : Which (H.writes p a) → (p < s.gid → writes_in H (suc p) k a ≡ true) → (H.writes p a || writes_in H (suc p) k a) ≡ true
      go (holds y) later = rw y
      go (fails y) later = rw y (elim (dec_lt p s.gid) [ yes l ↦ later l | no l ↦ absurd (true≢false (clash (omega arith))) ])
        where
          clash : s.gid ≡ p → true ≡ false
          clash g = sym s.writes ∙ ap (λ (u : ℕ). H.writes u a) g ∙ y

  -- a block that no step writes stays
  pub unwritten : (k p q a : ℕ) → p + k ≡ q → q ≤ H.last → writes_in H p k a ≡ false → (u : ℕ) → p ≤ u → u ≤ q → block (H.image u) a ≡ block (H.image q) a
  unfolding writes_in
  unwritten zero p q a e l w u h₁ h₂ = let v : u ≡ q = omega arith in ap (λ (g : ℕ). block (H.image g) a) v
  unwritten (suc k) p q a e l w u h₁ h₂ =
      let later : (v : ℕ) → suc p ≤ v → v ≤ q → block (H.image v) a ≡ block (H.image q) a =
      unwritten k (suc p) q a (omega arith) l (or_false_right (H.writes p a) _ w) in
      elim (dec_lt p u) [
        | yes h ↦ later u h h₂
        | no h ↦
            let v : u ≡ p = omega arith in
            ap (λ (g : ℕ). block (H.image g) a) v
            ∙ sym (H.stays p a (omega arith) (or_false_left (H.writes p a) _ w))
            ∙ later (suc p) (omega arith) (omega arith)
      ]

  -- a block written lies inside
  pub written_inside : (k p q a : ℕ) → p + k ≡ q → q ≤ H.last → writes_in H p k a ≡ true → a < H.blocks
  written_inside k p q a e l w =
      let s : Step H p q a = step_of k p q a e w in
      H.inside s.gid a (omega arith) s.writes

  -- The second's p ≤ the first's q ≤ the second's q: the two log diffs merge into the one over both.
  pub logged_merge : (p₀ q₀ p₁ q₁ : ℕ) → p₀ ≤ q₀ → p₁ ≤ q₀ → q₀ ≤ q₁ → q₁ ≤ H.last
      → (a : ℕ) → merged (logged H p₀ q₀) (logged H p₁ q₁) a ≡ logged H (min p₀ p₁) q₁ a
  unfolding merged logged
  logged_merge p₀ q₀ p₁ q₁ l₀ l₁ l₂ l₃ a =
      go (which (writes_in H p₁ (q₁ - p₁) a)) (which (writes_in H p₀ (q₀ - p₀) a)) (which (writes_in H (min p₀ p₁) (q₁ - min p₀ p₁) a))
    where
      -- both steps lie within the wider span
      wider : {p q : ℕ} → min p₀ p₁ ≤ p → q ≤ q₁ → Step H p q a → writes_in H (min p₀ p₁) (q₁ - min p₀ p₁) a ≡ true
      wider h₁ h₂ s =
          step_in (q₁ - min p₀ p₁) (min p₀ p₁) q₁ a (omega arith)
          (record { gid = s.gid; from = omega (arith, s.from); to = omega (arith, s.to); writes = s.writes })

      -- and a step of the wider span is one of the two
      narrower : Step H (min p₀ p₁) q₁ a → writes_in H p₁ (q₁ - p₁) a ≡ false → writes_in H p₀ (q₀ - p₀) a ≡ false → ⊥
      narrower s n₁ n₀ =
          elim (dec_lt s.gid p₁) [
            | yes h ↦ true≢false (sym (step_in (q₀ - p₀) p₀ q₀ a (omega arith) (record { gid = s.gid; from = omega (arith, s.from); to = omega arith; writes = s.writes })) ∙ n₀)
            | no h ↦ true≢false (sym (step_in (q₁ - p₁) p₁ q₁ a (omega arith) (record { gid = s.gid; from = omega arith; to = s.to; writes = s.writes })) ∙ n₁)
          ]

      go : Which (writes_in H p₁ (q₁ - p₁) a) → Which (writes_in H p₀ (q₀ - p₀) a) → Which (writes_in H (min p₀ p₁) (q₁ - min p₀ p₁) a)
          → merged (logged H p₀ q₀) (logged H p₁ q₁) a ≡ logged H (min p₀ p₁) q₁ a
      go (holds y₁) w₀ (holds y) = rw (y₁, y)
      go (holds y₁) w₀ (fails n) = absurd (true≢false (sym (wider (omega arith) (omega arith) (step_of (q₁ - p₁) p₁ q₁ a (omega arith) y₁)) ∙ n))
      go (fails n₁) (holds y₀) (holds y) = rw (n₁, y₀, y) (ap some (unwritten (q₁ - p₁) p₁ q₁ a (omega arith) l₃ n₁ q₀ l₁ l₂))
      go (fails n₁) (holds y₀) (fails n) = absurd (true≢false (sym (wider (omega arith) (omega arith) (step_of (q₀ - p₀) p₀ q₀ a (omega arith) y₀)) ∙ n))
      go (fails n₁) (fails n₀) (holds y) = absurd (narrower (step_of (q₁ - min p₀ p₁) (min p₀ p₁) q₁ a (omega arith) y) n₁ n₀)
      go (fails n₁) (fails n₀) (fails n) = rw (n₁, n₀, n)
