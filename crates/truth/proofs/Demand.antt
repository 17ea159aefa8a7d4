-- Demand 3: by induction on the story. A merge of true log diffs is true, so all diffs at hand are; each move keeps the volume true.
use Prim.Native.Nat.{ℕ, ◌<◌}
use mathlib.Core.Path.{◌≡◌, refl, sym, ap, ◌∙◌}
use mathlib.Core.List.{List}
use mathlib.Core.Logic.{inl, inr}
use native.Mathlib.Omega.{arith}
use Rattle.paper.specs.Answer.{answer, Wrote}
use Rattle.paper.specs.Image.{block}
use Rattle.paper.specs.Diff.{Head, log_head, counted, check, named}
use Rattle.paper.specs.Merge.{merge, merged}
use Rattle.paper.specs.History.{History, TrueDiff, TrueState}
use Rattle.paper.proofs.Answers.{answer_injective}
use Rattle.paper.proofs.Check.{sound, GoodHead, good_head}
use Rattle.paper.proofs.States.{ordered}
use Rattle.paper.proofs.Saved.{read_good}
use Rattle.paper.proofs.Merging.{Touching, merge_of}
use Rattle.paper.proofs.Truth.{clean_image, merged_true}
use Rattle.truth.specs.Story.{Volume, TrueVolume, Have, given, by_merge, Contains, itself, as_first, as_second, Story, begun, then_move, Unnamed, DemandThree}
use Rattle.truth.proofs.Moves.{cut_leaves, move_true, move_untouched}
use Rattle.truth.proofs.Cuts.{Wider, wider_accepted}

-- what is known of a merge of two true diffs: it is true, from the first's p to the second's q
pub record MergesTrue (H : History) (t₀ t₁ : Head) (w : Wrote ℕ) : Type 0 where
  pub is_true : TrueDiff H w.bytes
  pub p : is_true.head.p ≡ t₀.p
  pub q : is_true.head.q ≡ t₁.q
  pub touch : t₀.q ≡ t₁.p
  pub first : t₀.p < t₀.q
  pub second : t₁.p < t₁.q
  pub log : is_true.head.kind ≡ 0

pub merge_true : (H : History) (d₀ d₁ : List ℕ) (room : ℕ) {w : Wrote ℕ} (t₀ : TrueDiff H d₀) (t₁ : TrueDiff H d₁) → merge d₀ d₁ room ≡ answer w
    → MergesTrue H t₀.head t₁.head w
unfolding counted
merge_true H d₀ d₁ room {w} t₀ t₁ e =
    let m = merge_of d₀ d₁ room e in
    let e₀ : m.h₀ ≡ t₀.head = answer_injective (sym m.check₀ ∙ t₀.sound) in
    let e₁ : m.h₁ ≡ t₁.head = answer_injective (sym m.check₁ ∙ t₁.sound) in
    let heads : Touching t₀.head t₁.head = rw (e₀, e₁) at m.heads in
    let g₀ = good_head (sound t₀.sound).good in
    let g₁ = good_head (sound t₁.sound).good in
    let passes : check w.bytes ≡ answer (counted (log_head t₀.head.p t₁.head.q) (merged (named d₀) (named d₁))) = rw (e₀, e₁) at m.passes in
    of heads g₀ g₁
    (merged_true H d₀ d₁ w.bytes _ t₀ t₁ heads.log₀ heads.log₁ g₀.grows (omega (arith, heads.touch)) (omega (arith, heads.touch, g₁.grows))
    passes refl (omega (arith, heads.touch, g₀.grows)) refl m.names)
    passes
  where
    of : Touching t₀.head t₁.head → GoodHead t₀.head → GoodHead t₁.head → (t : TrueDiff H w.bytes)
        → check w.bytes ≡ answer (counted (log_head t₀.head.p t₁.head.q) (merged (named d₀) (named d₁))) → MergesTrue H t₀.head t₁.head w
    of heads g₀ g₁ t passes =
        let same = answer_injective (sym t.sound ∙ passes) in
        record {
          is_true = t;
          p = ap (λ h. h.p) same;
          q = ap (λ h. h.q) same;
          touch = heads.touch;
          first = g₀.grows;
          second = g₁.grows;
          log = ap (λ h. h.kind) same;
        }

module _ (H : History) (Given : List ℕ → Type 0) (true_given : (d : List ℕ) → Given d → TrueDiff H d) where
  -- every diff at hand is true
  pub have_true : {d : List ℕ} → Have Given d → TrueDiff H d
  have_true {d} (given g) = true_given d g
  have_true (by_merge {first} {second} room x y e) = (merge_true H first second room (have_true x) (have_true y) e).is_true

  -- a diff that contains another is wider
  pub contains_wider : {d w : List ℕ} (x : Have Given d) → Contains Given d w → Wider H (have_true x).head w
  contains_wider x itself = record { is_true = have_true x; starts = omega arith; ends = omega arith; kind = inr refl }
  contains_wider x (as_first {first} {second} room c y e) =
      let n = contains_wider x c in
      let m = merge_true H first second room n.is_true (have_true y) e in
      record {
        is_true = m.is_true;
        starts = omega (arith, m.p, n.starts);
        ends = omega (arith, m.q, m.touch, m.second, n.ends);
        kind = inl (rw m.log);
      }
  contains_wider x (as_second {first} {second} room y c e) =
      let n = contains_wider x c in
      let m = merge_true H first second room (have_true y) n.is_true e in
      record {
        is_true = m.is_true;
        starts = omega (arith, m.p, m.touch, m.first, n.starts);
        ends = omega (arith, m.q, n.ends);
        kind = inl (rw m.log);
      }

  -- the volume stays true
  pub story_true : {v x : Volume} {ds : List (List ℕ)} → TrueVolume H v → Story Given v ds x → TrueVolume H x
  story_true t begun = t
  story_true t (then_move {d = d} {x = x} story had move) = move_true H d (have_true had) x (story_true t story) move

  -- and its unnamed blocks stay
  pub story_untouched : {v x : Volume} {ds : List (List ℕ)} (a : ℕ) → Unnamed a ds → Story Given v ds x → block x.image a ≡ block v.image a
  story_untouched a u begun = refl
  story_untouched a u (then_move story had move) = move_untouched (have_true had).sound move a u.0 ∙ story_untouched a u.1 story

-- Demand 3
pub demand_three : DemandThree
demand_three H Given v x ds true_given true_v story =
    let true_x = story_true H Given true_given true_v story in
    record {
      stays_true = true_x;
      clean_means = λ s r y.
          let e : true_x.state ≡ s = answer_injective (sym true_x.reads ∙ r) in
          let t : TrueState H s x.image = rw e at true_x.holds in
          let o = ordered s (read_good x.saved r).fits in
          clean_image H s x.image t y (omega (arith, t.within, o.low, o.high));
      untouched = λ a u. story_untouched H Given true_given a u story;
      goes_on = λ {d} {w} {y} had c k.
          let t = have_true H Given true_given had in
          wider_accepted H d t x true_x (cut_leaves t.sound c) w (contains_wider H Given true_given had k);
    }
