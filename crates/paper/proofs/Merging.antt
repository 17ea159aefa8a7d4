-- What a merge gives: the one diff that means both, the second over the first. So merging three diffs is the same from the left and from the right:
-- taking the second's block, else the first's, is associative, and each way asks that the three are log diffs that touch.
use Prim.Native.Nat.{ℕ, ◌≤◌, ◌<◌}
use mathlib.Core.Path.{◌≡◌, refl, sym, ap, ◌∙◌}
use mathlib.Core.Logic.{◌↔◌}
use mathlib.Core.Option.{none, some}
use mathlib.Core.List.{List}
use mathlib.Core.Bool.{false, not, ◌||◌}
use lib.Dec.{eqb}
use lib.ListN.{length}
use native.Mathlib.Nat.{le_refl}
use native.Mathlib.Omega.{arith}
use borrow.Author.Tests.{eqb-true, eqb-false, eq-eqb, not-false}
use Rattle.paper.specs.Limits.{block_bytes, max_blocks}
use Rattle.paper.specs.Answer.{answer, guard, Wrote, Apart}
use Rattle.paper.specs.Image.{Map, overlay}
use Rattle.paper.specs.Diff.{Head, log_head, bad_head, is_compared, check, named, counted, written}
use Rattle.paper.specs.Merge.{merged, merge_heads, merge}
use Rattle.paper.proofs.Answers.{answer_injective, Passed, guard_answer, then_answer, wrote, Output, output_answer, output_passes}
use Rattle.paper.proofs.Bools.{neither}
use Rattle.paper.proofs.Images.{overlay_same}
use Rattle.paper.proofs.Overlay.{overlay_overlay}
use Rattle.paper.proofs.Check.{GoodHead, good_head, good_passes, sound}
use Rattle.paper.proofs.Names.{Fits, unnamed, named_as, seen, named_fits}
use Rattle.paper.proofs.Meaning.{reads_back_check, reads_back_map, written_same}

-- ---- merging maps

-- where the second names a block, the merge has its content
pub merged_second : (f g : Map) {a : ℕ} {c : List ℕ} → g a ≡ some c → merged f g a ≡ some c
unfolding merged
merged_second f g e = rw e

-- elsewhere it is as the first
pub merged_first : (f g : Map) {a : ℕ} → g a ≡ none → merged f g a ≡ f a
unfolding merged
merged_first f g e = rw e

-- a merge of maps that diffs can mean is one
pub merged_fits : {f g : Map} → Fits f → Fits g → Fits (merged f g)
merged_fits {f} {g} first second = record { within = λ a c e. (of a c e).0; whole = λ a c e. (of a c e).1 }
  where
    of : (a : ℕ) (c : List ℕ) → merged f g a ≡ some c → (a < max_blocks) × (length c ≡ block_bytes)
    of a c e = elim (seen g a) [
      | unnamed n ↦ let e' = sym (merged_first f g n) ∙ e in (first.within a c e', first.whole a c e')
      | named_as c' n ↦
          let same : some c' ≡ some c = sym (merged_second f g n) ∙ e in
          let e' = n ∙ same in
          (second.within a c e', second.whole a c e')
    ]

-- merging maps is associative
pub merged_assoc : (f g e : Map) (a : ℕ) → merged (merged f g) e a ≡ merged f (merged g e) a
unfolding merged
merged_assoc f g e a = elim (seen e a) [
  | unnamed n ↦ rw n
  | named_as c n ↦ rw n
]

-- and hangs only on what the maps give the block
pub merged_same : (f g f' g' : Map) (a : ℕ) → f a ≡ f' a → g a ≡ g' a → merged f g a ≡ merged f' g' a
unfolding merged
merged_same f g f' g' a p q = rw (p, q)

-- ---- what a merge asks of the heads

-- Two heads that merge: both log, and they touch.
pub record Touching (h₀ h₁ : Head) : Type 0 where
  pub log₀ : is_compared h₀ ≡ false
  pub log₁ : is_compared h₁ ≡ false
  pub touch : h₀.q ≡ h₁.p

-- of a good head, log is kind 0
pub log_kind : {h : Head} → GoodHead h → is_compared h ≡ false → h.kind ≡ 0
log_kind {h} good log = omega (arith, eqb-false h.kind 1 log)

-- what an answer of the heads' checks says
pub touching : {h : Head} (h₀ h₁ : Head) → merge_heads h₀ h₁ ≡ answer h → Touching h₀ h₁ × (h ≡ log_head h₀.p h₁.q)
unfolding merge_heads
touching {h} h₀ h₁ e = of (guard_answer _ _ _ e)
  where
    of : Passed (is_compared h₀ || is_compared h₁) (guard (not (eqb h₀.q h₁.p)) Apart (answer (log_head h₀.p h₁.q))) h
        → Touching h₀ h₁ × (h ≡ log_head h₀.p h₁.q)
    of logs =
        let (log₀, log₁) = neither _ _ logs.clear in
        let apart = guard_answer _ _ _ logs.onward in (
          record { log₀ = log₀; log₁ = log₁; touch = eqb-true h₀.q h₁.p (not-false _ apart.clear) },
          sym (answer_injective apart.onward),
        )

-- heads that touch are merged
pub touching_merges : {h₀ h₁ : Head} → Touching h₀ h₁ → merge_heads h₀ h₁ ≡ answer (log_head h₀.p h₁.q)
unfolding merge_heads
touching_merges {h₀} {h₁} t = rw (t.log₀, t.log₁, eq-eqb h₀.q h₁.p t.touch)

-- ---- what a merge gives

-- the diff that means two, the second over the first
abbrev pub merge_bytes : List ℕ → List ℕ → Head → Head → List ℕ
merge_bytes d₀ d₁ h₀ h₁ = written (log_head h₀.p h₁.q) (merged (named d₀) (named d₁))

-- A merge of d₀ and d₁: what holds of the two, and of what is written.
pub record MergeOf (d₀ d₁ : List ℕ) (w : Wrote ℕ) : Type 0 where
  pub h₀ : Head
  pub h₁ : Head
  pub check₀ : check d₀ ≡ answer h₀
  pub check₁ : check d₁ ≡ answer h₁
  pub heads : Touching h₀ h₁
  pub value : w.value ≡ length w.bytes
  pub bytes : w.bytes ≡ merge_bytes d₀ d₁ h₀ h₁
  pub passes : check w.bytes ≡ answer (counted (log_head h₀.p h₁.q) (merged (named d₀) (named d₁)))
  pub names : (a : ℕ) → named w.bytes a ≡ merged (named d₀) (named d₁) a

-- the merge's head is good
pub log_head_good : {h₀ h₁ : Head} → GoodHead h₀ → GoodHead h₁ → h₀.q ≡ h₁.p → bad_head (log_head h₀.p h₁.q) ≡ false
log_head_good g₀ g₁ e = good_passes (record { kind = omega arith; spare = refl; p = g₀.p; q = g₁.q; grows = omega arith })

module _ (d₀ d₁ : List ℕ) {h₀ h₁ : Head} (check₀ : check d₀ ≡ answer h₀) (check₁ : check d₁ ≡ answer h₁) (heads : Touching h₀ h₁) where
  -- the diff that means two passes the check
  pub merge_passes : check (merge_bytes d₀ d₁ h₀ h₁) ≡ answer (counted (log_head h₀.p h₁.q) (merged (named d₀) (named d₁)))
  merge_passes = reads_back_check _ _
      (log_head_good (good_head (sound check₀).good) (good_head (sound check₁).good) heads.touch)
      (merged_fits (named_fits d₀ check₀) (named_fits d₁ check₁))

  -- it means both
  pub merge_names : (a : ℕ) → named (merge_bytes d₀ d₁ h₀ h₁) a ≡ merged (named d₀) (named d₁) a
  merge_names = reads_back_map _ _
      (log_head_good (good_head (sound check₀).good) (good_head (sound check₁).good) heads.touch)
      (merged_fits (named_fits d₀ check₀) (named_fits d₁ check₁))

  -- so where it is written, the two are merged
  pub merge_written : (w : Wrote ℕ) → w.value ≡ length w.bytes → w.bytes ≡ merge_bytes d₀ d₁ h₀ h₁ → MergeOf d₀ d₁ w
  merge_written w value bytes = record {
    h₀ = h₀;
    h₁ = h₁;
    check₀ = check₀;
    check₁ = check₁;
    heads = heads;
    value = value;
    bytes = bytes;
    passes = rw bytes merge_passes;
    names = λ a. rw bytes (merge_names a);
  }

-- what an answer of a merge says
pub merge_of : {w : Wrote ℕ} (d₀ d₁ : List ℕ) (room : ℕ) → merge d₀ d₁ room ≡ answer w → MergeOf d₀ d₁ w
unfolding merge
merge_of {w} d₀ d₁ room e =
    let c₀ = then_answer (check d₀) _ e in
    let c₁ = then_answer (check d₁) _ c₀.onward in
    let cm = then_answer (merge_heads c₀.first c₁.first) _ c₁.onward in
    let (heads, head) = touching c₀.first c₁.first cm.answered in
    let o = output_answer (written cm.first (merged (named d₀) (named d₁))) room cm.onward in
    merge_written d₀ d₁ c₀.answered c₁.answered heads w (o.value ∙ ap length (sym o.bytes)) (rw head at o.bytes)

-- two diffs that touch are merged, where there is room
pub merges : {w : Wrote ℕ} {d₀ d₁ : List ℕ} (room : ℕ) → MergeOf d₀ d₁ w → length w.bytes ≤ room → merge d₀ d₁ room ≡ answer w
unfolding merge
merges {w} room m fits =
    let o : Output _ room w = record { value = m.value ∙ ap length m.bytes; bytes = m.bytes; fits = rw m.bytes at fits } in
    rw (m.check₀, m.check₁, touching_merges m.heads) (output_passes o)

-- ---- three diffs (the note's b1)

-- Three diffs merged from the left, with rooms that suffice.
pub record FromLeft (d₀ d₁ d₂ : List ℕ) (y : Wrote ℕ) : Type 0 where
  pub inner : Wrote ℕ
  pub room_inner : ℕ
  pub room : ℕ
  pub first : merge d₀ d₁ room_inner ≡ answer inner
  pub then_last : merge inner.bytes d₂ room ≡ answer y

-- Three diffs merged from the right, with rooms that suffice.
pub record FromRight (d₀ d₁ d₂ : List ℕ) (y : Wrote ℕ) : Type 0 where
  pub inner : Wrote ℕ
  pub room_inner : ℕ
  pub room : ℕ
  pub last : merge d₁ d₂ room_inner ≡ answer inner
  pub then_first : merge d₀ inner.bytes room ≡ answer y

-- What each way asks, and gives: three log diffs, each touching the next, and the diff that means all three.
pub record Three (d₀ d₁ d₂ : List ℕ) (y : Wrote ℕ) : Type 0 where
  pub h₀ : Head
  pub h₁ : Head
  pub h₂ : Head
  pub check₀ : check d₀ ≡ answer h₀
  pub check₁ : check d₁ ≡ answer h₁
  pub check₂ : check d₂ ≡ answer h₂
  pub heads₀ : Touching h₀ h₁
  pub heads₁ : Touching h₁ h₂
  pub value : y.value ≡ length y.bytes
  pub bytes : y.bytes ≡ written (log_head h₀.p h₂.q) (merged (merged (named d₀) (named d₁)) (named d₂))

-- a merge of the first two and then the third is of the three
pub three_left : {x y : Wrote ℕ} {d₀ d₁ d₂ : List ℕ} → MergeOf d₀ d₁ x → MergeOf x.bytes d₂ y → Three d₀ d₁ d₂ y
unfolding counted
three_left {x} {y} {d₀} {d₁} {d₂} m n =
    let same = answer_injective (sym n.check₀ ∙ m.passes) in
    let p : n.h₀.p ≡ m.h₀.p = ap (λ (h : Head). h.p) same in
    let q : n.h₀.q ≡ m.h₁.q = ap (λ (h : Head). h.q) same in
    let maps = merged_same (named x.bytes) (named d₂) (merged (named d₀) (named d₁)) (named d₂) in
    record {
      h₀ = m.h₀;
      h₁ = m.h₁;
      h₂ = n.h₁;
      check₀ = m.check₀;
      check₁ = m.check₁;
      check₂ = n.check₁;
      heads₀ = m.heads;
      heads₁ = record { log₀ = m.heads.log₁; log₁ = n.heads.log₁; touch = sym q ∙ n.heads.touch };
      value = n.value;
      bytes = n.bytes ∙ written_same _ _ _ _ refl refl p refl λ a l. maps a (m.names a) refl;
    }

-- so is a merge of the last two and then the first
pub three_right : {z y : Wrote ℕ} {d₀ d₁ d₂ : List ℕ} → MergeOf d₁ d₂ z → MergeOf d₀ z.bytes y → Three d₀ d₁ d₂ y
unfolding counted
three_right {z} {y} {d₀} {d₁} {d₂} m n =
    let same = answer_injective (sym n.check₁ ∙ m.passes) in
    let p : n.h₁.p ≡ m.h₀.p = ap (λ (h : Head). h.p) same in
    let q : n.h₁.q ≡ m.h₁.q = ap (λ (h : Head). h.q) same in
    let maps = merged_same (named d₀) (named z.bytes) (named d₀) (merged (named d₁) (named d₂)) in
    record {
      h₀ = n.h₀;
      h₁ = m.h₀;
      h₂ = m.h₁;
      check₀ = n.check₀;
      check₁ = m.check₀;
      check₂ = m.check₁;
      heads₀ = record { log₀ = n.heads.log₀; log₁ = m.heads.log₀; touch = n.heads.touch ∙ p };
      heads₁ = m.heads;
      value = n.value;
      bytes = n.bytes ∙ written_same _ _ _ _ refl refl refl q λ a l. maps a refl (m.names a) ∙ sym (merged_assoc _ _ _ a);
    }

-- three that touch are merged from the left
pub left_three : {y : Wrote ℕ} {d₀ d₁ d₂ : List ℕ} → Three d₀ d₁ d₂ y → FromLeft d₀ d₁ d₂ y
unfolding counted
left_three {y} {d₀} {d₁} {d₂} t =
    let x = wrote (merge_bytes d₀ d₁ t.h₀ t.h₁) in
    let passes = merge_passes d₀ d₁ t.check₀ t.check₁ t.heads₀ in
    let names = merge_names d₀ d₁ t.check₀ t.check₁ t.heads₀ in
    let maps = merged_same (merged (named d₀) (named d₁)) (named d₂) (named x.bytes) (named d₂) in
    let bytes = t.bytes ∙ written_same _ _ _ _ refl refl refl refl λ a l. maps a (sym (names a)) refl in
    let heads : Touching (counted (log_head t.h₀.p t.h₁.q) (merged (named d₀) (named d₁))) t.h₂ =
    record { log₀ = refl; log₁ = t.heads₁.log₁; touch = t.heads₁.touch } in
    record {
      inner = x;
      room_inner = _;
      room = _;
      first = merges _ (merge_written d₀ d₁ t.check₀ t.check₁ t.heads₀ x refl refl) (le_refl _);
      then_last = merges _ (merge_written x.bytes d₂ passes t.check₂ heads y t.value bytes) (le_refl _);
    }

-- and from the right
pub right_three : {y : Wrote ℕ} {d₀ d₁ d₂ : List ℕ} → Three d₀ d₁ d₂ y → FromRight d₀ d₁ d₂ y
unfolding counted
right_three {y} {d₀} {d₁} {d₂} t =
    let z = wrote (merge_bytes d₁ d₂ t.h₁ t.h₂) in
    let passes = merge_passes d₁ d₂ t.check₁ t.check₂ t.heads₁ in
    let names = merge_names d₁ d₂ t.check₁ t.check₂ t.heads₁ in
    let maps = merged_same (named d₀) (merged (named d₁) (named d₂)) (named d₀) (named z.bytes) in
    let bytes = t.bytes ∙ written_same _ _ _ _ refl refl refl refl λ a l. merged_assoc _ _ _ a ∙ maps a refl (sym (names a)) in
    let heads : Touching t.h₀ (counted (log_head t.h₁.p t.h₂.q) (merged (named d₁) (named d₂))) =
    record { log₀ = t.heads₀.log₀; log₁ = refl; touch = t.heads₀.touch } in
    record {
      inner = z;
      room_inner = _;
      room = _;
      last = merges _ (merge_written d₁ d₂ t.check₁ t.check₂ t.heads₁ z refl refl) (le_refl _);
      then_first = merges _ (merge_written d₀ z.bytes t.check₀ passes heads y t.value bytes) (le_refl _);
    }

-- merging is associative: what is accepted from the left is accepted from the right, with the same result, and back
pub left_right : (y : Wrote ℕ) (d₀ d₁ d₂ : List ℕ) → FromLeft d₀ d₁ d₂ y ↔ FromRight d₀ d₁ d₂ y
left_right y d₀ d₁ d₂ = (
  λ l. right_three (three_left (merge_of d₀ d₁ _ l.first) (merge_of _ d₂ _ l.then_last)),
  λ r. left_three (three_right (merge_of d₁ d₂ _ r.last) (merge_of d₀ _ _ r.then_first)),
)

-- three diffs have one merge
pub three_one : {y y' : Wrote ℕ} {d₀ d₁ d₂ : List ℕ} → Three d₀ d₁ d₂ y → Three d₀ d₁ d₂ y' → y.bytes ≡ y'.bytes
three_one s t =
    let first : s.h₀ ≡ t.h₀ = answer_injective (sym s.check₀ ∙ t.check₀) in
    let last : s.h₂ ≡ t.h₂ = answer_injective (sym s.check₂ ∙ t.check₂) in
    s.bytes ∙ rw (first, last) (sym t.bytes)

-- merging is associative: either way gives the same bytes, whatever rooms suffice
pub merge_assoc : {x y z y' : Wrote ℕ} (d₀ d₁ d₂ : List ℕ) (r₀ r₁ r₂ r₃ : ℕ)
    → merge d₀ d₁ r₀ ≡ answer x → merge x.bytes d₂ r₁ ≡ answer y
    → merge d₁ d₂ r₂ ≡ answer z → merge d₀ z.bytes r₃ ≡ answer y'
    → y.bytes ≡ y'.bytes
merge_assoc d₀ d₁ d₂ r₀ r₁ r₂ r₃ x y z y' =
    three_one (three_left (merge_of d₀ d₁ r₀ x) (merge_of _ d₂ r₁ y)) (three_right (merge_of d₁ d₂ r₂ z) (merge_of d₀ _ r₃ y'))

-- b2: applying a merge is applying the first and then the second
pub merge_applies : {w : Wrote ℕ} (d₀ d₁ : List ℕ) (room : ℕ) (img : List ℕ) → merge d₀ d₁ room ≡ answer w
    → overlay (overlay img (named d₀)) (named d₁) ≡ overlay img (named w.bytes)
merge_applies d₀ d₁ room img e =
    overlay_overlay img (named d₀) (named d₁)
    ∙ sym (overlay_same img _ (merged (named d₀) (named d₁)) (merge_of d₀ d₁ room e).names)
