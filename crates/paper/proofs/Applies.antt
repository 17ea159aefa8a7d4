-- What an accepted apply says of its diff, its state and its image, and that such a diff, state and image are accepted.
use Prim.Native.Nat.{ℕ}
use mathlib.Core.Path.{◌≡◌, sym, ap}
use mathlib.Core.List.{List}
use mathlib.Core.Bool.{false}
use Rattle.paper.specs.Answer.{answer, Wrote, Outside}
use Rattle.paper.specs.Image.{check_image, overlay}
use Rattle.paper.specs.Diff.{Head, check, named, names_outside}
use Rattle.paper.specs.State.{State, read_state}
use Rattle.paper.specs.Volume.{Further, decide, apply}
use Rattle.paper.proofs.Answers.{answer_injective, guard_answer, then_answer}
use Rattle.paper.proofs.Check.{good_head, sound}
use Rattle.paper.proofs.States.{GoodState}
use Rattle.paper.proofs.Saved.{read_good}
use Rattle.paper.proofs.Decisions.{Accepted, further, decided, accepts, while_good, done_good}

-- every check of an apply passed
pub record Applies (d state img : List ℕ) : Type 0 where
  pub head : Head
  pub from : State
  pub blocks : ℕ
  pub diff : check d ≡ answer head
  pub reads : read_state state ≡ answer from
  pub image : check_image img ≡ answer blocks
  pub inside : names_outside d 0 head.n blocks ≡ false
  pub accepted : Accepted head from

pub record Decides (d state img : List ℕ) (f : Further) : Type 0 where
  pub applies : Applies d state img
  pub gives : f ≡ further applies.head applies.from

pub decides : {f : Further} (d state img : List ℕ) → decide d state img ≡ answer f → Decides d state img f
unfolding decide
decides d state img e =
    let c₁ = then_answer (check d) _ e in
    let c₂ = then_answer (read_state state) _ c₁.onward in
    let c₃ = then_answer (check_image img) _ c₂.onward in
    let c₄ = guard_answer (names_outside d 0 c₁.first.n c₃.first) Outside _ c₃.onward in
    let c₅ = decided c₁.first c₂.first _ c₄.onward in
    record {
      applies = record {
        head = c₁.first;
        from = c₂.first;
        blocks = c₃.first;
        diff = c₁.answered;
        reads = c₂.answered;
        image = c₃.answered;
        inside = c₄.clear;
        accepted = c₅.accepted;
      };
      gives = c₅.gives;
    }

pub decide_accepts : (d state img : List ℕ) (a : Applies d state img) → decide d state img ≡ answer (further a.head a.from)
unfolding decide
decide_accepts d state img a = rw (a.diff, a.reads, a.image, a.inside) (accepts a.head a.from a.accepted)

-- both states of an accepted apply are states, so that their records are read back (`saved_reads`)
pub record GoodFurther (f : Further) : Type 0 where
  pub while : GoodState f.while
  pub done : GoodState f.done

pub further_good : {f : Further} (d state img : List ℕ) → decide d state img ≡ answer f → GoodFurther f
further_good d state img e =
    let c = decides d state img e in
    let a = c.applies in
    let top = (good_head (sound a.diff).good).q in
    let from = read_good state a.reads in
    rw c.gives (record { while = while_good a.head a.from top from a.accepted; done = done_good a.head a.from top from })

-- doing is deciding and writing every named block
pub record Does (d state img : List ℕ) (w : Wrote State) : Type 0 where
  pub both : Further
  pub decides : decide d state img ≡ answer both
  pub value : w.value ≡ both.done
  pub bytes : w.bytes ≡ overlay img (named d)

pub does : {w : Wrote State} (d state img : List ℕ) → apply d state img ≡ answer w → Does d state img w
unfolding apply
does d state img e =
    let c = then_answer (decide d state img) _ e in
    let w≡ = answer_injective c.onward in
    record { both = c.first; decides = c.answered; value = ap (λ v. v.value) (sym w≡); bytes = ap (λ v. v.bytes) (sym w≡) }
