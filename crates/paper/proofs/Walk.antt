-- The first list step by step: it is empty at the target, and elsewhere goes to the lowest accepted place from which there is a plan. So from every state there is a first list or none, since an accepted entry leaves fewer to come.
use Prim.Native.Nat.{ℕ, zero, suc, ◌+◌, ◌≤◌, ◌<◌}
use mathlib.Core.Path.{◌≡◌, refl, sym, ◌∙◌}
use mathlib.Core.List.{List, [], ◌∷◌}
use mathlib.Core.Bool.{Bool, true, false, ◌&&◌, false≢true}
use native.Mathlib.Omega.{arith}
use native.Mathlib.Decide.{ℕ_discrete, dec_lt}
use Rattle.paper.specs.Answer.{Said, answer, refuse}
use Rattle.paper.specs.State.{State}
use Rattle.paper.specs.Volume.{done_state}
use Rattle.paper.specs.Plan.{Shelf, plan_checks, is_plan, before, First, PlanSays, refused, listed, no_chain, NoPlan, at_target}
use Rattle.paper.proofs.Order.{none_before_empty, higher_is_not_before, same_place_before}
use Rattle.paper.proofs.Step.{accepts, next, plan_nil, plan_cons, Opens, plan_opens, plan_onto, accepts_rises}
use Rattle.paper.proofs.Plans.{left_above, step_leaves_fewer}

-- ---- one step of the first list

module _ (shelf : Shelf) (target : ℕ) where
  -- at the target the first list is empty
  pub first_here : (s : State) → at_target s target ≡ true → First shelf s target []
  first_here s e = record {
    plan = plan_nil shelf s target ∙ e;
    first = λ others p. none_before_empty others;
  }

  -- elsewhere the first list goes to the lowest accepted place that leads on, and from there by the first list
  pub first_step : (s : State) (i : ℕ) {l : List ℕ} → at_target s target ≡ false → accepts shelf s i ≡ true
      → ((n : ℕ) → n < i → accepts shelf s n ≡ true → NoPlan shelf (next shelf s n) target) → First shelf (next shelf s i) target l
      → First shelf s target (i ∷ l)
  first_step s i {l} away a lower f = record {
    plan = plan_onto shelf s target i l a f.plan;
    first = not_before;
  }
    where
      go : (n : ℕ) (others : List ℕ) → Opens shelf s target n others → Dec (n < i) → Dec (i < n) → before (n ∷ others) (i ∷ l) ≡ false
      go n others o (yes h) d = absurd (false≢true (sym (lower n h o.accept others) ∙ o.rest))
      go n others o (no h) (yes k) = higher_is_not_before n i others l k
      go n others o (no h) (no k) =
          let e : n ≡ i = omega arith in
          rw (e, same_place_before) (f.first others (rw e at o.rest))

      not_before : (others : List ℕ) → is_plan shelf s target others ≡ true → before others (i ∷ l) ≡ false
      not_before [] p = absurd (false≢true (sym away ∙ sym (plan_nil shelf s target) ∙ p))
      not_before (n ∷ others) p = go n others (plan_opens shelf s target n others p) (dec_lt n i) (dec_lt i n)

  -- and where no accepted place leads on, there is none
  pub no_step : (s : State) → at_target s target ≡ false → ((n : ℕ) → accepts shelf s n ≡ true → NoPlan shelf (next shelf s n) target) → NoPlan shelf s target
  no_step s away dead [] = plan_nil shelf s target ∙ away
  no_step s away dead (n ∷ l) = rw plan_cons (go (accepts shelf s n) refl)
    where
      go : (a : Bool) → accepts shelf s n ≡ a → (a && is_plan shelf (next shelf s n) target l) ≡ false
      go true a = dead n a l
      go false a = refl

-- ---- there is a first list, or no list at all

-- a first list, or no list
pub data Planned (shelf : Shelf) (s : State) (target : ℕ) : Type 0 where
  has_first : {l : List ℕ} → First shelf s target l → Planned shelf s target
  has_none : NoPlan shelf s target → Planned shelf s target

-- place i leads on from s, or it does not
data Way (shelf : Shelf) (s : State) (target i : ℕ) : Type 0 where
  on : {l : List ℕ} → accepts shelf s i ≡ true → First shelf (next shelf s i) target l → Way shelf s target i
  shut : (accepts shelf s i ≡ true → NoPlan shelf (next shelf s i) target) → Way shelf s target i

module _ (shelf : Shelf) (target : ℕ) where
  way : (s : State) (i : ℕ) → (accepts shelf s i ≡ true → Planned shelf (next shelf s i) target) → Way shelf s target i
  way s i planned = go (accepts shelf s i) refl
    where
      by : accepts shelf s i ≡ true → Planned shelf (next shelf s i) target → Way shelf s target i
      by a (has_first f) = on a f
      by a (has_none d) = shut (λ _. d)

      go : (a : Bool) → accepts shelf s i ≡ a → Way shelf s target i
      go true a = by a (planned a)
      go false a = shut (λ b. absurd (false≢true (sym a ∙ b)))

  -- the lowest place that leads on, among k places from place i on, if no place below i does
  lowest_way : (s : State) → at_target s target ≡ false → ((n : ℕ) → Way shelf s target n) → (k i : ℕ) → i + k ≡ shelf.count
      → ((n : ℕ) → n < i → accepts shelf s n ≡ true → NoPlan shelf (next shelf s n) target) → Planned shelf s target
  lowest_way s away ways zero i c lower =
      has_none (no_step shelf target s away (λ n a. lower n (omega (arith, (accepts_rises shelf s n a).below)) a))
  lowest_way s away ways (suc k) i c lower = go (ways i) (lowest_way s away ways k (suc i) (omega arith))
    where
      Lower : ℕ → Type 0
      Lower j = (n : ℕ) → n < j → accepts shelf s n ≡ true → NoPlan shelf (next shelf s n) target

      go : Way shelf s target i → (Lower (suc i) → Planned shelf s target) → Planned shelf s target
      go (on a f) rest = has_first (first_step shelf target s i away a lower f)
      go (shut d) rest = rest λ n h. elim (ℕ_discrete n i) [ yes e ↦ rw e d | no e ↦ lower n (omega arith) ]

  -- if that is so after each accepted place, it is so here
  planned_here : (s : State) → ((n : ℕ) → accepts shelf s n ≡ true → Planned shelf (next shelf s n) target) → Planned shelf s target
  planned_here s planned = go (at_target s target) refl
    where
      go : (a : Bool) → at_target s target ≡ a → Planned shelf s target
      go true e = has_first (first_here shelf target s e)
      go false e = lowest_way s e (λ n. way s n (planned n)) shelf.count 0 (omega arith) (λ n h. absurd (omega arith))

  planned_within : (n : ℕ) (s : State) → left_above shelf s.b ≤ n → Planned shelf s target
  unfolding done_state
  planned_within zero s h = planned_here s λ i a. absurd (omega (arith, step_leaves_fewer shelf s i (accepts_rises shelf s i a)))
  planned_within (suc n) s h =
      planned_here s λ i a. planned_within n (next shelf s i) (omega (arith, step_leaves_fewer shelf s i (accepts_rises shelf s i a)))

  -- from every state there is a first list, or none
  pub plan_exists_or_not : (s : State) → Planned shelf s target
  plan_exists_or_not s = planned_within (left_above shelf s.b) s (omega arith)

-- what a plan says, whatever is asked
pub record Outcome (shelf : Shelf) (state : List ℕ) (target : ℕ) : Type 0 where
  pub said : Said (List ℕ)
  pub says : PlanSays shelf state target said

-- there is always an outcome
pub plan_always_says : (shelf : Shelf) (state : List ℕ) (target : ℕ) → Outcome shelf state target
plan_always_says shelf state target = go (plan_checks shelf state target) refl
  where
    by : {s : State} → plan_checks shelf state target ≡ answer s → Planned shelf s target → Outcome shelf state target
    by c (has_first f) = record { said = _; says = listed c f }
    by c (has_none d) = record { said = _; says = no_chain c d }

    go : (a : Said State) → plan_checks shelf state target ≡ a → Outcome shelf state target
    go (answer s) c = by c (plan_exists_or_not shelf target s)
    go (refuse k) c = record { said = refuse k; says = refused c }
