-- One step of a plan: a list that opens with a place is a plan exactly if the place is accepted and the rest is a plan from there, and b rises with every step.
use Prim.Native.Nat.{ℕ, ◌≤◌, ◌<◌, max}
use mathlib.Core.Path.{◌≡◌, refl, sym, ap, ◌∙◌}
use mathlib.Core.List.{List, [], ◌∷◌}
use mathlib.Core.Bool.{Bool, true, false, not, ◌&&◌, So, false≢true, and-eq-true_iff}
use lib.Dec.{leb}
use native.Mathlib.Omega.{arith}
use borrow.Author.Tests.{leb-false, lt-leb, not-true, eqb-true}
use Rattle.paper.specs.Answer.{Said, answer, refuse, guard, ◌then◌, NoChain}
use Rattle.paper.specs.Diff.{Head}
use Rattle.paper.specs.State.{State, settled, is_clean}
use Rattle.paper.specs.Volume.{Further, done_state, decide_on}
use Rattle.paper.specs.Plan.{Shelf, entry, follow, at_target, ends_at, is_plan}
use Rattle.paper.proofs.Decisions.{decided}

-- ---- an accepted apply

-- b rises strictly, and Done is settled at q
pub record Rise (h : Head) (s : State) (f : Further) : Type 0 where
  pub rises : s.b < f.done.b
  pub settles : f.done ≡ settled h.q (max h.q s.e)

-- so it is with every accepted apply
pub rising : (h : Head) (s : State) {f : Further} → decide_on h s ≡ answer f → Rise h s f
unfolding done_state
rising h s {f} e =
    let d = decided h s f e in
    let g : f.done ≡ done_state h s = ap (λ v. v.done) d.gives in
    record { rises = rw g d.accepted.ahead; settles = g }

-- ---- a place that is accepted

-- whether an apply was accepted
unfoldable pub accepted : Said Further → Bool
accepted (answer f) = true
accepted (refuse k) = false

-- place i is below the count, and its entry is accepted at s
unfoldable pub accepts : Shelf → State → ℕ → Bool
accepts shelf s i = not (leb shelf.count i) && accepted (decide_on (entry shelf i) s)

-- the state after the entry at place i, once it is accepted
abbrev pub next : Shelf → State → ℕ → State
next shelf s i = done_state (entry shelf i) s

-- it is Done
pub done_is_next : (shelf : Shelf) (s : State) (i : ℕ) {f : Further} → decide_on (entry shelf i) s ≡ answer f → f.done ≡ next shelf s i
unfolding done_state
done_is_next shelf s i d = (rising (entry shelf i) s d).settles

-- below the count the entry decides
pub accepts_below : (shelf : Shelf) (s : State) (i : ℕ) → i < shelf.count → accepts shelf s i ≡ accepted (decide_on (entry shelf i) s)
unfolding accepts
accepts_below shelf s i h = rw (lt-leb shelf.count i h)

-- what is known of a place that is accepted: it is below the count, and b rises to its q
pub record Accepted (shelf : Shelf) (s : State) (i : ℕ) : Type 0 where
  pub below : i < shelf.count
  pub rises : s.b < (entry shelf i).q

-- an accepted place is so
pub accepts_rises : (shelf : Shelf) (s : State) (i : ℕ) → accepts shelf s i ≡ true → Accepted shelf s i
unfolding accepts accepted
accepts_rises shelf s i e =
    go (decide_on (entry shelf i) s) refl ((and-eq-true_iff (not (leb shelf.count i)) _).0 e)
  where
    go : (a : Said Further) → decide_on (entry shelf i) s ≡ a → So (not (leb shelf.count i)) × So (accepted a) → Accepted shelf s i
    go (answer f) d p =
        let r = rising (entry shelf i) s d in
        record { below = leb-false shelf.count i (not-true _ p.0); rises = rw r.settles at r.rises }
    go (refuse k) d p = absurd (false≢true p.1)

-- ---- plans

-- some list is a plan from s to the target
pub record SomePlan (shelf : Shelf) (s : State) (target : ℕ) : Type 0 where
  pub places : List ℕ
  pub plan : is_plan shelf s target places ≡ true

-- b is then the target
pub at_target_b : (s : State) (target : ℕ) → at_target s target ≡ true → s.b ≡ target
unfolding at_target
at_target_b s target e = eqb-true s.b target ((and-eq-true_iff (is_clean s) _).0 e).1

-- the empty list is a plan exactly there
pub plan_nil : (shelf : Shelf) (s : State) (target : ℕ) → is_plan shelf s target [] ≡ at_target s target
unfolding is_plan follow at_target
plan_nil shelf s target = refl

-- a list that opens with place i is a plan exactly if i is accepted and the rest is a plan from there
pub plan_cons : (shelf : Shelf) (s : State) (target i : ℕ) (l : List ℕ)
    → is_plan shelf s target (i ∷ l) ≡ (accepts shelf s i && is_plan shelf (next shelf s i) target l)
unfolding is_plan follow accepts accepted
plan_cons shelf s target i l = go (leb shelf.count i) (decide_on (entry shelf i) s) refl
  where
    go : (a : Bool) (r : Said Further) → decide_on (entry shelf i) s ≡ r
        → ends_at (guard a NoChain (r then λ f. follow shelf l f.done)) target
        ≡ (not a && accepted r && ends_at (follow shelf l (next shelf s i)) target)
    go true r d = refl
    go false (answer f) d = rw (done_is_next shelf s i d)
    go false (refuse k) d = refl

-- such a plan taken apart
pub record Opens (shelf : Shelf) (s : State) (target i : ℕ) (l : List ℕ) : Type 0 where
  pub accept : accepts shelf s i ≡ true
  pub step : Accepted shelf s i
  pub rest : is_plan shelf (next shelf s i) target l ≡ true

-- every such plan comes apart
pub plan_opens : (shelf : Shelf) (s : State) (target i : ℕ) (l : List ℕ) → is_plan shelf s target (i ∷ l) ≡ true → Opens shelf s target i l
plan_opens shelf s target i l e =
    let p = (and-eq-true_iff (accepts shelf s i) _).0 (sym (plan_cons shelf s target i l) ∙ e) in
    record { accept = p.0; step = accepts_rises shelf s i p.0; rest = p.1 }

-- and is put together
pub plan_onto : (shelf : Shelf) (s : State) (target i : ℕ) (l : List ℕ) → accepts shelf s i ≡ true → is_plan shelf (next shelf s i) target l ≡ true
    → is_plan shelf s target (i ∷ l) ≡ true
plan_onto shelf s target i l a p = rw (plan_cons, a) p

-- a plan never goes down
pub plan_rises : (shelf : Shelf) (s : State) (target : ℕ) (l : List ℕ) → is_plan shelf s target l ≡ true → s.b ≤ target
unfolding done_state
plan_rises shelf s target [] e = omega (arith, at_target_b s target (sym (plan_nil shelf s target) ∙ e))
plan_rises shelf s target (i ∷ l) e =
    let o = plan_opens shelf s target i l e in
    omega (arith, plan_rises shelf (next shelf s i) target l o.rest)
