-- How a planner finds the first list: it marks the places from which the target can be reached, until no further place would be marked, and then always goes on to the lowest accepted and marked place. That is right since after a step the state depends only on the place and on the e of the start.
use Prim.Native.Nat.{ℕ, zero, suc, ◌≤◌, ◌<◌, max}
use mathlib.Core.Path.{◌≡◌, refl, sym, ◌∙◌}
use mathlib.Core.Logic.{◌↔◌, ◌≢◌}
use mathlib.Core.Option.{Option, none, some}
use mathlib.Core.List.{List, [], ◌∷◌}
use mathlib.Core.Bool.{Bool, true, false, ◌&&◌, ◌||◌, false≢true, not-eq-not, or-true, and-eq-true_iff}
use lib.ListN.{length, get_or, set, replicate}
use lib.Seq.{get_or-set_same, get_or-set_other}
use native.Mathlib.Omega.{arith}
use native.Mathlib.Decide.{ℕ_discrete}
use Rattle.paper.specs.State.{State, settled}
use Rattle.paper.specs.Volume.{done_state}
use Rattle.paper.specs.Plan.{Shelf, entry, is_plan, First, NoPlan, at_target}
use Rattle.paper.proofs.Count.{how_many, how_many_more}
use Rattle.paper.proofs.Lowest.{lowest, is_some, found_is_lowest, none_found, passing_is_found}
use Rattle.paper.proofs.Step.{SomePlan, accepts, next, plan_nil, plan_opens, plan_onto, accepts_rises}
use Rattle.paper.proofs.Walk.{first_step, no_step}

-- ---- where a step leads

-- the state after the entry at place j, from a start with this e
unfoldable pub after : Shelf → ℕ → ℕ → State
after shelf e j = settled (entry shelf j).q (max (entry shelf j).q e)

-- a state on the way from a start with this e
pub record OnWay (e : ℕ) (s : State) : Type 0 where
  pub low : e ≤ s.e
  pub high : s.e ≤ max s.b e

-- the start is
pub start_on_way : (s : State) → OnWay s.e s
start_on_way s = omega arith

-- and so is the state after any place
pub after_on_way : (shelf : Shelf) (e j : ℕ) → OnWay e (after shelf e j)
unfolding after
after_on_way shelf e j = omega arith

-- on the way, the next state is the one after the place
pub next_is_after : (shelf : Shelf) {e : ℕ} {s : State} (i : ℕ) → OnWay e s → s.b < (entry shelf i).q → next shelf s i ≡ after shelf e i
unfolding after done_state
next_is_after shelf {e} {s} i w r = let m : max (entry shelf i).q s.e ≡ max (entry shelf i).q e = omega arith in rw m

-- ---- marks

-- place n is accepted at s, and marked
abbrev pub leads : Shelf → State → (ℕ → Bool) → ℕ → Bool
leads shelf s m n = accepts shelf s n && m n

-- the lowest such place
abbrev pub lead : Shelf → State → (ℕ → Bool) → Option ℕ
lead shelf s m = lowest (leads shelf s m) 0 shelf.count

-- what is known of a place that is that
pub record LeadsTo (shelf : Shelf) (s : State) (m : ℕ → Bool) (i : ℕ) : Type 0 where
  pub below : i < shelf.count
  pub accept : accepts shelf s i ≡ true
  pub mark : m i ≡ true
  pub none_lower : (n : ℕ) → n < i → leads shelf s m n ≡ false

-- the place that is found
pub lead_leads_to : (shelf : Shelf) (s : State) (m : ℕ → Bool) (i : ℕ) → lead shelf s m ≡ some i → LeadsTo shelf s m i
lead_leads_to shelf s m i e =
    let f = found_is_lowest (leads shelf s m) 0 shelf.count i e in
    let p = (and-eq-true_iff (accepts shelf s i) (m i)).0 f.passes in
    record { below = omega arith; accept = p.0; mark = p.1; none_lower = λ n. f.none_lower n (omega arith) }

-- where none is found
pub no_lead : (shelf : Shelf) (s : State) (m : ℕ → Bool) → lead shelf s m ≡ none → (n : ℕ) → n < shelf.count → leads shelf s m n ≡ false
no_lead shelf s m e n h = none_found (leads shelf s m) 0 shelf.count e n (omega arith) (omega arith)

-- a sweep would mark place j: the state after it is clean at the target, or leads to a marked place
unfoldable pub would_mark : Shelf → ℕ → ℕ → (ℕ → Bool) → ℕ → Bool
would_mark shelf e target m j = at_target (after shelf e j) target || is_some (lead shelf (after shelf e j) m)

-- from each marked place there is a plan
pub record Sound (shelf : Shelf) (e target : ℕ) (m : ℕ → Bool) : Type 0 where
  pub reaches : (j : ℕ) → j < shelf.count → m j ≡ true → SomePlan shelf (after shelf e j) target

-- no sweep would mark another place
pub record Closed (shelf : Shelf) (e target : ℕ) (m : ℕ → Bool) : Type 0 where
  pub swept : (j : ℕ) → j < shelf.count → would_mark shelf e target m j ≡ true → m j ≡ true

module _ (shelf : Shelf) (e target : ℕ) where
  -- no marks at all are sound
  pub no_marks_sound : (m : ℕ → Bool) → ((j : ℕ) → m j ≡ false) → Sound shelf e target m
  no_marks_sound m empty = record { reaches = λ j h t. absurd (false≢true (sym (empty j) ∙ t)) }

  -- from a place that is accepted and marked there is a plan
  pub lead_has_plan : (m : ℕ → Bool) (s : State) (i : ℕ) → Sound shelf e target m → OnWay e s → LeadsTo shelf s m i
      → SomePlan shelf (next shelf s i) target
  lead_has_plan m s i sound w g =
      rw (next_is_after shelf i w (accepts_rises shelf s i g.accept).rises) (sound.reaches i g.below g.mark)

  -- and so there is one from a place that a sweep would mark
  pub would_mark_has_plan : (m : ℕ → Bool) (j : ℕ) → Sound shelf e target m → would_mark shelf e target m j ≡ true
      → SomePlan shelf (after shelf e j) target
  unfolding would_mark
  would_mark_has_plan m j sound t = go (at_target s target) (lead shelf s m) refl refl t
    where
      s : State
      s = after shelf e j

      go : (a : Bool) (o : Option ℕ) → at_target s target ≡ a → lead shelf s m ≡ o → (a || is_some o) ≡ true → SomePlan shelf s target
      go true o a l t = record { places = []; plan = plan_nil shelf s target ∙ a }
      go false none a l t = absurd (false≢true t)
      go false (some i) a l t =
          let g = lead_leads_to shelf s m i l in
          let r = lead_has_plan m s i sound (after_on_way shelf e j) g in
          record { places = i ∷ r.places; plan = plan_onto shelf s target i r.places g.accept r.plan }

  -- so marks stay sound when it is marked
  pub marking_stays_sound : (m m' : ℕ → Bool) (j : ℕ) → Sound shelf e target m → would_mark shelf e target m j ≡ true
      → ((i : ℕ) → i ≢ j → m' i ≡ true → m i ≡ true) → Sound shelf e target m'
  marking_stays_sound m m' j sound t others = record { reaches = λ i h u. go i h u (ℕ_discrete i j) }
    where
      go : (i : ℕ) → i < shelf.count → m' i ≡ true → Dec (i ≡ j) → SomePlan shelf (after shelf e i) target
      go i h u (yes q) = rw q (would_mark_has_plan m j sound t)
      go i h u (no q) = sound.reaches i h (others i q u)

  -- closed marks are on each place with a plan
  plan_is_marked : (m : ℕ → Bool) → Closed shelf e target m → (l : List ℕ) (j : ℕ) → j < shelf.count
      → is_plan shelf (after shelf e j) target l ≡ true → m j ≡ true
  unfolding would_mark
  plan_is_marked m closed [] j h p = closed.swept j h (rw (← plan_nil shelf (after shelf e j) target, p))
  plan_is_marked m closed (i ∷ l) j h p =
      let o = plan_opens shelf (after shelf e j) target i l p in
      let q = plan_is_marked m closed l i o.step.below (rw (next_is_after shelf i (after_on_way shelf e j) o.step.rises) at o.rest) in
      let f = passing_is_found (leads shelf (after shelf e j) m) 0 shelf.count i (omega arith) (omega arith) (rw o.accept q) in
      closed.swept j h (rw (f, or-true))

  -- sound and closed marks decide from where the target can be reached
  pub marks_decide : (m : ℕ → Bool) → Sound shelf e target m → Closed shelf e target m → (j : ℕ) → j < shelf.count
      → (m j ≡ true) ↔ SomePlan shelf (after shelf e j) target
  marks_decide m sound closed j h = (sound.reaches j h, λ r. plan_is_marked m closed r.places j h r.plan)

-- ---- the walk

module _ (shelf : Shelf) (e target : ℕ) (m : ℕ → Bool) (closed : Closed shelf e target m) where
  -- from an accepted place that is not marked there is no plan
  unmarked_has_none : (s : State) (n : ℕ) → OnWay e s → accepts shelf s n ≡ true → leads shelf s m n ≡ false → NoPlan shelf (next shelf s n) target
  unmarked_has_none s n w a u l = (not-eq-not {b = false}).0 λ p.
      let r = accepts_rises shelf s n a in
      let q = plan_is_marked shelf e target m closed l n r.below (rw (next_is_after shelf n w r.rises) at p) in
      false≢true (sym (rw a at u) ∙ q)

  -- elsewhere than at the target the first list goes to the lowest accepted and marked place
  pub walk_on : (s : State) (i : ℕ) {l : List ℕ} → OnWay e s → at_target s target ≡ false → LeadsTo shelf s m i
      → First shelf (next shelf s i) target l → First shelf s target (i ∷ l)
  walk_on s i w away g = first_step shelf target s i away g.accept (λ n h a. unmarked_has_none s n w a (g.none_lower n h))

  -- where no place is accepted and marked there is no plan
  pub walk_none : (s : State) → OnWay e s → at_target s target ≡ false
      → ((n : ℕ) → n < shelf.count → leads shelf s m n ≡ false) → NoPlan shelf s target
  walk_none s w away f = no_step shelf target s away (λ n a. unmarked_has_none s n w a (f n (accepts_rises shelf s n a).below))

-- ---- marks that are kept in a list

-- place i is marked; past the list's end none is
abbrev pub marked : List Bool → ℕ → Bool
marked marks i = get_or marks i false

-- at first nothing is marked
pub none_marked : (n i : ℕ) → marked (replicate n false) i ≡ false
none_marked zero i = refl
none_marked (suc n) zero = refl
none_marked (suc n) (suc i) = none_marked n i

module _ (marks : List Bool) (j : ℕ) where
  -- marking what a sweep would mark stays sound
  pub set_stays_sound : (shelf : Shelf) (e target : ℕ) → Sound shelf e target (marked marks) → would_mark shelf e target (marked marks) j ≡ true
      → Sound shelf e target (marked (set marks j true))
  set_stays_sound shelf e target sound t =
      marking_stays_sound shelf e target (marked marks) (marked (set marks j true)) j sound t
      (λ i q u. sym (get_or-set_other marks j i true false q) ∙ u)

  -- and a place that was not marked raises the number of marked places
  pub set_raises : (n : ℕ) → j < n → j < length marks → marked marks j ≡ false → how_many (marked marks) n < how_many (marked (set marks j true)) n
  set_raises n h k u = how_many_more (marked marks) (marked (set marks j true)) weaker n j h u (get_or-set_same marks j true false k)
    where
      weaker : (i : ℕ) → marked marks i ≡ true → marked (set marks j true) i ≡ true
      weaker i t = elim (ℕ_discrete i j) [
        | yes e ↦ rw e (get_or-set_same marks j true false k)
        | no e ↦ get_or-set_other marks j i true false e ∙ t
      ]
