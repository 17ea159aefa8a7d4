-- What holds in a planner's two loops. A sweep keeps its marks sound, and either marks another place or shows that none is left to mark; a walk has come by the first places of the first list, whatever the rest of it is.
use Prim.Native.Nat.{ℕ, ◌-◌, ◌≤◌, ◌<◌}
use mathlib.Core.Path.{◌≡◌, refl, sym, ◌∙◌}
use mathlib.Core.Option.{none, some}
use mathlib.Core.List.{List, [], ◌∷◌, ◌++◌, append-nil}
use mathlib.Core.Bool.{Bool, true, false, false≢true, true≢false}
use lib.ListN.{length, set, length-set, length-append}
use lib.Seq.{append_snoc}
use native.Mathlib.Omega.{arith}
use native.Mathlib.Decide.{ℕ_discrete}
use Rattle.paper.specs.State.{State}
use Rattle.paper.specs.Plan.{Shelf, First, NoPlan, at_target}
use Rattle.paper.proofs.Count.{how_many, how_many_bounded}
use Rattle.paper.proofs.Step.{next, accepts_rises}
use Rattle.paper.proofs.Plans.{plan_length}
use Rattle.paper.proofs.Walk.{first_here, Planned, has_first, has_none, plan_exists_or_not}
use Rattle.paper.proofs.Marks.{OnWay, start_on_way, after_on_way, next_is_after, lead, LeadsTo, lead_leads_to, no_lead, lead_has_plan, would_mark, Sound, Closed, walk_on, walk_none, marked, set_stays_sound, set_raises}

-- ---- a sweep

-- a sweep that began with the marks `old` has looked at the places from j on
pub record Swept (shelf : Shelf) (e target : ℕ) (old marks : List Bool) (changed : Bool) (j : ℕ) : Type 0 where
  pub within : j ≤ shelf.count
  pub size : length marks ≡ length old
  pub sound : Sound shelf e target (marked marks)
  pub no_fewer : how_many (marked old) shelf.count ≤ how_many (marked marks) shelf.count
  pub more : changed ≡ true → how_many (marked old) shelf.count < how_many (marked marks) shelf.count
  pub quiet : changed ≡ false → (i : ℕ) → j ≤ i → i < shelf.count → would_mark shelf e target (marked marks) i ≡ true → marked marks i ≡ true

module _ {shelf : Shelf} {e target : ℕ} where
  -- it begins with the last place
  pub sweep_begins : {marks : List Bool} → Sound shelf e target (marked marks) → Swept shelf e target marks marks false shelf.count
  sweep_begins sound = record {
    within = omega arith;
    size = refl;
    sound = sound;
    no_fewer = omega arith;
    more = λ f. absurd (false≢true f);
    quiet = λ _ i l h. absurd (omega arith);
  }

  module _ {old marks : List Bool} {changed : Bool} {j : ℕ} (so_far : Swept shelf e target old marks changed j) (left : 0 < j) where
    -- it marks the next place down
    pub sweep_marks : j - 1 < length marks → marked marks (j - 1) ≡ false → would_mark shelf e target (marked marks) (j - 1) ≡ true
        → Swept shelf e target old (set marks (j - 1) true) true (j - 1)
    sweep_marks k u t =
        let r = set_raises marks (j - 1) shelf.count (omega (arith, so_far.within)) k u in
        record {
          within = omega (arith, so_far.within);
          size = length-set marks (j - 1) true ∙ so_far.size;
          sound = set_stays_sound marks (j - 1) shelf e target so_far.sound t;
          no_fewer = omega (arith, so_far.no_fewer);
          more = λ _. omega (arith, so_far.no_fewer);
          quiet = λ f. absurd (true≢false f);
        }

    sweep_passes : (would_mark shelf e target (marked marks) (j - 1) ≡ true → marked marks (j - 1) ≡ true)
        → Swept shelf e target old marks changed (j - 1)
    sweep_passes pass = record {
      within = omega (arith, so_far.within);
      size = so_far.size;
      sound = so_far.sound;
      no_fewer = so_far.no_fewer;
      more = so_far.more;
      quiet = λ f i l h. elim (ℕ_discrete i (j - 1)) [ yes q ↦ rw q pass | no q ↦ so_far.quiet f i (omega arith) h ];
    }

    -- it passes by a place that is marked
    pub sweep_passes_marked : marked marks (j - 1) ≡ true → Swept shelf e target old marks changed (j - 1)
    sweep_passes_marked t = sweep_passes (λ _. t)

    -- it passes by a place that it would not mark
    pub sweep_passes_unmarked : would_mark shelf e target (marked marks) (j - 1) ≡ false → Swept shelf e target old marks changed (j - 1)
    sweep_passes_unmarked f = sweep_passes (λ t. absurd (false≢true (sym f ∙ t)))

  module _ {old marks : List Bool} {changed : Bool} (swept : Swept shelf e target old marks changed 0) where
    -- it ends, and has changed something: fewer places are left to mark, so at most as many sweeps as places do so
    pub sweep_leaves_fewer : changed ≡ true
        → shelf.count - how_many (marked marks) shelf.count < shelf.count - how_many (marked old) shelf.count
    sweep_leaves_fewer t = omega (arith, swept.more t, how_many_bounded (marked marks) shelf.count)

    -- it ends, and has changed nothing
    pub sweep_ends : changed ≡ false → Closed shelf e target (marked marks)
    sweep_ends f = record { swept = λ i. swept.quiet f i (omega arith) }

-- ---- the walk

-- a walk from `start` has come to s by way of the places
pub record Walked (shelf : Shelf) (e target : ℕ) (start s : State) (places : List ℕ) : Type 0 where
  pub on_way : OnWay e s
  pub rest : {l : List ℕ} → First shelf s target l → First shelf start target (places ++ l)
  pub dead : NoPlan shelf s target → NoPlan shelf start target

module _ (shelf : Shelf) (target : ℕ) where
  -- it begins
  pub walk_begins : (s : State) → Walked shelf s.e target s s []
  walk_begins s = record { on_way = start_on_way s; rest = λ f. f; dead = λ d. d }

  module _ {e : ℕ} {start s : State} {places : List ℕ} (so_far : Walked shelf e target start s places) where
    -- it ends at the target
    pub walk_ends : at_target s target ≡ true → First shelf start target places
    walk_ends here = rw append-nil at (so_far.rest (first_here shelf target s here))

    module _ {m : ℕ → Bool} (sound : Sound shelf e target m) (closed : Closed shelf e target m) (away : at_target s target ≡ false) where
      -- it ends where no accepted place is marked
      pub walk_fails : lead shelf s m ≡ none → NoPlan shelf start target
      walk_fails l = so_far.dead (walk_none shelf e target m closed s so_far.on_way away (no_lead shelf s m l))

      module _ {i : ℕ} (leading : lead shelf s m ≡ some i) where
        leads_to : LeadsTo shelf s m i
        leads_to = lead_leads_to shelf s m i leading

        not_dead : NoPlan shelf (next shelf s i) target → ⊥
        not_dead d =
            let r = lead_has_plan shelf e target m s i sound so_far.on_way leads_to in
            false≢true (sym (d r.places) ∙ r.plan)

        on_by : {l : List ℕ} → First shelf (next shelf s i) target l → First shelf start target (places ++ i ∷ l)
        on_by f = so_far.rest (walk_on shelf e target m closed s i so_far.on_way away leads_to f)

        -- it goes on to the lowest accepted and marked place
        pub walk_goes_on : Walked shelf e target start (next shelf s i) (places ++ (i ∷ []))
        walk_goes_on = record {
          on_way = rw (next_is_after shelf i so_far.on_way (accepts_rises shelf s i leads_to.accept).rises) (after_on_way shelf e i);
          rest = λ {l} f. rw (append_snoc places i l) (on_by f);
          dead = λ d. absurd (not_dead d);
        }

        -- and has room for it
        pub walk_has_room : length places < shelf.count
        walk_has_room = go (plan_exists_or_not shelf target (next shelf s i))
          where
            go : Planned shelf (next shelf s i) target → length places < shelf.count
            go (has_first {l} f) = omega (arith, plan_length shelf start target (places ++ i ∷ l) (on_by f).plan, length-append places (i ∷ l))
            go (has_none d) = absurd (not_dead d)
