-- 01, "Rows from the night book": the plans over one shelf. Each step goes to the lowest place that is accepted, and from there the rest is first.
use Prim.Native.Nat.{ℕ, zero, suc, ◌<◌}
use mathlib.Core.Path.{◌≡◌, refl, sym, ◌∙◌}
use mathlib.Core.Option.{some}
use mathlib.Core.List.{List, [], ◌∷◌}
use mathlib.Core.Bool.{Bool, true, false, false≢true}
use native.Mathlib.Omega.{arith}
use Rattle.paper.specs.Number.{little, spelled, field, opens}
use Rattle.paper.specs.Answer.{answer, refuse, NoChain}
use Rattle.paper.specs.Diff.{log_head, compared_head, check_head, bad_head}
use Rattle.paper.specs.State.{State, settled, clean, is_clean, fits_kind, bad_state, state_of, state_bytes, bad_record, read_state}
use Rattle.paper.specs.Volume.{exact, is_pair_while, while_state, done_state, decide_on}
use Rattle.paper.specs.Plan.{Shelf, check_entries, plan_checks, at_target, is_plan, NoPlan, First, PlanSays, listed, no_chain}
use Rattle.paper.proofs.Lowest.{lowest, found_is_lowest}
use Rattle.paper.proofs.Step.{accepted, accepts, next, plan_rises, accepts_rises}
use Rattle.paper.proofs.Walk.{first_here, first_step, no_step}

-- "Shelf log 0→4, compared 4→9, log 4→6, log 6→9"
abbrev shelf : Shelf
shelf = record { heads = log_head 0 4 ∷ compared_head 4 9 ∷ log_head 4 6 ∷ log_head 6 9 ∷ []; count = 4 }

-- one step: the lowest place that is accepted
step : (s : State) (target i : ℕ) {l : List ℕ} → at_target s target ≡ false → lowest (accepts shelf s) 0 4 ≡ some i → First shelf (next shelf s i) target l
    → First shelf s target (i ∷ l)
step s target i away e f =
    let low = found_is_lowest (accepts shelf s) 0 4 i e in
    first_step shelf target s i away low.passes (λ n k a. absurd (false≢true (sym (low.none_lower n (omega arith) k) ∙ a))) f

-- past the target there is no plan
past : (s : State) (target : ℕ) → target < s.b → NoPlan shelf s target
past s target l places = go (is_plan shelf s target places) refl
  where
    go : (t : Bool) → is_plan shelf s target places ≡ t → is_plan shelf s target places ≡ false
    go true e = absurd (omega (arith, plan_rises shelf s target places e))
    go false e = e

-- "target 9: from clean 0 the list is 0, 1; from clean 5 it is 2, 3; from dirty 0,0,5 it is 0, 2, 3"
pub record Lists : Type 0 where
  pub from_clean_0 : PlanSays shelf (state_bytes (clean 0)) 9 (answer (0 ∷ 1 ∷ []))
  pub from_clean_5 : PlanSays shelf (state_bytes (clean 5)) 9 (answer (2 ∷ 3 ∷ []))
  pub from_dirty : PlanSays shelf (state_bytes (settled 0 5)) 9 (answer (0 ∷ 2 ∷ 3 ∷ []))
  -- "The list is empty if the state is already clean at the target."
  pub from_clean_9 : PlanSays shelf (state_bytes (clean 9)) 9 (answer [])
  -- at the target, but dirty beyond it
  pub from_dirty_9 : PlanSays shelf (state_bytes (settled 9 12)) 9 (refuse NoChain)
  -- "Target 5 from clean 0: NoChain."
  pub to_5 : PlanSays shelf (state_bytes (clean 0)) 5 (refuse NoChain)

-- nothing leads from clean 0 to 5: the one way goes to 4, and on from there past 5
none_to_5 : NoPlan shelf (clean 0) 5
unfolding at_target is_clean accepts accepted decide_on exact done_state while_state is_pair_while
none_to_5 = no_step shelf 5 (clean 0) refl from_0
  where
    from_4 : (n : ℕ) → accepts shelf (clean 4) n ≡ true → NoPlan shelf (next shelf (clean 4) n) 5
    from_4 zero a = absurd (false≢true a)
    from_4 (suc zero) a = past _ 5 (omega arith)
    from_4 (suc (suc zero)) a = past _ 5 (omega arith)
    from_4 (suc (suc (suc zero))) a = absurd (false≢true a)
    from_4 (suc (suc (suc (suc n)))) a = absurd (omega (arith, (accepts_rises shelf (clean 4) (suc (suc (suc (suc n)))) a).below))

    from_0 : (n : ℕ) → accepts shelf (clean 0) n ≡ true → NoPlan shelf (next shelf (clean 0) n) 5
    from_0 zero a = no_step shelf 5 (clean 4) refl from_4
    from_0 (suc zero) a = absurd (false≢true a)
    from_0 (suc (suc zero)) a = absurd (false≢true a)
    from_0 (suc (suc (suc zero))) a = absurd (false≢true a)
    from_0 (suc (suc (suc (suc n)))) a = absurd (omega (arith, (accepts_rises shelf (clean 0) (suc (suc (suc (suc n)))) a).below))

-- nothing leads from dirty 9 to clean 9: no entry ends later
none_from_dirty_9 : NoPlan shelf (settled 9 12) 9
unfolding at_target is_clean accepts accepted decide_on exact
none_from_dirty_9 = no_step shelf 9 (settled 9 12) refl from_9
  where
    from_9 : (n : ℕ) → accepts shelf (settled 9 12) n ≡ true → NoPlan shelf (next shelf (settled 9 12) n) 9
    from_9 zero a = absurd (false≢true a)
    from_9 (suc zero) a = absurd (false≢true a)
    from_9 (suc (suc zero)) a = absurd (false≢true a)
    from_9 (suc (suc (suc zero))) a = absurd (false≢true a)
    from_9 (suc (suc (suc (suc n)))) a = absurd (omega (arith, (accepts_rises shelf (settled 9 12) (suc (suc (suc (suc n)))) a).below))

pub lists : Lists
unfolding at_target is_clean lowest accepts accepted decide_on exact done_state while_state is_pair_while plan_checks check_entries check_head bad_head
    read_state bad_record bad_state fits_kind state_of state_bytes opens field little spelled
lists = record {
  from_clean_0 = listed refl (step (clean 0) 9 0 refl refl (step (clean 4) 9 1 refl refl (first_here shelf 9 (clean 9) refl)));
  from_clean_5 = listed refl (step (clean 5) 9 2 refl refl (step (clean 6) 9 3 refl refl (first_here shelf 9 (clean 9) refl)));
  from_dirty = listed refl (step (settled 0 5) 9 0 refl refl (step (settled 4 5) 9 2 refl refl (step (clean 6) 9 3 refl refl (first_here shelf 9 (clean 9) refl))));
  from_clean_9 = listed refl (first_here shelf 9 (clean 9) refl);
  from_dirty_9 = no_chain refl none_from_dirty_9;
  to_5 = no_chain refl none_to_5;
}
