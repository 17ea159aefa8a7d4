-- What a plan answers, check by check: the first that refuses gives its number, and where none does, the search gives the list or NoChain.
use Prim.Native.Nat.{ℕ, ◌≤◌, ◌<◌}
use mathlib.Core.Path.{◌≡◌, sym, ap}
use mathlib.Core.List.{List}
use borrow.Author.Tests.{lt-ltb, le-ltb}
use Rattle.std.specs.Prelude.{Result, Ok, Err, IsErrAnd, MatchResult}
use Rattle.paper.specs.Limits.{max_gid}
use Rattle.paper.specs.Answer.{Said, answer, refuse, ShelfFull, BadGid}
use Rattle.paper.specs.State.{State, read_state}
use Rattle.paper.specs.Plan as Paper
use Rattle.paper.specs.Plan.{check_entries, plan_checks, PlanSays, refused, listed, no_chain, laid_out}
use Rattle.record.specs.declared.refusal.Refusal.{Refusal}
use Rattle.record.specs.Refusals.{number_of}
use Rattle.plan.specs.declared.shelf.Shelf.{Shelf}
use Rattle.plan.specs.declared.planning.Plan.{Plan}
use Rattle.plan.specs.Shelves.{shelf, empty}
use Rattle.plan.specs.Plans.{Tells, Answers, Shows, Gives}
use Rattle.plan.specs.Search.{Searched, first, none, Finds}

-- a refusal that is handed on is shown
shows_refusal : (on : Paper.Shelf) (why : Refusal) (r : Result Plan Refusal) → IsErrAnd r (λ y. y ≡ why) → Shows on (refuse (number_of why)) r
shows_refusal on why (Ok a) h = absurd h
shows_refusal on why (Err y) h = ap (λ (z : Refusal). refuse (number_of z)) (sym h)

module _ (on : Shelf) (saved : List ℕ) (target : ℕ) where
  refused_by : (why : Refusal) (r : Result Plan Refusal) → IsErrAnd r (λ y. y ≡ why) → plan_checks (shelf on) saved target ≡ refuse (number_of why)
      → Gives on saved target r
  refused_by why r h e = record { said = refuse (number_of why); right = refused e; shown = shows_refusal (shelf on) why r h }

  found_from : {s : State} {said : Said (List ℕ)} → plan_checks (shelf on) saved target ≡ answer s → Searched (shelf on) s target said
      → PlanSays (shelf on) saved target said
  found_from e (first f) = listed e f
  found_from e (none d) = no_chain e d

  pub full_no : 96 < on.count → PlanSays (shelf on) saved target (refuse ShelfFull)
  unfolding plan_checks
  full_no l = refused (rw (lt-ltb 96 on.count l))

  module _ (few : on.count ≤ 96) where
    pub entry_no : (why : Refusal) (r : Result Plan Refusal) → IsErrAnd r (λ y. y ≡ why) → refuse (number_of why) ≡ check_entries (shelf on) 0 on.count
        → Gives on saved target r
    unfolding plan_checks
    entry_no why r h e = refused_by why r h (rw (le-ltb 96 on.count few, ← e))

    module _ (entries : answer tt ≡ check_entries (shelf on) 0 on.count) where
      pub state_no : (why : Refusal) (r : Result Plan Refusal) → IsErrAnd r (λ y. y ≡ why) → refuse (number_of why) ≡ read_state saved → Gives on saved target r
      unfolding plan_checks
      state_no why r h e = refused_by why r h (rw (le-ltb 96 on.count few, ← entries, ← e))

      module _ (s : State) (reads : answer s ≡ read_state saved) where
        pub gid_no : max_gid < target → PlanSays (shelf on) saved target (refuse BadGid)
        unfolding plan_checks
        gid_no l = refused (rw (le-ltb 96 on.count few, ← entries, ← reads, lt-ltb max_gid target l))

        pub search_says : (r : Result Plan Refusal) → target ≤ max_gid → Finds on s target r → Gives on saved target r
        unfolding plan_checks
        search_says r l f = record {
          said = f.said;
          right = found_from (rw (le-ltb 96 on.count few, ← entries, ← reads, le-ltb max_gid target l)) f.found;
          shown = f.shown;
        }

  -- where nothing is given, the refusal is laid out
  refusal_answers : (why : Refusal) (r : Plan) → Gives on saved target (Err why) → Tells empty (refuse (number_of why)) r → Answers on saved target r
  unfolding laid_out
  refusal_answers why r g t = record { said = refuse (number_of why); right = rw g.shown at g.right; told = record { says = t.says; lays = t.lays } }

  pub given_answers : (r : Result Plan Refusal) (p : Plan) → Gives on saved target r
      → MatchResult r (λ given. p ≡ given) (λ why. Tells empty (refuse (number_of why)) p) → Answers on saved target p
  given_answers (Ok given) p g e = rw e (record { said = g.said; right = g.right; told = g.shown })
  given_answers (Err why) p g t = refusal_answers why p g t
