-- The walk of the plan: the places that it has put down are the first places of the first list, whatever the rest of it is.
use Prim.Native.Nat.{ℕ, ◌+◌, ◌-◌, ◌≤◌, ◌<◌}
use mathlib.Core.Path.{◌≡◌, refl}
use mathlib.Core.List.{List, [], ◌∷◌, ◌++◌}
use mathlib.Core.Option.{none, some}
use mathlib.Core.Bool.{Bool, true, false}
use native.Mathlib.Omega.{arith}
use lib.ListN.{length, get_or, set, replicate, length-append}
use Rattle.std.specs.Prelude.{Ok, Err}
use Rattle.paper.specs.Answer as table
use Rattle.paper.specs.Answer.{answer, refuse}
use Rattle.paper.specs.State.{State}
use Rattle.paper.specs.Volume.{done_state}
use Rattle.paper.specs.Plan.{at_target, kept_shelf, laid_out}
use Rattle.paper.proofs.Marks.{lead, lead_leads_to, marked}
use Rattle.paper.proofs.Planner.{Walked, walk_begins, walk_ends, walk_fails, walk_goes_on, walk_has_room}
use Rattle.record.specs.declared.refusal.Refusal.TheVariants.{NoChain}
use Rattle.record.specs.Heads.{head}
use Rattle.plan.specs.declared.shelf.Shelf.{Shelf}
use Rattle.plan.specs.Shelves.{shelf}
use Rattle.plan.specs.Search.{ToWalk, first, none as none_found, Finds}
use Rattle.plan.proofs.Fills.{fill_one}
use Rattle.plan.proofs.Entries.{blank, entry_is}

-- the walk from `start` is at s, and `long` places are put down
pub record Walking (on : Shelf) (target : ℕ) (start s : State) (places : List ℕ) (long : ℕ) : Type 0 where
  pub so_far : List ℕ
  pub walked : Walked (shelf on) start.e target start s so_far
  pub size : length so_far ≡ long
  pub put : places ≡ so_far ++ replicate (96 - long) 0

-- there is room for one more, i, which is a place of the shelf
pub record Room (on : Shelf) (long i : ℕ) : Type 0 where
  pub below : i < on.count
  pub room : long < on.count

pub walk_starts : (on : Shelf) (target : ℕ) (start : State) → Walking on target start start (replicate 96 0) 0
walk_starts on target start = record { so_far = []; walked = walk_begins (shelf on) target start; size = refl; put = refl }

module _ (on : Shelf) (target : ℕ) (start s : State) (marks : List Bool) (places : List ℕ) (long : ℕ)
    (at : Walking on target start s places long) (by : ToWalk (shelf on) start.e target marks) where
  module _ (away : at_target s target ≡ false) where
    -- it is stuck
    pub walk_stuck : lead (shelf on) s (marked marks) ≡ none → Finds on start target (Err NoChain)
    walk_stuck l = record {
      said = refuse table.NoChain;
      found = none_found (walk_fails (shelf on) target at.walked by.sound by.closed away l);
      shown = refl;
    }

    module _ (i : ℕ) (leads : lead (shelf on) s (marked marks) ≡ some i) where
      pub walk_has : Room on long i
      walk_has = record {
        below = (lead_leads_to (shelf on) s (marked marks) i leads).below;
        room = rw (← at.size) (walk_has_room (shelf on) target at.walked by.sound by.closed away leads);
      }

      -- it goes on to place i
      pub walk_steps : (s' : State) → s' ≡ done_state (head (get_or on.heads i blank)) s → on.count ≤ 96 → Walking on target start s' (set places long i) (long + 1)
      walk_steps s' e few = record {
        so_far = at.so_far ++ (i ∷ []);
        walked = rw (e, ← entry_is on i) (walk_goes_on (shelf on) target at.walked by.sound by.closed away leads);
        size = omega (arith, length-append at.so_far (i ∷ []), at.size);
        put = rw at.put (fill_one at.so_far long 96 0 i at.size (omega (arith, walk_has, few)));
      }

  -- it is there
  pub walk_arrives : at_target s target ≡ true → (kept : Shelf) → shelf kept ≡ kept_shelf (shelf on)
      → Finds on start target (Ok (record { said = Ok tt; length = long; places = places; shelf = kept }))
  unfolding laid_out
  walk_arrives here kept k = record {
    said = answer at.so_far;
    found = first (walk_ends (shelf on) target at.walked here);
    shown = record { says = refl; lays = rw (at.size, k, at.put) };
  }
