-- What the two halves of the search hand on: marks from which a sweep may go on, what it makes of them, marks that decide, and the first list or none.
use Rattle.std.specs.Prelude.{ℕ, List, Bool, true, false, Option, Some, None, Result}
use Rattle.paper.specs.Answer.{Said, answer, refuse, NoChain}
use Rattle.paper.specs.State.{State}
use Rattle.paper.specs.Plan as Paper
use Rattle.paper.proofs.Marks.{Sound, Closed, marked}
use Rattle.paper.proofs.Planner.{Swept}
use Rattle.record.specs.declared.refusal.Refusal.{Refusal}
use Rattle.plan.specs.declared.shelf.Shelf.{Shelf}
use Rattle.plan.specs.declared.planning.Plan.{Plan}
use Rattle.plan.specs.Shelves.{shelf}
use Rattle.plan.specs.Plans.{Shows}

-- a sweep may begin with these marks
pub record ToSweep (on : Paper.Shelf) (e target : ℕ) (marks : List Bool) : Type 0 where
  pub sound : Sound on e target (marked marks)

-- a sweep that began with the marks `old` has ended: with more marks, or with none left to set
abbrev pub Sweeps : Paper.Shelf → ℕ → ℕ → List Bool → Option (List Bool) → Type 0
Sweeps on e target old (Some marks) = Swept on e target old marks true 0
Sweeps on e target old None = Swept on e target old old false 0

-- a walk may go by these marks
pub record ToWalk (on : Paper.Shelf) (e target : ℕ) (marks : List Bool) : Type 0 where
  pub sound : Sound on e target (marked marks)
  pub closed : Closed on e target (marked marks)

-- what a search from s says, once all checks have passed
pub data Searched (on : Paper.Shelf) (s : State) (target : ℕ) : Said (List ℕ) → Type 0 where
  first : {places : List ℕ} → Paper.First on s target places → Searched on s target (answer places)
  none : Paper.NoPlan on s target → Searched on s target (refuse NoChain)

-- r shows that
pub record Finds (on : Shelf) (s : State) (target : ℕ) (r : Result Plan Refusal) : Type 0 where
  pub said : Said (List ℕ)
  pub found : Searched (shelf on) s target said
  pub shown : Shows (shelf on) said r
