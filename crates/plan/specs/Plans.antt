-- The promise of a plan: what `paper` says of the shelf, the state and the target, laid out.
use Rattle.std.specs.Prelude.{ℕ, ◌≡◌, List, Result, Ok, Err}
use Rattle.paper.specs.Answer.{Said, answer, refuse, ◌then◌}
use Rattle.paper.specs.Plan as Paper
use Rattle.record.specs.declared.refusal.Refusal.{Refusal}
use Rattle.record.specs.Refusals.{number_of, said}
use Rattle.plan.specs.declared.shelf.Shelf.{Shelf}
use Rattle.plan.specs.declared.planning.Plan.{Plan}
use Rattle.plan.specs.Shelves.{shelf}

abbrev pub said_plan : Result (Unit {0}) Refusal → Said (Unit {0})
said_plan = said (λ _. tt)

abbrev pub plan : Plan → Paper.Plan
plan r = record { length = r.length; places = r.places; shelf = shelf r.shelf }

-- what is said, but for the list
abbrev pub but_for_list : Said (List ℕ) → Said (Unit {0})
but_for_list said = said then λ _. answer tt

-- r is done where a list is said and otherwise has the refusal's number, and is laid out as 01 has it
pub record Tells (on : Paper.Shelf) (said : Said (List ℕ)) (r : Plan) : Type 0 where
  pub says : said_plan r.said ≡ but_for_list said
  pub lays : plan r ≡ Paper.laid_out on said

-- r tells what a plan says of the shelf, the saved state and the target
pub record Answers (on : Shelf) (saved : List ℕ) (target : ℕ) (r : Plan) : Type 0 where
  pub said : Said (List ℕ)
  pub right : Paper.PlanSays (shelf on) saved target said
  pub told : Tells (shelf on) said r

-- r shows what is said: a plan tells it, and a refusal has its number
abbrev pub Shows : Paper.Shelf → Said (List ℕ) → Result Plan Refusal → Type 0
Shows on said (Ok r) = Tells on said r
Shows on said (Err why) = said ≡ refuse (number_of why)

-- r shows what a plan says of the shelf, the saved state and the target, before a refusal is laid out
pub record Gives (on : Shelf) (saved : List ℕ) (target : ℕ) (r : Result Plan Refusal) : Type 0 where
  pub said : Said (List ℕ)
  pub right : Paper.PlanSays (shelf on) saved target said
  pub shown : Shows (shelf on) said r
