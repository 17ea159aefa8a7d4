-- A place that it marks leads to the target, and a place that it leaves is marked already or leads nowhere yet.
use mathlib.Core.Path.{◌≡◌}
use mathlib.Core.Bool.{false}
use Rattle.paper.proofs.Planner.{Swept}
use Rattle.plan.specs.Shelves.{shelf}
use Rattle.plan.proofs.marks.Search.sweep.Given as goal

abbrev pub invariant-loop-j : goal.invariant-loop-j
invariant-loop-j l = record {
  swept : Swept (shelf l.self.on) l.self.start.e l.self.target l.initial.marks l.marks l.changed l.j;
  same : l.changed ≡ false → l.marks ≡ l.initial.marks;
}
