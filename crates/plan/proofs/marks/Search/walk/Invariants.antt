-- The places put down so far begin the first list, and a lead that is found has room, since no plan is longer than the shelf.
use Prim.Native.Nat.{◌-◌}
use Rattle.record.specs.States.{state}
use Rattle.plan.proofs.Walks.{Walking}
use Rattle.plan.proofs.marks.Search.walk.Given as goal

abbrev pub invariant-loop-marks : goal.invariant-loop-marks
invariant-loop-marks l = Walking l.self.on l.self.target (state l.initial.s) (state l.s) l.places l.length

abbrev pub decreases-loop-marks : goal.decreases-loop-marks
decreases-loop-marks l = l.self.on.count - l.length
