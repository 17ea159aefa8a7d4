-- The marks stay sound, a sweep that sets one leaves fewer to set, and one that sets none shows that no mark is missing.
use Prim.Native.Nat.{◌-◌}
use Rattle.paper.proofs.Count.{how_many}
use Rattle.paper.proofs.Marks.{Sound, marked}
use Rattle.plan.specs.Shelves.{shelf}
use Rattle.plan.proofs.marks.Search.mark.Given as goal

abbrev pub invariant-loop-more : goal.invariant-loop-more
invariant-loop-more l = Sound (shelf l.self.on) l.self.start.e l.self.target (marked l.marks)

abbrev pub decreases-loop-more : goal.decreases-loop-more
decreases-loop-more l = l.self.on.count - how_many (marked l.marks) l.self.on.count
