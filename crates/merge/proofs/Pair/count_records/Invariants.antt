-- Each turn goes past one record, so what is counted and what is left are the whole count.
use Prim.Native.Nat.{◌-◌}
use Rattle.merge.proofs.Walks.{Counting}
use Rattle.merge.proofs.Pair.count_records.Given as goal

abbrev pub invariant-loop-w : goal.invariant-loop-w
invariant-loop-w l = Counting l.self l.w l.n

abbrev pub decreases-loop-w : goal.decreases-loop-w
decreases-loop-w l = 65536 - l.w.low
