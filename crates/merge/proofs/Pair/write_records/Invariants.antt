-- Each turn puts one record after those before it, so what stands and what is left are the whole at every turn.
use Rattle.merge.proofs.Walks.{Writing}
use Rattle.merge.proofs.Pair.write_records.Given as goal

abbrev pub invariant-loop-i : goal.invariant-loop-i
invariant-loop-i l = Writing l.self l.initial.out l.out l.w l.i
