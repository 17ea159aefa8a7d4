-- Each marked block's record is put right behind the one before, and an unmarked block has none: after the last block all records stand.
use Rattle.compare.proofs.Writing.{Writing}
use Rattle.compare.proofs.write_marked.Given as goal

abbrev pub invariant-loop-a : goal.invariant-loop-a
invariant-loop-a l = Writing l.new l.marks l.initial.out l.out l.at l.a
