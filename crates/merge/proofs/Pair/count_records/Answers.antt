-- Each turn goes past one record, so what is counted and what is left are the whole count.
use Rattle.merge.proofs.Walks.{count_begins, count_ends}
use Rattle.merge.proofs.Pair.count_records.Goals as goal

pub loop-w-init : goal.loop-w-init
loop-w-init c = search count_begins

pub returns : goal.returns
returns c = count_ends c.loop-w.invariant c.loop-w-test.false
