-- Each turn puts one record after those before it, so what stands and what is left are the whole at every turn.
use native.Mathlib.Omega.{arith}
use lib.ListN.{length-take, length-drop}
use Rattle.merge.proofs.Walks.{write_begins, write_goes_on, more_left, write_ends}
use Rattle.merge.proofs.Pair.write_records.Goals as goal

pub loop-i-init : goal.loop-i-init
loop-i-init c = search write_begins

pub put_lowest-requires : goal.put_lowest-requires
put_lowest-requires c =
    let at = c.loop-i.invariant.counting in
    (at.walking, more_left at (omega arith), simp (length-take, length-drop) (omega arith))

pub turn-w-requires : goal.turn-w-requires
turn-w-requires c = let at = c.loop-i.invariant.counting in (at.walking, more_left at (omega arith))

pub loop-i-preserved : goal.loop-i-preserved
loop-i-preserved c = write_goes_on _ c.loop-i.invariant c.turn-w.ensures (omega arith) c.put_lowest.ensures

pub returns : goal.returns
returns c = write_ends c.loop-i.invariant (omega arith)
