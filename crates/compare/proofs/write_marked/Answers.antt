-- Each marked block's record is put right behind the one before, and an unmarked block has none: after the last block all records stand.
use native.Mathlib.Omega.{arith}
use lib.ListN.{length-take, length-drop}
use Rattle.compare.proofs.Writing.{write_skips, write_room, write_takes, write_ends}
use Rattle.compare.proofs.write_marked.Goals as goal
use Rattle.compare.proofs.write_marked.Goals.{then-mark, else-mark}

pub write-requires : goal.write-requires
write-requires c =
    let room = write_room c.loop-a.invariant (omega arith) c.if-mark.true in
    simp (length-take, length-drop) (omega arith)

pub loop-a-preserved : goal.loop-a-preserved
loop-a-preserved c = elim c.if-mark.branch [
  | then-mark w ↦ rw (w.out-is, w.at-is) (write_takes c.loop-a.invariant (omega arith) c.requires.whole.0 w.if-mark.true w.write.ensures)
  | else-mark w ↦ rw (w.out-is, w.at-is) (write_skips c.loop-a.invariant (omega arith) w.if-mark.false)
]

pub returns : goal.returns
returns c = write_ends c.loop-a.invariant (omega arith)
