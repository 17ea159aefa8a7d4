-- Four bytes and three numbers are put one after the other: together they are the head, put where the slice opens.
use native.Mathlib.Omega.{arith}
use lib.ListN.{length-set}
use Rattle.record.specs.Heads.{head}
use Rattle.record.proofs.Stores.{put_head}
use Rattle.record.proofs.head.Head.write.Goals as goal

pub bounds-out-1 : goal.bounds-out-1
bounds-out-1 c = simp length-set (omega arith)

pub bounds-out-2 : goal.bounds-out-2
bounds-out-2 c = simp length-set (omega arith)

pub bounds-out-3 : goal.bounds-out-3
bounds-out-3 c = simp length-set (omega arith)

pub write-requires : goal.write-requires
write-requires c = simp length-set (omega arith)

pub write-requires-2 : goal.write-requires-2
write-requires-2 c = omega (arith, simp length-set at c.write.auto.s)

pub write-requires-3 : goal.write-requires-3
write-requires-3 c = omega (arith, simp length-set at c.write.auto.s)

pub returns : goal.returns
returns c =
    let args = c.args in
    put_head (head args.self) args.out.now c.write.new.s c.write-2.new.s c.write-3.new.s (omega arith) c.write.ensures c.write-2.ensures c.write-3.ensures
