-- The mark, the address and the content are put one after the other, and the content goes into the part that starts after the address:
-- together they are the record, put where the slice opens.
use native.Mathlib.Omega.{arith}
use lib.ListN.{take, length-set, length-take, length-drop}
use lib.Seq.{length-take-le}
use Rattle.record.proofs.Stores.{put_record}
use Rattle.record.proofs.block.Block.write.Goals as goal

pub bounds-out-1 : goal.bounds-out-1
bounds-out-1 c = simp length-set (omega arith)

pub write-requires : goal.write-requires
write-requires c = simp length-set (omega arith)

pub copy-requires : goal.copy-requires
copy-requires c = let kept = simp length-set at c.write.auto.s in simp (length-take, length-drop) (omega arith)

pub returns : goal.returns
returns c =
    let args = c.args in
    put_record args.self.address (take 512 args.content.now) args.out.now c.write.new.s _ (length-take-le 512 args.content.now (omega arith)) (omega arith) c.write.ensures c.copy.ensures
