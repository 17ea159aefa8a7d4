-- Where the first diff's address is lower the merge has its record, else the second's.
use native.Mathlib.Omega.{arith}
use Rattle.merge.proofs.Cursors.{on_record, on_few, record_first, record_second}
use Rattle.merge.proofs.Pair.put_lowest.Goals as goal

pub put_record-requires : goal.put_record-requires
put_record-requires c =
    let walk = c.requires.0 in
    let few = on_few walk.second in
    ((on_record walk.first (omega (arith, walk.lowest, c.if-w.true))).0, c.requires.2)

pub put_record-requires-else-w : goal.put_record-requires-else-w
put_record-requires-else-w c =
    let walk = c.requires.0 in
    ((on_record walk.second (omega (arith, walk.lowest, c.if-w.false))).0, c.requires.2)

pub returns-then-w : goal.returns-then-w
returns-then-w c = rw (record_first c.requires.0 (omega (arith, c.if-w.true))) c.put_record.ensures

pub returns-else-w : goal.returns-else-w
returns-else-w c = rw (record_second c.requires.0 c.requires.1 (omega (arith, c.if-w.false))) c.put_record-else-w.ensures
