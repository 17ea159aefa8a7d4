-- The whole record is copied, and a record that passed the check is the record of its address and content.
use native.Mathlib.Omega.{arith}
use Rattle.merge.proofs.Cursors.{record_copied}
use Rattle.merge.proofs.put_record.Goals as goal

pub copy-requires : goal.copy-requires
copy-requires c = (c.requires.1, omega (arith, c.record.ensures.1))

pub returns : goal.returns
returns c = record_copied c.args.diff c.args.i c.requires.0 _ _ _ c.record.ensures.0 c.copy.ensures λ k. omega (arith, c.type_inv.out k)
