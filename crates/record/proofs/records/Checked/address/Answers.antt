-- A diff that passed is as long as its records ask, and their addresses are small.
use native.Mathlib.Omega.{arith}
use Rattle.paper.proofs.Check.{sound}
use Rattle.record.proofs.records.Checked.address.Goals as goal

pub address-requires : goal.address-requires
address-requires c = let s = sound c.args.self.sound in omega (arith, s.long, s.few)

pub returns : goal.returns
returns c =
    let s = sound c.args.self.sound in
    (c.address.ensures, omega (arith, s.low c.args.i c.requires, c.address.ensures))
