-- Addresses rise: the last record decides.
use Prim.Native.Nat.{◌<◌}
use mathlib.Core.Path.{sym, ◌∙◌}
use native.Mathlib.Omega.{arith}
use Rattle.record.specs.Heads.{head}
use Rattle.record.proofs.Walk.{outside_none, outside_last}
use Rattle.record.proofs.records.Checked.names_outside.Goals as goal

pub returns-then-n-eq0 : goal.returns-then-n-eq0
returns-then-n-eq0 c = outside_none _ (head c.args.self.h) _ c.args.self.sound (sym c.count-n.ensures ∙ c.if-n-eq0.true)

pub returns : goal.returns
returns c =
    let some_record : 0 < c.args.self.h.n = omega (arith, c.if-n-eq0.false) in
    outside_last _ (head c.args.self.h) _ _ c.args.self.sound some_record (rw c.count-n.ensures at c.address.ensures.0)
