-- A diff that passed is as long as its records ask.
use Prim.Native.Nat.{◌+◌, ◌-◌, ◌*◌}
use mathlib.Core.Path.{◌≡◌}
use native.Mathlib.Omega.{arith}
use lib.ListN.{length-take, length-drop}
use Rattle.paper.proofs.Check.{sound}
use Rattle.record.proofs.records.Checked.record.Goals as goal

pub slice_bounds-result-end : goal.slice_bounds-result-end
slice_bounds-result-end c = let s = sound c.args.self.sound in omega (arith, s.long)

pub returns : goal.returns
returns c =
    let at = 24 + 518 * c.args.i in
    let e : at + 518 - at ≡ 518 = omega arith in
    let s = sound c.args.self.sound in
    (rw e, simp (length-take, length-drop) (omega (arith, s.long)))
