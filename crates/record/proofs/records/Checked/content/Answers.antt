-- A diff that passed is as long as its records ask.
use Prim.Native.Nat.{◌+◌, ◌-◌, ◌*◌}
use mathlib.Core.Path.{◌≡◌}
use native.Mathlib.Omega.{arith}
use lib.ListN.{length-take, length-drop}
use lib.Seq.{drop-drop}
use Rattle.paper.specs.Diff.{content_of}
use Rattle.paper.proofs.Check.{sound}
use Rattle.record.proofs.records.Checked.content.Goals as goal

pub slice_bounds-result-end : goal.slice_bounds-result-end
slice_bounds-result-end c = let s = sound c.args.self.sound in omega (arith, s.long)

pub returns : goal.returns
unfolding content_of
returns c =
    let at = 24 + 518 * c.args.i + 6 in
    let e : at + 512 - at ≡ 512 = omega arith in
    let s = sound c.args.self.sound in
    (rw (e, drop-drop 6 (24 + 518 * c.args.i) c.args.self.d.now), simp (length-take, length-drop) (omega (arith, s.long)))
