-- One byte more goes from the rest to the front.
use mathlib.Core.Path.{◌≡◌}
use native.Mathlib.Omega.{arith}
use Rattle.number.proofs.Puts.{copy_more}
use Rattle.number.proofs.copy.Goals as goal

pub loop-i-preserved : goal.loop-i-preserved
loop-i-preserved g c =
    let at = c.loop-i in
    let args = c.args in
    rw at.invariant (copy_more args.src.now args.dst.now at.i (omega arith) (omega arith))

pub returns : goal.returns
returns g c = let e : c.loop-i.i ≡ g.row.N = omega arith in rw e at c.loop-i.invariant
