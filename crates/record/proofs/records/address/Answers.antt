-- `records::address` meets its contract: the part of the diff from record i on is the rest that the definition reads.
use Prim.Native.Nat.{◌+◌, ◌*◌}
use mathlib.Core.Path.{refl, ap, ◌∙◌}
use Rattle.paper.specs.Diff.{address_of}
use native.Mathlib.Omega.{arith}
use lib.ListN.{length-take, length-drop}
use Rattle.record.proofs.Walk.{part_rest}
use Rattle.record.proofs.records.address.Goals as goal

pub address_of-requires : goal.address_of-requires
address_of-requires c = simp (length-take, length-drop) (omega arith)

pub returns : goal.returns
returns c =
    let args = c.args in
    c.address_of.ensures ∙ ap address_of (part_rest args.d.now args.i (24 + 518 * args.i) refl)
