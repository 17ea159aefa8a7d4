-- Each turn puts one record's content at its block, so what the records left would make of the image stays the same; after the last one it is the image.
use native.Mathlib.Omega.{arith}
use lib.ListN.{length-take, length-drop}
use Rattle.record.specs.Heads.{head}
use Rattle.volume.proofs.Writing.{write_begins, stands, block_stands, write_goes_on, write_ends}
use Rattle.volume.proofs.write.write_records.Goals as goal

pub loop-j-init : goal.loop-j-init
loop-j-init c = write_begins _ (head c.args.diff.h) _ _ _ c.requires

pub address-requires : goal.address-requires
address-requires c = let here = stands c.loop-j.invariant (omega arith) in omega arith

pub content-requires : goal.content-requires
content-requires c = stands c.loop-j.invariant (omega arith)

pub slice_bounds-copy-count : goal.slice_bounds-copy-count
slice_bounds-copy-count c = let inside = block_stands c.loop-j.invariant (omega arith) in omega (arith, c.address.ensures.0)

pub slice_bounds-copy-start : goal.slice_bounds-copy-start
slice_bounds-copy-start c = let inside = block_stands c.loop-j.invariant (omega arith) in omega (arith, c.address.ensures.0)

pub copy-requires : goal.copy-requires
copy-requires c =
    let inside = block_stands c.loop-j.invariant (omega arith) in
    (simp (length-take, length-drop) (omega (arith, c.address.ensures.0)), omega (arith, c.content.ensures.1))

pub loop-j-preserved : goal.loop-j-preserved
loop-j-preserved c =
    write_goes_on c.loop-j.invariant c.args.diff.sound _ _ _ (omega arith) c.address.ensures.0 c.content.ensures.0 c.copy.ensures

pub returns : goal.returns
returns c = write_ends c.loop-j.invariant (omega arith)
