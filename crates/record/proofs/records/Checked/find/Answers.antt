-- What is left to look through is the whole answer at every turn.
use native.Mathlib.Omega.{arith}
use Rattle.record.proofs.Walk.{seek_stops, seek_goes_on, seek_finishes}
use Rattle.record.proofs.records.Checked.find.Goals as goal

pub returns-then-address-a : goal.returns-then-address-a
returns-then-address-a c =
    let at = c.loop-i in
    seek_stops _ _ _ at.i _ at.invariant (omega (arith, c.count-i-end.ensures)) c.address.ensures.0 c.if-address-a.true

pub loop-i-preserved : goal.loop-i-preserved
loop-i-preserved c =
    let at = c.loop-i in
    seek_goes_on _ _ _ at.i _ at.invariant (omega (arith, c.count-i-end.ensures)) c.address.ensures.0 c.if-address-a.false

pub returns : goal.returns
returns c = seek_finishes _ _ _ _ c.loop-i.invariant (omega (arith, c.count-i-end.ensures))
