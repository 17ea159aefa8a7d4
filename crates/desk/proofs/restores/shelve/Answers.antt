-- `Reading` holds before each entry, and each way out says what is read.
use mathlib.Core.Path.{◌∙◌}
use native.Mathlib.Omega.{arith}
use Rattle.record.proofs.Passing.{hands_on}
use Rattle.desk.proofs.Shelving.{too_many, read_begin, entry_reads, entry_refused, read_end}
use Rattle.desk.proofs.restores.shelve.Goals as goal

pub returns-then-count-gt-PLACES : goal.returns-then-count-gt-PLACES
returns-then-count-gt-PLACES c = too_many _ _ c.if-count-gt-PLACES.true

pub loop-i-init : goal.loop-i-init
loop-i-init c = read_begin _ _ _ c.if-count-gt-PLACES.false c.empty.ensures

pub returns-in_err-on : goal.returns-in_err-on
returns-in_err-on c = hands_on _ _ _ c.from_residual.ensures.1 ∙ entry_refused _ _ _ _ c.loop-i.invariant _ (omega arith) c.read.ensures _ c.in_err-on.was

pub loop-i-preserved : goal.loop-i-preserved
loop-i-preserved c = entry_reads _ _ _ _ c.loop-i.invariant _ (omega arith) c.read.ensures _ c.in_ok-on.was

pub returns : goal.returns
returns c = read_end _ _ _ _ c.loop-i.invariant (omega arith)
