-- A shelf that is too long or cannot be read is refused; the rest is `plan_on`'s.
use mathlib.Core.Path.{sym}
use Rattle.desk.proofs.Planning.{shelf_no}
use Rattle.desk.proofs.restores.minnow_plan.Goals as goal

pub returns-in-Err : goal.returns-in-Err
returns-in-Err c = shelf_no _ _ _ _ _ _ _ _ (sym c.in-Err.ensures) c.number.ensures
