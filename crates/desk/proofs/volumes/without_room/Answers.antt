-- The decision's refusals come first, and NoRoom is what is left.
use Rattle.desk.proofs.Deciding.{none_no, none_yes}
use Rattle.desk.proofs.volumes.without_room.Goals as goal

pub returns-in-Err : goal.returns-in-Err
returns-in-Err c = none_no _ _ _ _ _ c.in-Err.ensures c.number.ensures

pub returns-in-Ok : goal.returns-in-Ok
returns-in-Ok c = none_yes _ _ _ _ _ c.in-Ok.ensures c.number-in-Ok.ensures
