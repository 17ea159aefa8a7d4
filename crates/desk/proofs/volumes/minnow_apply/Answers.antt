-- With too little room the answer is `without_room`'s; else Done is a state, so its record is written.
use Rattle.desk.proofs.Deciding.{apply_short, apply_no, apply_yes}
use Rattle.desk.proofs.volumes.minnow_apply.Goals as goal

pub returns-then-done-lt-SIZE : goal.returns-then-done-lt-SIZE
returns-then-done-lt-SIZE c = apply_short _ _ _ _ _ c.if-done-lt-SIZE.true c.without_room.ensures

pub returns-in-Err : goal.returns-in-Err
returns-in-Err c = apply_no _ _ _ _ _ c.if-done-lt-SIZE.false c.apply.ensures.leaves _ _ c.in-Err.ensures.answered c.number.ensures

pub returns-in-Ok : goal.returns-in-Ok
returns-in-Ok c = apply_yes _ _ _ _ _ c.if-done-lt-SIZE.false c.apply.ensures.leaves _ _ _ c.in-Ok.ensures.answered c.state.ensures c.write.ensures.leaves
