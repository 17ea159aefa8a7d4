-- The decision's refusals come first, then room for the two records; both states are states, so their records are written.
use Rattle.desk.proofs.Deciding.{no_room_for_while, no_room_for_done, decide_no, decide_yes}
use Rattle.desk.proofs.volumes.minnow_decide.Goals as goal
use Rattle.desk.proofs.volumes.minnow_decide.Goals.{then-during-lt-SIZE-via-then-during-lt-SIZE, then-during-lt-SIZE-via-else-during-lt-SIZE+then-done-lt-SIZE}

pub returns-then-during-lt-SIZE : goal.returns-then-during-lt-SIZE
returns-then-during-lt-SIZE c = elim c.then-during-lt-SIZE.branch [
  | then-during-lt-SIZE-via-then-during-lt-SIZE w ↦
      no_room_for_while _ _ _ _ _ _ c.in-Ok.ensures _ w.if-during-lt-SIZE.true c.number-then-during-lt-SIZE.ensures
  | then-during-lt-SIZE-via-else-during-lt-SIZE+then-done-lt-SIZE w ↦
      no_room_for_done _ _ _ _ _ _ c.in-Ok.ensures w.if-during-lt-SIZE.false _ w.if-done-lt-SIZE.true c.number-then-during-lt-SIZE.ensures
]

pub returns-in-Err : goal.returns-in-Err
returns-in-Err c = decide_no _ _ _ _ _ _ _ c.in-Err.ensures c.number.ensures

pub returns-else-done-lt-SIZE : goal.returns-else-done-lt-SIZE
returns-else-done-lt-SIZE c =
    decide_yes _ _ _ _ _ _ c.in-Ok.ensures c.if-during-lt-SIZE.false _ _ _ _ c.if-done-lt-SIZE.false c.state.ensures c.state-in-Ok.ensures c.write.ensures.leaves c.write-in-Ok.ensures.leaves
