-- A state that is read has its gids below 2^63, and a target that passes too, so that their difference is an i64.
use mathlib.Core.Path.{sym}
use Rattle.paper.specs.Volume.{lag}
use Rattle.paper.proofs.Saved.{read_good}
use Rattle.record.proofs.Passing.{stops}
use Rattle.volume.proofs.Deciding.{lag_gids}
use Rattle.volume.proofs.Differences.{gid_fits, read_fits, read_back}
use Rattle.volume.proofs.lag.lag.Goals as goal

pub returns-in_err-s : goal.returns-in_err-s
unfolding lag
returns-in_err-s c = stops _ _ _ _ _ c.from_residual.ensures.1 c.in_err-s.ensures

pub overflow_cast-result : goal.overflow_cast-result
overflow_cast-result c = gid_fits (read_good _ (sym c.in_ok-s.ensures)).b

pub overflow_sub-result : goal.overflow_sub-result
overflow_sub-result c =
    read_fits _ _ (read_good _ (sym c.in_ok-s.ensures)).b c.if-target-gt-MAX_GID.false

pub returns : goal.returns
returns c =
    let reads = sym c.in_ok-s.ensures in
    rw (read_back _ _ (read_good _ reads).b c.if-target-gt-MAX_GID.false) (lag_gids _ _ _ reads c.if-target-gt-MAX_GID.false)
