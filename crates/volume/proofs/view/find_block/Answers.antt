-- The diff, the image rule, Outside for the diff's blocks and for a, and then the lookup, as `read_through` has them; a record's place fits, since a diff has at most 65,536.
use Prim.Native.Nat.{◌<◌}
use mathlib.Core.Path.{sym, ◌∙◌}
use mathlib.Core.Option.{none}
use native.Mathlib.Omega.{arith}
use Rattle.paper.specs.Limits.{max_blocks}
use Rattle.paper.specs.Volume.{read_through}
use Rattle.paper.proofs.Images.{image_blocks}
use Rattle.record.specs.Heads.{head}
use Rattle.record.proofs.Passing.{stops, fit_blocks}
use Rattle.volume.proofs.Viewing.{then_look, beyond_no, looked_up, found_low}
use Rattle.volume.proofs.view.find_block.Goals as goal

pub returns-in_err-diff : goal.returns-in_err-diff
unfolding read_through
returns-in_err-diff c = stops _ _ _ _ _ c.from_residual.ensures.1 c.in_err-diff.ensures.says

pub returns-in_err-m : goal.returns-in_err-m
returns-in_err-m c =
    rw (← c.in_ok-diff.ensures.kept)
    (stops _ _ _ _ _ c.from_residual-in_err-m.ensures.1 c.in_err-m.ensures ∙ sym (then_look _ _ _ (head c.in_ok-diff.diff.h) c.in_ok-diff.diff.sound))

pub returns-then-m-a : goal.returns-then-m-a
returns-then-m-a c =
    rw (← c.in_ok-diff.ensures.kept) (beyond_no _ _ _ (head c.in_ok-diff.diff.h) c.in_ok-diff.diff.sound _ c.in_ok-m.ensures c.if-m-a.true)

-- the record that is found is one of those that a diff can have
low : (c : goal.In-Some) → c.in-Some.i < max_blocks
low c = found_low _ _ c.in_ok-diff.diff.sound (sym c.in-Some.ensures)

pub overflow_mul-result : goal.overflow_mul-result
overflow_mul-result c = omega (arith, low c)

pub overflow_add-result : goal.overflow_add-result
overflow_add-result c = omega (arith, low c)

pub overflow_add-result-in-Some : goal.overflow_add-result-in-Some
overflow_add-result-in-Some c = omega (arith, low c)

pub overflow_mul-result-in-None : goal.overflow_mul-result-in-None
overflow_mul-result-in-None c = let m = image_blocks _ (fit_blocks _ _ _ _ (sym c.in_ok-m.ensures)) in omega arith

pub returns-in-Some : goal.returns-in-Some
returns-in-Some c =
    rw (← c.in_ok-diff.ensures.kept) (looked_up _ _ _ (head c.in_ok-diff.diff.h) c.in_ok-diff.diff.sound _ c.in_ok-m.ensures _ c.if-m-a.false c.in-Some.ensures)

pub returns-in-None : goal.returns-in-None
returns-in-None c =
    rw (← c.in_ok-diff.ensures.kept) (looked_up _ _ _ (head c.in_ok-diff.diff.h) c.in_ok-diff.diff.sound _ c.in_ok-m.ensures none c.if-m-a.false c.in-None.ensures)
