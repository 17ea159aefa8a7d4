-- The marks stay sound, a sweep that sets one leaves fewer to set, and one that sets none shows that no mark is missing.
use mathlib.Core.Path.{refl}
use Rattle.paper.proofs.Marks.{no_marks_sound, none_marked}
use Rattle.paper.proofs.Planner.{sweep_leaves_fewer}
use Rattle.plan.proofs.marks.Search.mark.Goals as goal

pub loop-more-init : goal.loop-more-init
loop-more-init c = no_marks_sound _ _ _ _ (none_marked 96)

pub loop-more-smaller : goal.loop-more-smaller
loop-more-smaller c = sweep_leaves_fewer c.in-Some.ensures refl
