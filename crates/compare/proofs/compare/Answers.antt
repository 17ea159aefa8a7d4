-- Each check of 8 and 3 that refuses is a refusal of the whole, since those before it were passed.
-- The blocks that differ are marked and counted first, so the size is known before anything is written; with room, the head and the records behind it are the diff.
use Prim.Native.Nat.{ℕ, ◌*◌}
use mathlib.Core.Path.{◌≡◌, sym, ap, ◌∙◌}
use lib.ListN.{length}
use native.Mathlib.Omega.{arith}
use Rattle.paper.specs.Diff.{check_head}
use Rattle.paper.proofs.Answers.{refused, both}
use Rattle.record.proofs.Passing.{hands_back}
use Rattle.compare.proofs.Answers.{first_bad, second_bad, unequal, gids_bad, Sized, sized, marks_size, marked_count, few_marked, no_room, writes}
use Rattle.compare.proofs.compare.Goals as goal
use Rattle.compare.proofs.compare.Goals.{In_ok-check, After-mark-count}

pub returns-in_err-check_image : goal.returns-in_err-check_image
returns-in_err-check_image c = hands_back _ _ _ _ c.from_residual.ensures.1 (sym (first_bad _ _ _ _ _ c.in_err-check_image.ensures))

pub returns-in_err-blocks : goal.returns-in_err-blocks
returns-in_err-blocks c = hands_back _ _ _ _ c.from_residual-in_err-blocks.ensures.1 (sym (second_bad _ _ _ _ _ c.in_err-blocks.ensures))

pub returns-then-old-new : goal.returns-then-old-new
returns-then-old-new c = both (refused _ (unequal _ _ _ _ _ (λ e. omega (arith, c.if-old-new.true))))

pub returns-in_err-check : goal.returns-in_err-check
returns-in_err-check c =
    let gids = c.in_err-check.ensures ∙ ap check_head c.compared.ensures in
    hands_back _ _ _ _ c.from_residual-in_err-check.ensures.1 (sym (gids_bad _ _ _ _ _ c.in_ok-check_image.ensures c.in_ok-blocks.ensures c.if-old-new.false gids))

-- the checks are passed
passed : (c : In_ok-check) → Sized c.args.old.now c.args.new.now c.args.p c.args.q c.in_ok-blocks.blocks
passed c = sized c.in_ok-check_image.ensures c.in_ok-blocks.ensures c.if-old-new.false c.in_ok-check.ensures c.compared.ensures

-- and there is a mark for each block
all_marks : (c : After-mark-count) → Sized c.args.old.now c.args.new.now c.args.p c.args.q (length c.mark-count.new.marks)
all_marks c =
    let s = passed (goal.at.After-mark-count c).In_ok-check in
    let size : length c.mark-count.new.marks ≡ c.in_ok-blocks.blocks = c.mark-count.auto.marks ∙ marks_size s.few in
    rw size s

pub returns-then-out-size : goal.returns-then-out-size
returns-then-out-size c =
    both (refused _ (no_room (all_marks (goal.at.returns-then-out-size c).After-mark-count) c.mark-count.ensures c.if-out-size.true))

pub returns : goal.returns
returns c =
    let s = all_marks (goal.at.returns c).After-mark-count in
    both (writes s c.mark-count.ensures _ c.if-out-size.false c.compared-2.ensures c.write.ensures c.write_marked.ensures)

pub slice_bounds-marks-end : goal.slice_bounds-marks-end
slice_bounds-marks-end c = (passed (goal.at.slice_bounds-marks-end c).In_ok-check).few

pub slice_bounds-marks-end-2 : goal.slice_bounds-marks-end-2
slice_bounds-marks-end-2 c = let s = passed (goal.at.slice_bounds-marks-end-2 c).In_ok-check in sym (marks_size s.few)

pub mark-count-requires : goal.mark-count-requires
mark-count-requires c =
    let s = passed (goal.at.mark-count-requires c).In_ok-check in
    let size = ap (λ (n : ℕ). 512 * n) (sym (marks_size s.few)) in
    (s.first ∙ size, s.second ∙ size)

pub overflow_mul-size : goal.overflow_mul-size
overflow_mul-size c = omega (arith, few_marked (all_marks (goal.at.overflow_mul-size c).After-mark-count) c.mark-count.ensures)

pub overflow_add-size : goal.overflow_add-size
overflow_add-size c = omega (arith, few_marked (all_marks (goal.at.overflow_add-size c).After-mark-count) c.mark-count.ensures)

pub overflow_cast-count : goal.overflow_cast-count
overflow_cast-count c = omega (arith, few_marked (all_marks (goal.at.overflow_cast-count c).After-mark-count) c.mark-count.ensures)

pub write_marked-requires : goal.write_marked-requires
write_marked-requires c =
    let s = all_marks (goal.at.write_marked-requires c).After-mark-count in
    record {
      whole = (s.second, s.few);
      room = omega (arith, marked_count s c.mark-count.ensures, c.if-out-size.false, c.write.auto.out);
    }
