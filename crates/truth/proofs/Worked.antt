-- Demand 3 is not empty: the worked story is one, and every assumption holds of it. The volume is cut within a block, resumed with a merge
-- that contains the diff that was cut, and ends clean at 3, with the image that the history has there.
use Prim.Native.Nat.{ℕ, ◌+◌, ◌-◌, ◌*◌, ◌/◌, ◌%◌, ◌≤◌, ◌<◌}
use mathlib.Core.Path.{◌≡◌, refl, sym, ap, ◌∙◌}
use mathlib.Core.Option.{some}
use mathlib.Core.List.{List, [], ◌∷◌}
use mathlib.Core.Bool.{true, false, cond}
use native.Mathlib.Omega.{arith}
use native.Mathlib.Nat.{le_refl}
use native.Mathlib.Decide.{dec_lt}
use borrow.Author.Tests.{le-leb, le-ltb, lt-ltb}
use lib.Dec.{ltb}
use lib.ListN.{length, get_or}
use Rattle.paper.specs.Answer.{answer, Wrote}
use Rattle.paper.specs.Image.{block, overlay}
use Rattle.paper.specs.Diff.{log_head, named_by, named, written}
use Rattle.paper.specs.State.{clean, pair, span, is_clean, state_bytes, read_state}
use Rattle.paper.specs.Volume.{Further, exact, while_state, done_state, is_pair_while, decide_on, decide, apply, run_end, run, Stretch, covers, Runs, no_run, one_more}
use Rattle.paper.specs.Merge.{merged, merge}
use Rattle.paper.specs.History.{writes_in, logged, true_map, TrueDiff}
use Rattle.paper.proofs.Check.{sound}
use Rattle.paper.proofs.Names.{named_sound}
use Rattle.paper.proofs.Runs.{runs_as_apply}
use Rattle.paper.proofs.Images.{overlay_length, overlay_at, block_at}
use Rattle.paper.proofs.States.{is_pair}
use Rattle.paper.proofs.Saved.{saved_reads}
use Rattle.paper.proofs.Merging.{Touching, merge_written, merges}
use Rattle.truth.specs.Story.{TrueVolume, Have, given, by_merge, Contains, itself, as_first, Cut, cut_apply, cut_run, Finish, at_once, in_runs, finished, cut, Story, begun, then_move, IsAccepted, Holds}
use Rattle.truth.specs.Made.{puts, after_step, number_at, filled_length, filled_at, filled_block, partly, partly_at, partly_mixed}
use Rattle.truth.specs.Worked.{worked, first_diff, second_diff, third_diff, Given, first, second, third, both_diff, start, cut_image, after_cut, resumed, end}
use Rattle.truth.proofs.Diffs.{DiffOf, log_true, compared_true}
use Rattle.truth.proofs.Accepts.{decide_true, run_true, settled_reads, settled_true}
use Rattle.truth.proofs.Demand.{merge_true, demand_three}

-- ---- the diffs are true

-- the first
first_true : DiffOf worked false 0 1 first_diff
unfolding first_diff
first_true = log_true worked (omega arith) (omega arith) (omega arith) 0 1 (omega arith) (omega arith)

-- the second
second_true : DiffOf worked false 1 2 second_diff
unfolding second_diff
second_true = log_true worked (omega arith) (omega arith) (omega arith) 1 2 (omega arith) (omega arith)

-- the compared one
third_true : DiffOf worked true 2 3 third_diff
unfolding third_diff
third_true = compared_true worked (omega arith) (omega arith) (omega arith) 2 3 (omega arith) (omega arith)

-- so all that are given
pub given_true : (d : List ℕ) → Given d → TrueDiff worked d
given_true d first = first_true.is_true
given_true d second = second_true.is_true
given_true d third = third_true.is_true

-- ---- the merge

-- the two that touch are merged
pub both_merged : merge first_diff second_diff (length both_diff) ≡ answer (record { value = length both_diff; bytes = both_diff })
unfolding both_diff
both_merged =
    let h₀ = first_true.is_true.head in
    let h₁ = second_true.is_true.head in
    let touch : Touching h₀ h₁ = record { log₀ = first_true.kind; log₁ = second_true.kind; touch = first_true.to ∙ sym second_true.from } in
    let bytes : both_diff ≡ written (log_head h₀.p h₁.q) (merged (named first_diff) (named second_diff)) = rw (first_true.from, second_true.to) in
    merges _ (merge_written first_diff second_diff first_true.is_true.sound second_true.is_true.sound touch _ refl bytes) (le_refl _)

-- their merge is a true log diff from 0 to 2
pub both_true : DiffOf worked false 0 2 both_diff
both_true =
    let m = merge_true worked first_diff second_diff _ first_true.is_true second_true.is_true both_merged in
    record { is_true = m.is_true; kind = rw m.log; from = m.p ∙ first_true.from; to = m.q ∙ second_true.to }

-- block 0 came back to what it was
pub came_back : block (worked.image 2) 0 ≡ block (worked.image 0) 0
unfolding number_at after_step
came_back = filled_block 2 _ _ 0 λ l. refl

-- and the merge names it all the same
pub both_names : named both_diff 0 ≡ some (block (worked.image 2) 0)
unfolding true_map logged writes_in puts
both_names = both_true.is_true.names 0 ∙ rw (both_true.kind, both_true.from, both_true.to)

-- ---- each move is accepted

-- the cut keeps the length
cut_length : length cut_image ≡ 1024
unfolding cut_image
cut_length = (partly_mixed 256 (worked.image 0) _).long ∙ filled_length 2 _

-- the move that is cut
start_accepts : decide first_diff start.saved start.image ≡ answer (record { while = pair 0 1; done = clean 1 })
unfolding decide_on exact is_clean is_pair_while while_state done_state
start_accepts =
    decide_true worked (omega arith) (omega arith) first_diff first_true.is_true _ _ (clean 0) (settled_reads 0 0 (omega arith) (omega arith)) (filled_length 2 _)
    ∙ rw (first_true.kind, first_true.from, first_true.to)

-- While of that move is read back
pair_reads : read_state (state_bytes (pair 0 1)) ≡ answer (pair 0 1)
pair_reads = saved_reads (pair 0 1) (record { b = omega arith; t = omega arith; e = omega arith; fits = is_pair refl (omega arith) refl })

-- the move that resumes
cut_accepts : decide both_diff after_cut.saved after_cut.image ≡ answer (record { while = span 0 2 2; done = clean 2 })
unfolding decide_on exact is_clean is_pair_while while_state done_state
cut_accepts =
    decide_true worked (omega arith) (omega arith) both_diff both_true.is_true _ _ (pair 0 1) pair_reads cut_length
    ∙ rw (both_true.kind, both_true.from, both_true.to)

-- the last move
resumed_accepts : decide third_diff resumed.saved resumed.image ≡ answer (record { while = pair 2 3; done = clean 3 })
unfolding decide_on exact is_clean is_pair_while while_state done_state
resumed_accepts =
    decide_true worked (omega arith) (omega arith) third_diff third_true.is_true _ _ (clean 2) (settled_reads 2 2 (omega arith) (omega arith)) (overlay_length cut_image _ ∙ cut_length)
    ∙ rw (third_true.kind, third_true.from, third_true.to)

-- ---- the story

-- it begins with a true volume
pub start_true : TrueVolume worked start
start_true = record { state = clean 0; reads = settled_reads 0 0 (omega arith) (omega arith); holds = settled_true worked 0 0 0 (omega arith) (omega arith) (omega arith) (omega arith) }

-- the first move is a cut
pub first_cut : Cut first_diff start after_cut
unfolding cut_image
first_cut = cut_apply start_accepts (partly_mixed 256 (worked.image 0) _)

-- the merge is at hand
have_both : Have Given both_diff
have_both = by_merge (length both_diff) (given first) (given second) both_merged

-- and contains the diff that was cut
pub both_contains : Contains Given first_diff both_diff
both_contains = as_first (length both_diff) itself (given second) both_merged

-- what is accepted is done
done : {f : Further} (d state img : List ℕ) → decide d state img ≡ answer f → apply d state img ≡ answer (record { value = f.done; bytes = overlay img (named d) })
unfolding apply
done d state img e = rw e

-- cut, resumed with the merge, and then the compared diff
pub story : Story Given start (third_diff ∷ both_diff ∷ first_diff ∷ []) end
story =
    then_move
    (then_move (then_move begun (given first) (cut first_cut)) have_both (finished (at_once (done both_diff _ _ cut_accepts))))
    (given third)
    (finished (at_once (done third_diff _ _ resumed_accepts)))

-- ---- what demand 3 says of it

-- after the cut
pub cut_holds : Holds worked Given start (first_diff ∷ []) after_cut
cut_holds = demand_three worked Given start after_cut _ given_true start_true (then_move begun (given first) (cut first_cut))

-- block 1, which the first diff does not name, is as it was
pub cut_untouched : block after_cut.image 1 ≡ block start.image 1
unfolding true_map logged writes_in puts
cut_untouched = cut_holds.untouched 1 (first_true.is_true.names 1 ∙ rw (first_true.kind, first_true.from, first_true.to), tt)

-- the merge is accepted
pub cut_goes_on : IsAccepted both_diff after_cut
cut_goes_on = (demand_three worked Given start start [] given_true start_true begun).goes_on (given first) first_cut both_contains

-- at the end
pub end_holds : Holds worked Given start (third_diff ∷ both_diff ∷ first_diff ∷ []) end
end_holds = demand_three worked Given start end _ given_true start_true story

-- the state that is saved is clean at 3
pub end_clean : read_state end.saved ≡ answer (clean 3)
end_clean = settled_reads 3 3 (omega arith) (omega arith)

-- and the image is H(3), byte for byte
pub end_image : end.image ≡ worked.image 3
unfolding is_clean
end_image = end_holds.clean_means (clean 3) end_clean refl

-- ---- the cut is a real one

-- block 0 before
old_byte : (i : ℕ) → i < 512 → get_or (worked.image 0) i 0 ≡ 10
unfolding number_at
old_byte i l = let e : i / 512 ≡ 0 = omega arith in filled_at 2 _ i (omega arith) ∙ rw e

-- and after
new_byte : (i : ℕ) → i < 512 → get_or (overlay (worked.image 0) (named first_diff)) i 0 ≡ 11
unfolding true_map logged writes_in puts number_at after_step
new_byte i l =
    let img = worked.image 0 in
    let k : i / 512 ≡ 0 = omega arith in
    let z : (512 * 0 + i % 512) / 512 ≡ 0 = omega arith in
    let long : length img ≡ 1024 = filled_length 2 _ in
    let n : named first_diff 0 ≡ some (block (worked.image 1) 0) = first_true.is_true.names 0 ∙ rw (first_true.kind, first_true.from, first_true.to) in
    overlay_at img (named first_diff) i (omega arith)
    ∙ rw (k, n) (block_at (worked.image 1) 0 (i % 512) (omega arith) ∙ filled_at 2 _ _ (omega arith) ∙ rw z)

-- the first half of it is new, the second old
cut_byte : (i : ℕ) → i < 512 → get_or cut_image i 0 ≡ cond (ltb i 256) 11 10
unfolding cut_image
cut_byte i l =
    let long : length (worked.image 0) ≡ 1024 = filled_length 2 _ in
    partly_at 256 (worked.image 0) _ i (omega arith) ∙ rw (new_byte i l, old_byte i l)

-- the image is not the old one
pub cut_not_old : ¬ (cut_image ≡ worked.image 0)
cut_not_old e = omega (arith, cut_byte 0 (omega arith), old_byte 0 (omega arith), ap (λ (img : List ℕ). get_or img 0 0) e)

-- nor the new one
pub cut_not_new : ¬ (cut_image ≡ overlay (worked.image 0) (named first_diff))
cut_not_new e = omega (arith, cut_byte 256 (omega arith), new_byte 256 (omega arith), ap (λ (img : List ℕ). get_or img 256 0) e)

-- ---- in runs

-- the merge has a record, that of block 0
both_some : 1 ≤ both_true.is_true.head.n
both_some = omega (arith, (named_sound (sound both_true.is_true.sound) 0 both_names).sought.below)

-- one record, and then all the others
abbrev pub stretches : List Stretch
stretches = record { first = 0; number = 1 } ∷ record { first = 1; number = 65536 } ∷ []

-- they cover all that a diff can have
covered : (j : ℕ) → j < 65537 → covers stretches j ≡ true
unfolding covers
covered j l = elim (dec_lt j 1) [
  | yes k ↦ rw (le-leb 0 j (omega arith), lt-ltb j 1 k)
  | no k ↦ rw (le-leb 0 j (omega arith), le-ltb j 1 (omega arith), le-leb 1 j (omega arith), lt-ltb j 65537 (omega arith))
]

-- what a run of the merge gives
abbrev pub ran : List ℕ → ℕ → ℕ → Wrote ℕ
ran img i k = record {
  value = run_end both_true.is_true.head i k;
  bytes = overlay img (named_by both_diff i (run_end both_true.is_true.head i k - i));
}

-- the first run at the volume that was cut, and the second after it
abbrev pub first_run : Wrote ℕ
first_run = ran cut_image 0 1

abbrev pub second_run : Wrote ℕ
second_run = ran first_run.bytes 1 65536

-- the first is accepted
first_runs : run both_diff cut_image 0 1 ≡ answer first_run
first_runs = run_true worked (omega arith) (omega arith) both_diff both_true.is_true cut_image 0 1 cut_length (omega arith)

-- and the second
second_runs : run both_diff first_run.bytes 1 65536 ≡ answer second_run
second_runs =
    run_true worked (omega arith) (omega arith) both_diff both_true.is_true first_run.bytes 1 65536 (overlay_length cut_image _ ∙ cut_length) both_some

-- so the move that resumes may as well be done in runs: they leave what the merge leaves at once
pub resumed_in_runs : Finish both_diff after_cut resumed
resumed_in_runs =
    let s = sound both_true.is_true.sound in
    let few = s.few in
    let rs : Runs both_diff stretches cut_image second_run.bytes = one_more {w = first_run} first_runs (one_more {w = second_run} second_runs no_run) in
    let same = runs_as_apply s (λ j l. covered j (omega arith)) rs in
    in_runs cut_accepts (rw same at rs) λ j l. covered j (omega (arith, rw s.head at few))

-- or be cut once more, within its second run
pub cut_in_run : Cut both_diff after_cut (record { saved = state_bytes (span 0 2 2); image = partly 700 first_run.bytes second_run.bytes })
cut_in_run =
    cut_run (record { first = 1; number = 65536 }) cut_accepts
    (one_more {r = record { first = 0; number = 1 }} {w = first_run} first_runs no_run)
    second_runs
    (partly_mixed 700 first_run.bytes second_run.bytes)
