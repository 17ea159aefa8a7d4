-- A true diff at a true volume: it passes the check, the state is read, the image is whole and no block named lies outside it.
-- So `decide` says what rules 11 to 14 say of the head and the state, and no more.
use Prim.Native.Nat.{ℕ, ◌-◌, ◌*◌, ◌≤◌}
use mathlib.Core.Path.{◌≡◌, refl, ap}
use mathlib.Core.List.{List}
use mathlib.Core.Bool.{false}
use native.Mathlib.Omega.{arith}
use borrow.Author.Tests.{le-ltb}
use lib.ListN.{length}
use Rattle.paper.specs.Limits.{max_gid, max_blocks, block_bytes}
use Rattle.paper.specs.Answer.{answer}
use Rattle.paper.specs.Image.{check_image, overlay}
use Rattle.paper.specs.Diff.{named_by, names_outside}
use Rattle.paper.specs.State.{State, settled, state_bytes, read_state}
use Rattle.paper.specs.Volume.{decide_on, decide, run_end, run}
use Rattle.paper.specs.History.{History, TrueDiff, TrueState, of_span}
use Rattle.paper.proofs.Images.{whole_passes}
use Rattle.paper.proofs.Check.{sound, good_head}
use Rattle.paper.proofs.Names.{outside_names}
use Rattle.paper.proofs.States.{is_settled, GoodState, good_back}
use Rattle.paper.proofs.Saved.{saved_reads}
use Rattle.paper.proofs.Truth.{true_inside}
use Rattle.truth.proofs.Diffs.{whole_of}

-- an image of n blocks passes
pub image_passes : (img : List ℕ) (n : ℕ) → length img ≡ block_bytes * n → 1 ≤ n → n ≤ max_blocks → check_image img ≡ answer n
unfolding check_image
image_passes img n e l m = rw (whole_passes (whole_of img n e l m)) (ap answer (rw e (omega arith)))

module _ (H : History) (some_block : 1 ≤ H.blocks) (few : H.blocks ≤ max_blocks) (d : List ℕ) (t : TrueDiff H d) where
  -- no block named lies outside
  all_inside : names_outside d 0 t.head.n H.blocks ≡ false
  all_inside =
      let s = sound t.sound in
      (outside_names s H.blocks).1 (true_inside H d t (good_head s.good).grows)

  -- what is decided of a true diff, where a state is read and the image has the history's length
  pub decide_true : (saved img : List ℕ) (s : State) → read_state saved ≡ answer s → length img ≡ block_bytes * H.blocks
      → decide d saved img ≡ decide_on t.head s
  unfolding decide
  decide_true saved img s reads long = rw (t.sound, reads, image_passes img H.blocks long some_block few, all_inside)

  -- what a run of it gives, from one of its records on
  pub run_true : (img : List ℕ) (i k : ℕ) → length img ≡ block_bytes * H.blocks → i ≤ t.head.n
      → run d img i k ≡ answer (record { value = run_end t.head i k; bytes = overlay img (named_by d i (run_end t.head i k - i)) })
  unfolding run
  run_true img i k long l = rw (t.sound, image_passes img H.blocks long some_block few, all_inside, le-ltb t.head.n i l)

-- a settled state is a state
pub settled_good : (b e : ℕ) → b ≤ e → e ≤ max_gid → GoodState (settled b e)
settled_good b e l m = record { b = omega arith; t = omega arith; e = m; fits = is_settled refl refl l }

-- and is read back
pub settled_reads : (b e : ℕ) → b ≤ e → e ≤ max_gid → read_state (state_bytes (settled b e)) ≡ answer (settled b e)
settled_reads b e l m = saved_reads (settled b e) (settled_good b e l m)

-- settled from b to e is true of H(u), where u is one of b .. e
pub settled_true : (H : History) (b u e : ℕ) → b ≤ u → u ≤ e → e ≤ H.last → e ≤ max_gid → TrueState H (settled b e) (H.image u)
settled_true H b u e l m n o =
    record {
      legal = good_back _ (settled_good b e (omega arith) o);
      long = H.long u (omega arith);
      within = n;
      bytes = λ i k. of_span (omega arith) u l m refl;
    }
