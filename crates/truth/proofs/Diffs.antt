-- True diffs exist for every history within 01's limits: the bytes written for what the history says pass the check and mean just that.
-- A block that is named lies inside and is a whole block of H(q), so the map is one that a diff can mean.
use Prim.Native.Nat.{ℕ, ◌-◌, ◌*◌, ◌≤◌, ◌<◌}
use mathlib.Core.Path.{◌≡◌, refl, sym, ◌∙◌}
use mathlib.Core.Option.{none, some}
use mathlib.Core.List.{List}
use mathlib.Core.Bool.{Bool, true, false}
use native.Mathlib.Omega.{arith}
use lib.ListN.{length}
use Rattle.paper.specs.Limits.{max_gid, max_blocks, block_bytes}
use Rattle.paper.specs.Image.{block}
use Rattle.paper.specs.Diff.{Head, is_compared, log_head, compared_head, bad_head, counted}
use Rattle.paper.specs.Compare.{differing}
use Rattle.paper.specs.History.{History, writes_in, logged, true_map, TrueDiff}
use Rattle.paper.proofs.Bools.{Which, holds, fails, which}
use Rattle.paper.proofs.Images.{WholeImage, block_whole}
use Rattle.paper.proofs.Check.{good_passes}
use Rattle.paper.proofs.Names.{Fits}
use Rattle.paper.proofs.Meaning.{reads_back_check, reads_back_map}
use Rattle.paper.proofs.Comparing.{differing_fits}
use Rattle.paper.proofs.Histories.{written_inside}
use Rattle.truth.specs.Made.{log_diff, compared_diff}

-- a true diff from p to q, compared or log
pub record DiffOf (H : History) (compared : Bool) (p q : ℕ) (d : List ℕ) : Type 0 where
  pub is_true : TrueDiff H d
  pub kind : is_compared is_true.head ≡ compared
  pub from : is_true.head.p ≡ p
  pub to : is_true.head.q ≡ q

-- 1 to 65,536 whole blocks are an image
pub whole_of : (img : List ℕ) (n : ℕ) → length img ≡ block_bytes * n → 1 ≤ n → n ≤ max_blocks → WholeImage img
whole_of img n e l m = record { some_block = omega arith; blocks = rw e (omega arith); few = omega arith }

module _ (H : History) (some_block : 1 ≤ H.blocks) (few : H.blocks ≤ max_blocks) (gids : H.last ≤ max_gid)
    (p q : ℕ) (grows : p < q) (within : q ≤ H.last) where
  -- what is logged from p to q can be written
  logged_fits : Fits (logged H p q)
  unfolding logged
  logged_fits = record { within = λ a c e. omega (arith, (inside a c (which (writes_in H p (q - p) a)) e).0); whole = λ a c e. (inside a c (which (writes_in H p (q - p) a)) e).1 }
    where
      inside : (a : ℕ) (c : List ℕ) → Which (writes_in H p (q - p) a) → logged H p q a ≡ some c → (a < H.blocks) × (length c ≡ block_bytes)
      inside a c (fails y) e = let e' : none ≡ some c = rw y at e in let z : ◌≡◌ {A = ℕ} 0 1 = cc in absurd (omega arith)
      inside a c (holds y) e =
          let e' : some (block (H.image q) a) ≡ some c = rw y at e in
          let c_is : c ≡ block (H.image q) a = cc in
          let k = written_inside H (q - p) p q a (omega arith) within y in
          (k, rw c_is (block_whole (H.image q) a (omega (arith, H.long q within))))

  -- a head from p to q is good
  good : (h : Head) → h.kind ≤ 1 → h.spare ≡ 0 → h.p ≡ p → h.q ≡ q → bad_head h ≡ false
  good h k s x y = good_passes (record { kind = k; spare = s; p = omega arith; q = omega arith; grows = omega arith })

  -- the log diff from p to q is true
  pub log_true : DiffOf H false p q (log_diff H p q)
  unfolding true_map counted
  log_true =
      let g = good (log_head p q) (omega arith) refl refl refl in
      let t : TrueDiff H (log_diff H p q) = record {
        head = counted (log_head p q) (logged H p q);
        sound = reads_back_check _ _ g logged_fits;
        within = within;
        names = reads_back_map _ _ g logged_fits;
      } in
      record { is_true = t; kind = refl; from = refl; to = refl }

  -- the compared diff from p to q is true
  pub compared_true : DiffOf H true p q (compared_diff H p q)
  unfolding true_map counted
  compared_true =
      let long = H.long q within in
      let g = good (compared_head p q) (omega arith) refl refl refl in
      let fits = differing_fits (H.image p) (H.image q) (whole_of (H.image q) H.blocks long some_block few) (H.long p (omega arith) ∙ sym long) in
      let t : TrueDiff H (compared_diff H p q) = record {
        head = counted (compared_head p q) (differing (H.image p) (H.image q));
        sound = reads_back_check _ _ g fits;
        within = within;
        names = reads_back_map _ _ g fits;
      } in
      record { is_true = t; kind = refl; from = refl; to = refl }
