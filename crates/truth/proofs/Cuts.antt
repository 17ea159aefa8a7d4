-- Right after a cut the diff that was cut is accepted, and so is any merge that contains it: it starts no later and ends no earlier,
-- it is true, and so names no block outside. A compared diff is contained in itself alone, and While is then the pair that it asks for.
use Prim.Native.Nat.{ℕ, ◌≤◌}
use mathlib.Core.Path.{◌≡◌, refl, ◌∙◌}
use mathlib.Core.List.{List}
use mathlib.Core.Bool.{true, false}
use mathlib.Core.Logic.{◌⊎◌, inl, inr}
use native.Mathlib.Omega.{arith}
use Rattle.paper.specs.Answer.{answer}
use Rattle.paper.specs.Image.{check_image}
use Rattle.paper.specs.Diff.{Head, is_compared, names_outside}
use Rattle.paper.specs.State.{State}
use Rattle.paper.specs.Volume.{is_pair_while, while_state}
use Rattle.paper.specs.History.{History, TrueDiff}
use Rattle.paper.proofs.Images.{image_blocks, same_length_image}
use Rattle.paper.proofs.Check.{sound, good_head}
use Rattle.paper.proofs.Names.{outside_names}
use Rattle.paper.proofs.Decisions.{Why, log, from_clean, from_pair, Accepted}
use Rattle.paper.proofs.Applies.{decides, decide_accepts}
use Rattle.paper.proofs.Truth.{true_inside}
use Rattle.truth.specs.Story.{Volume, TrueVolume, IsAccepted}
use Rattle.truth.proofs.Moves.{CutLeaves, accepted_of, cut_reads}

-- a true diff that starts no later than h and ends no earlier: a log diff, or h itself
pub record Wider (H : History) (h : Head) (w : List ℕ) : Type 0 where
  pub is_true : TrueDiff H w
  pub starts : is_true.head.p ≤ h.p
  pub ends : h.q ≤ is_true.head.q
  pub kind : (is_compared is_true.head ≡ false) ⊎ (is_true.head ≡ h)

module _ (H : History) (d : List ℕ) (t : TrueDiff H d) (v : Volume) (true_v : TrueVolume H v) {y : Volume} (c : CutLeaves d v y) where
  s : State
  s = true_v.state

  accepted : Accepted t.head s
  unfolding s
  accepted = (accepted_of H d t v true_v c.decides).0

  -- the wider diff is accepted at While
  why : (w : List ℕ) (x : Wider H t.head w) → Why x.is_true.head (while_state t.head s)
  unfolding while_state is_pair_while s
  why w x = go x.kind
    where
      pair_again : is_compared t.head ≡ true → t.head.p ≡ s.b → x.is_true.head ≡ t.head → Why x.is_true.head (while_state t.head s)
      pair_again k p e = rw e (from_pair k p (rw k) refl)

      same : x.is_true.head ≡ t.head → Why t.head s → Why x.is_true.head (while_state t.head s)
      same e (log k) = log (rw e k)
      same e (from_clean k p z) = pair_again k p e
      same e (from_pair k p z q) = pair_again k p e

      go : (is_compared x.is_true.head ≡ false) ⊎ (x.is_true.head ≡ t.head) → Why x.is_true.head (while_state t.head s)
      go (inl k) = log k
      go (inr e) = same e accepted.why

  at_while : (w : List ℕ) (x : Wider H t.head w) → Accepted x.is_true.head (while_state t.head s)
  unfolding while_state
  at_while w x =
      record {
        ahead = omega (arith, accepted.ahead, x.ends);
        meets = omega (arith, accepted.meets, x.starts);
        long = x.ends;
        why = why w x;
      }

  -- a wider diff is accepted by the volume that the cut leaves
  pub wider_accepted : (w : List ℕ) → Wider H t.head w → IsAccepted w y
  unfolding s
  wider_accepted w x =
      let a = (decides d v.saved v.image c.decides).applies in
      let whole : check_image y.image ≡ answer a.blocks = same_length_image _ _ c.mixed.long ∙ a.image in
      let m = image_blocks v.image a.image in
      let long = true_v.holds.long in
      let blocks : a.blocks ≡ H.blocks = omega arith in
      let u = x.is_true in
      let good = good_head (sound u.sound).good in
      let inside : names_outside w 0 u.head.n a.blocks ≡ false =
      (outside_names (sound u.sound) a.blocks).1 (λ b k e. rw blocks (true_inside H w u good.grows b k e)) in
      record {
        states = _;
        decides = decide_accepts w y.saved y.image
            (record {
              head = u.head;
              from = while_state t.head s;
              blocks = a.blocks;
              diff = u.sound;
              reads = cut_reads H d t v true_v c;
              image = whole;
              inside = inside;
              accepted = at_while w x;
            });
      }
