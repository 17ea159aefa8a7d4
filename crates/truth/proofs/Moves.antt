-- One move keeps a volume true: it is a finished apply, whose image is the overlay of the diff's map, or a cut one, whose image is a mix.
-- Runs leave one or the other.
use Prim.Native.Nat.{ℕ}
use mathlib.Core.Path.{◌≡◌, refl, sym, ap, ◌∙◌}
use mathlib.Core.Option.{none}
use mathlib.Core.List.{List}
use mathlib.Core.Logic.{inl}
use Rattle.paper.specs.Answer.{answer}
use Rattle.paper.specs.Image.{block, overlay}
use Rattle.paper.specs.Diff.{Head, check, named}
use Rattle.paper.specs.State.{state_bytes, read_state}
use Rattle.paper.specs.Volume.{Further, while_state, done_state, decide}
use Rattle.paper.specs.History.{History, TrueDiff, Mixed}
use Rattle.paper.proofs.Answers.{answer_injective}
use Rattle.paper.proofs.Check.{sound, GoodHead, good_head}
use Rattle.paper.proofs.Overlay.{unnamed_stays, mixed_stays}
use Rattle.paper.proofs.Runs.{runs_as_apply, runs_mixed, cut_run_mixed}
use Rattle.paper.proofs.States.{GoodState}
use Rattle.paper.proofs.Saved.{read_good, saved_reads}
use Rattle.paper.proofs.Decisions.{Accepted, further, while_good, done_good}
use Rattle.paper.proofs.Applies.{Applies, decides, does}
use Rattle.paper.proofs.Truth.{done_true, while_true}
use Rattle.truth.specs.Story.{Volume, TrueVolume, Cut, cut_apply, cut_run, Finish, at_once, in_runs, Move, finished, cut}

-- no byte has moved yet
all_old : (old new : List ℕ) → Mixed old new old
all_old old new = record { long = refl; bytes = λ i l. inl refl }

-- a cut leaves a mix of the old image and the new one, and While saved
pub record CutLeaves (d : List ℕ) (v w : Volume) : Type 0 where
  pub states : Further
  pub decides : decide d v.saved v.image ≡ answer states
  pub saved : w.saved ≡ state_bytes states.while
  pub mixed : Mixed v.image (overlay v.image (named d)) w.image

pub cut_leaves : {d : List ℕ} {v w : Volume} {h : Head} → check d ≡ answer h → Cut d v w → CutLeaves d v w
cut_leaves c (cut_apply {f} e m) = record { states = f; decides = e; saved = refl; mixed = m }
cut_leaves {v = v} c (cut_run {f} {mid = mid} {now = now} r e rs one m) =
    record {
      states = f;
      decides = e;
      saved = refl;
      mixed = cut_run_mixed (sound c) v.image mid now r (runs_mixed (sound c) (all_old _ _) rs) one m;
    }

-- a finished apply leaves the new image, and Done saved
pub record FinishLeaves (d : List ℕ) (v w : Volume) : Type 0 where
  pub states : Further
  pub decides : decide d v.saved v.image ≡ answer states
  pub saved : w.saved ≡ state_bytes states.done
  pub written : w.image ≡ overlay v.image (named d)

pub finish_leaves : {d : List ℕ} {v w : Volume} {h : Head} → check d ≡ answer h → Finish d v w → FinishLeaves d v w
finish_leaves {d} {v} c (at_once e) =
    let o = does d v.saved v.image e in
    record { states = o.both; decides = o.decides; saved = ap state_bytes o.value; written = o.bytes }
finish_leaves c (in_runs {f} e rs all) =
    let s = sound c in
    record { states = f; decides = e; saved = refl; written = runs_as_apply s (rw s.head all) rs }

module _ (H : History) (d : List ℕ) (t : TrueDiff H d) (v : Volume) (true_v : TrueVolume H v) where
  -- what is decided is decided of the diff's own head and the saved state
  same_head : (a : Applies d v.saved v.image) → a.head ≡ t.head
  same_head a = answer_injective (sym a.diff ∙ t.sound)

  same_state : (a : Applies d v.saved v.image) → a.from ≡ true_v.state
  same_state a = answer_injective (sym a.reads ∙ true_v.reads)

  head_good : GoodHead t.head
  head_good = good_head (sound t.sound).good

  state_good : GoodState true_v.state
  state_good = read_good v.saved true_v.reads

  -- the apply at the saved state
  pub accepted_of : {f : Further} → decide d v.saved v.image ≡ answer f → Accepted t.head true_v.state × (f ≡ further t.head true_v.state)
  accepted_of e =
      let c = decides d v.saved v.image e in
      let a = c.applies in
      (rw (same_head a, same_state a) at a.accepted, rw (same_head a, same_state a) at c.gives)

  -- after a cut While is read
  pub cut_reads : {w : Volume} → CutLeaves d v w → read_state w.saved ≡ answer (while_state t.head true_v.state)
  cut_reads c =
      let (a, g) = accepted_of c.decides in
      rw (c.saved, g) (saved_reads _ (while_good t.head true_v.state head_good.q state_good a))

  pub cut_true : {w : Volume} → CutLeaves d v w → TrueVolume H w
  cut_true {w} c =
      let s = true_v.state in
      let a = (accepted_of c.decides).0 in
      record {
        state = while_state t.head s;
        reads = cut_reads c;
        holds = while_true H t.head s a state_good head_good.q t.within (named d) t.names v.image true_v.holds w.image c.mixed;
      }

  pub finish_true : {w : Volume} → FinishLeaves d v w → TrueVolume H w
  finish_true {w} c =
      let (a, g) = accepted_of c.decides in
      let s = true_v.state in
      let good = done_good t.head s head_good.q state_good in
      record {
        state = done_state t.head s;
        reads = rw (c.saved, g) (saved_reads _ good);
        holds = rw c.written (done_true H t.head s a state_good head_good.q t.within (named d) t.names v.image true_v.holds);
      }

  pub move_true : {w : Volume} → Move d v w → TrueVolume H w
  move_true (finished f) = finish_true (finish_leaves t.sound f)
  move_true (cut c) = cut_true (cut_leaves t.sound c)

-- a move leaves the blocks that its diff does not name
pub move_untouched : {d : List ℕ} {v w : Volume} {h : Head} → check d ≡ answer h → Move d v w → (a : ℕ) → named d a ≡ none → block w.image a ≡ block v.image a
move_untouched {d} {v} c (finished f) a n = rw (finish_leaves c f).written (unnamed_stays v.image (named d) a n)
move_untouched {d} {v} {w} c (cut k) a n = mixed_stays v.image (named d) w.image a (cut_leaves c k).mixed n
