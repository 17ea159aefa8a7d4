-- What an accepted apply means, by cases, and that its two further states are sound.
use Prim.Native.Nat.{◌≤◌, ◌<◌}
use mathlib.Core.Path.{◌≡◌, refl, sym}
use mathlib.Core.Bool.{true, false, ◌&&◌, ◌||◌, or-true}
use native.Mathlib.Omega.{arith}
use lib.Dec.{eqb}
use borrow.Author.Tests.{ltb-false, leb-false, eqb-true, not-false, lt-leb, le-ltb, eq-eqb}
use Rattle.paper.specs.Limits.{max_gid}
use Rattle.paper.specs.Answer.{answer, Behind, Gap, Short, NotExact}
use Rattle.paper.specs.Diff.{Head, is_compared}
use Rattle.paper.specs.State.{State, is_clean}
use Rattle.paper.specs.Volume.{Further, behind, gap, short, exact, not_exact, is_pair_while, while_state, done_state, decide_on}
use Rattle.paper.proofs.Answers.{answer_injective, guard_answer}
use Rattle.paper.proofs.Bools.{Which, holds, fails, which, and_true_left, and_true_right}
use Rattle.paper.proofs.States.{FitsKind, is_settled, is_span, is_pair, GoodState, clean_of}

-- the two further states of an apply of a diff with head h at state s
abbrev pub further : Head → State → Further
further h s = record { while = while_state h s; done = done_state h s }

-- why a diff may be applied: it is a log diff, or a compared diff that starts where the volume stands clean, or the pair's own
pub data Why (h : Head) (s : State) : Type 0 where
  log : is_compared h ≡ false → Why h s
  from_clean : is_compared h ≡ true → h.p ≡ s.b → is_clean s ≡ true → Why h s
  from_pair : is_compared h ≡ true → h.p ≡ s.b → s.kind ≡ 2 → h.q ≡ s.t → Why h s

-- rules 11 to 14 passed
pub record Accepted (h : Head) (s : State) : Type 0 where
  pub ahead : s.b < h.q
  pub meets : h.p ≤ s.b
  pub long : s.t ≤ h.q
  pub why : Why h s

pub why_of : (h : Head) (s : State) → not_exact h s ≡ false → Why h s
unfolding exact
why_of h s n = go (which (is_compared h))
  where
    inner : is_compared h ≡ true → h.p ≡ s.b → Which (is_clean s) → (is_clean s || (eqb s.kind 2 && eqb h.q s.t)) ≡ true → Why h s
    inner c p (holds y) o = from_clean c p y
    inner c p (fails y) o =
        let o' : (eqb s.kind 2 && eqb h.q s.t) ≡ true = rw y at o in
        from_pair c p (eqb-true _ _ (and_true_left _ _ o')) (eqb-true _ _ (and_true_right (eqb s.kind 2) _ o'))

    go : Which (is_compared h) → Why h s
    go (fails c) = log c
    go (holds c) =
        let x : exact h s ≡ true = not-false _ (rw c at n) in
        inner c (eqb-true _ _ (and_true_left _ _ x)) (which (is_clean s)) (and_true_right (eqb h.p s.b) _ x)

pub why_back : (h : Head) (s : State) → Why h s → not_exact h s ≡ false
unfolding exact
why_back h s (log c) = rw c
why_back h s (from_clean c p y) = rw (c, eq-eqb _ _ p, y)
why_back h s (from_pair c p k q) = rw (c, eq-eqb _ _ p, eq-eqb s.kind 2 k, eq-eqb h.q s.t q, or-true)

-- an answer of `decide_on` is the two further states, and rules 11 to 14 passed
pub record Decided (h : Head) (s : State) (f : Further) : Type 0 where
  pub accepted : Accepted h s
  pub gives : f ≡ further h s

pub decided : (h : Head) (s : State) (f : Further) → decide_on h s ≡ answer f → Decided h s f
unfolding decide_on
decided h s f e =
    let c₁ = guard_answer (behind h s) Behind _ e in
    let c₂ = guard_answer (gap h s) Gap _ c₁.onward in
    let c₃ = guard_answer (short h s) Short _ c₂.onward in
    let c₄ = guard_answer (not_exact h s) NotExact _ c₃.onward in
    record {
      accepted = record {
        ahead = leb-false _ _ c₁.clear;
        meets = ltb-false _ _ c₂.clear;
        long = ltb-false _ _ c₃.clear;
        why = why_of h s c₄.clear;
      };
      gives = sym (answer_injective c₄.onward);
    }

pub accepts : (h : Head) (s : State) → Accepted h s → decide_on h s ≡ answer (further h s)
unfolding decide_on
accepts h s a = rw (lt-leb h.q s.b a.ahead, le-ltb s.b h.p a.meets, le-ltb h.q s.t a.long, why_back h s a.why)

-- what a pair comes from: a clean state, or a pair that is taken up again to the same end
pub data PairFrom (h : Head) (s : State) : Type 0 where
  was_clean : is_clean s ≡ true → PairFrom h s
  same_pair : s.kind ≡ 2 → h.q ≡ s.t → PairFrom h s

pub pair_from : (h : Head) (s : State) → Accepted h s → is_pair_while h s ≡ true → PairFrom h s
unfolding is_pair_while
pair_from h s a y = go a.why
  where
    go : Why h s → PairFrom h s
    go (log c) = was_clean (rw c at y)
    go (from_clean c p k) = was_clean k
    go (from_pair c p k q) = same_pair k q

-- then no byte is ahead of q
pub pair_top : (h : Head) (s : State) → Accepted h s → FitsKind s → PairFrom h s → s.e ≤ h.q
pair_top h s a f (was_clean y) = let c = clean_of s y in omega (arith, c.ends, a.ahead)
pair_top h s a (is_settled k t e) (same_pair m q) = omega arith
pair_top h s a (is_span k t e) (same_pair m q) = omega arith
pair_top h s a (is_pair k t e) (same_pair m q) = omega arith

-- While is sound, and so is Done
pub while_good : (h : Head) (s : State) → h.q ≤ max_gid → GoodState s → Accepted h s → GoodState (while_state h s)
unfolding while_state
while_good h s l g a = record { b = g.b; t = l; e = omega (arith, g.e); fits = fits (which (is_pair_while h s)) }
  where
    fits : Which (is_pair_while h s) → FitsKind (while_state h s)
    fits (holds y) = let top = pair_top h s a g.fits (pair_from h s a y) in is_pair (rw y) a.ahead (omega arith)
    fits (fails n) = is_span (rw n) a.ahead (omega arith)

pub done_good : (h : Head) (s : State) → h.q ≤ max_gid → GoodState s → GoodState (done_state h s)
unfolding done_state
done_good h s l g = record { b = l; t = l; e = omega (arith, g.e); fits = is_settled refl refl (omega arith) }
