-- What deciding and the lag answer, case by case: the first check that refuses, and where none does, the further states or the difference.
use Prim.Native.Nat.{ℕ, ◌≤◌, ◌<◌}
use mathlib.Core.Path.{◌≡◌, sym}
use mathlib.Core.List.{List}
use mathlib.Core.Bool.{true, false}
use lib.IntN.{pos, ◌-ℤ◌}
use borrow.Author.Tests.{le-leb, lt-leb, lt-ltb, le-ltb}
use Rattle.paper.specs.Limits.{max_gid}
use Rattle.paper.specs.Answer.{answer, refuse, ◌then◌, Behind, Gap, Short, NotExact, BadGid}
use Rattle.paper.specs.Diff.{Head, is_compared, check}
use Rattle.paper.specs.State.{State, read_state}
use Rattle.paper.specs.Volume.{exact, not_exact, while_state, done_state, decide_on, decide, lag}
use Rattle.record.specs.Records.{fits}
use Rattle.record.proofs.Passing.{fits_then}

-- ---- rules 11 to 14

module _ (h : Head) (s : State) where
  pub behind_no : h.q ≤ s.b → refuse Behind ≡ decide_on h s
  unfolding decide_on
  behind_no l = rw (le-leb h.q s.b l)

  module _ (ahead : s.b < h.q) where
    pub gap_no : s.b < h.p → refuse Gap ≡ decide_on h s
    unfolding decide_on
    gap_no l = rw (lt-leb h.q s.b ahead, lt-ltb s.b h.p l)

    module _ (meets : h.p ≤ s.b) where
      pub short_no : h.q < s.t → refuse Short ≡ decide_on h s
      unfolding decide_on
      short_no l = rw (lt-leb h.q s.b ahead, le-ltb s.b h.p meets, lt-ltb h.q s.t l)

      pub exact_no : s.t ≤ h.q → is_compared h ≡ true → exact h s ≡ false → refuse NotExact ≡ decide_on h s
      unfolding decide_on
      exact_no long c x = rw (lt-leb h.q s.b ahead, le-ltb s.b h.p meets, le-ltb h.q s.t long, c, x)

      -- where none refuses, w and z that are the further states are the answer
      pub all_passed : {w z : State} → s.t ≤ h.q → not_exact h s ≡ false → w ≡ while_state h s → z ≡ done_state h s
          → answer (record { while = w; done = z }) ≡ decide_on h s
      unfolding decide_on
      all_passed long x e f = rw (lt-leb h.q s.b ahead, le-ltb s.b h.p meets, le-ltb h.q s.t long, x, e, f)

-- ---- the checks before them

-- the diff's refusal is the first
pub diff_no : (d saved img : List ℕ) (k : ℕ) → refuse k ≡ check d → refuse k ≡ decide d saved img
unfolding decide
diff_no d saved img k e = rw (sym e)

-- where the diff has passed and the state is read, the image decides, and then the values
pub then_image : (d saved img : List ℕ) (h : Head) (s : State) → check d ≡ answer h → read_state saved ≡ answer s → decide d saved img ≡ (fits d h.n img then λ m. decide_on h s)
unfolding decide
then_image d saved img h s e f = rw (e, f) (fits_then d h.n img (λ m. decide_on h s))

-- ---- the lag

module _ (state : List ℕ) (target : ℕ) where
  module _ (s : State) (reads : read_state state ≡ answer s) where
    pub gid_no : max_gid < target → refuse BadGid ≡ lag state target
    unfolding lag
    gid_no l = rw (reads, lt-ltb max_gid target l)

    pub lag_gids : target ≤ max_gid → answer (pos s.b -ℤ pos target) ≡ lag state target
    unfolding lag
    lag_gids l = rw (reads, le-ltb max_gid target l)
