-- What the check of a diff answers, case by case: the head's refusal; where the head passes, the length's; then that of the records.
use Prim.Native.Nat.{ℕ, ◌≤◌, ◌<◌}
use mathlib.Core.Path.{◌≡◌}
use mathlib.Core.List.{List}
use native.Mathlib.Omega.{arith}
use lib.ListN.{length}
use borrow.Author.Tests.{lt-ltb, le-ltb}
use Rattle.paper.specs.Answer.{answer, refuse, CutOff, Tail}
use Rattle.paper.specs.Diff.{Head, diff_size, check_records, read_head, check}

module _ (d : List ℕ) where
  -- the head is refused
  pub head_no : (k : ℕ) → read_head d ≡ refuse k → refuse k ≡ check d
  unfolding check
  head_no k e = rw e

  module _ (h : Head) (passed : read_head d ≡ answer h) where
    pub too_short : length d < diff_size h → refuse CutOff ≡ check d
    unfolding check
    too_short l = rw (passed, lt-ltb (length d) (diff_size h) l)

    pub too_long : diff_size h < length d → refuse Tail ≡ check d
    unfolding check
    too_long l = rw (passed, le-ltb (length d) (diff_size h) (omega arith), lt-ltb (diff_size h) (length d) l)

    pub record_no : (k : ℕ) → diff_size h ≤ length d → length d ≤ diff_size h → check_records d 0 h.n 0 ≡ refuse k → refuse k ≡ check d
    unfolding check
    record_no k l m e = rw (passed, le-ltb (length d) (diff_size h) l, le-ltb (diff_size h) (length d) m, e)

    pub all_sound : diff_size h ≤ length d → length d ≤ diff_size h → check_records d 0 h.n 0 ≡ answer tt → answer h ≡ check d
    unfolding check
    all_sound l m e = rw (passed, le-ltb (length d) (diff_size h) l, le-ltb (diff_size h) (length d) m, e)
