-- What a merge answers, case by case: what the check of the first diff, of the second, and 15 and 16 refuse; then 17; else the head and the records are written.
use Prim.Native.Nat.{ℕ, ◌+◌, ◌*◌, ◌≤◌, ◌<◌}
use mathlib.Core.Path.{◌≡◌, sym, ap, ◌∙◌}
use mathlib.Core.List.{List, ◌++◌}
use native.Mathlib.Omega.{arith}
use lib.ListN.{length}
use denote.Bor.{Bor}
use borrow.Author.Tests.{lt-ltb}
use Rattle.paper.specs.Limits.{max_blocks, head_size, record_size}
use Rattle.paper.specs.Answer.{answer, refuse, comes_back, over, output, NoRoom}
use Rattle.paper.specs.Diff.{Head, head_bytes, check, records_of, count_of, counted, written}
use Rattle.paper.specs.Merge.{merge_heads, merge}
use Rattle.paper.proofs.Answers.{output_fits}
use Rattle.paper.proofs.Parts.{head_length}
use Rattle.paper.proofs.Meaning.{records_length, written_length}
use Rattle.number.specs.Put.{put}
use Rattle.record.proofs.Stores.{put_next}
use Rattle.record.proofs.StateLaws.{put_first}
use Rattle.record.specs.Heads.{head}
use Rattle.merge.specs.declared.Pair.{Pair}
use Rattle.merge.specs.Walks.{both}
use Rattle.merge.proofs.Walks.{both_fits}

module _ (d₀ d₁ : List ℕ) (room : ℕ) where
  pub first_no : (k : ℕ) → check d₀ ≡ refuse k → merge d₀ d₁ room ≡ refuse k
  unfolding merge
  first_no k e = rw e

  pub second_no : (h₀ : Head) (k : ℕ) → check d₀ ≡ answer h₀ → check d₁ ≡ refuse k → merge d₀ d₁ room ≡ refuse k
  unfolding merge
  second_no h₀ k e f = rw (e, f)

-- where both diffs pass
module _ (p : Pair) {d₀ d₁ : Bor (List ℕ)} (first : p.first.d ≡ d₀) (second : p.second.d ≡ d₁) where
  pub heads_no : (room k : ℕ) → merge_heads (head p.first.h) (head p.second.h) ≡ refuse k → merge d₀.now d₁.now room ≡ refuse k
  unfolding merge
  heads_no room k e = rw (← first, ← second, p.first.sound, p.second.sound, e)

  -- and their heads, the merge is what is written
  module _ (h : Head) (heads : merge_heads (head p.first.h) (head p.second.h) ≡ answer h) (n : ℕ) (count : n ≡ count_of (both p) 0 max_blocks) (old : List ℕ) where
    abbrev whole : List ℕ
    whole = written h (both p)

    given : merge d₀.now d₁.now (length old) ≡ output whole (length old)
    unfolding merge
    given = rw (← first, ← second, p.first.sound, p.second.sound, heads)

    size : length whole ≡ head_size + record_size * n
    size = rw count (written_length h (both_fits p))

    pub no_room : length old < head_size + record_size * n → merge d₀.now d₁.now (length old) ≡ refuse NoRoom
    unfolding output
    no_room l = given ∙ rw (lt-ltb (length old) (length whole) (rw size l))

    -- the head is put where the slice opens, and the records after it
    pub all_written : (t u : List ℕ) → head_size + record_size * n ≤ length old
        → t ≡ put 0 (head_bytes (record { kind = h.kind; spare = h.spare; p = h.p; q = h.q; n = n })) old → u ≡ put head_size (records_of (both p) 0 max_blocks) t
        → (answer (head_size + record_size * n) ≡ comes_back (merge d₀.now d₁.now (length old))) × (u ≡ over old (merge d₀.now d₁.now (length old)))
    unfolding comes_back over written counted
    all_written t u l e f =
        let w : Head = record { kind = h.kind; spare = h.spare; p = h.p; q = h.q; n = n } in
        let m = records_length (both_fits p) 0 max_blocks in
        let laid = put_next (head_bytes w) (records_of (both p) 0 max_blocks) old t u head_size (head_length w) (omega arith) e f in
        let own : head_bytes w ++ records_of (both p) 0 max_blocks ≡ whole = rw count in
        rw (given, output_fits whole (length old) (rw size l)) (ap answer (sym size), laid ∙ rw own (put_first whole old))
