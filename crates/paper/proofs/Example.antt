-- 01, "Rows from the night book": "Merging blocks {1: A, 3: B} with {3: C, 6: D} gives {1: A, 3: C, 6: D}, 1,578 bytes; an output of 1,577 gets NoRoom."
-- For all contents of a block, and all gids that touch.
use Prim.Native.Nat.{ℕ, ◌≤◌, ◌<◌}
use mathlib.Core.Path.{◌≡◌, refl, ◌∙◌}
use mathlib.Core.List.{List, [], ◌∷◌, ◌++◌, append-nil}
use mathlib.Core.Bool.{false}
use lib.ListN.{length, length-append}
use native.Mathlib.Omega.{arith}
use native.Mathlib.Decide.{ℕ_discrete}
use borrow.Author.Tests.{ne_eqb}
use Rattle.paper.specs.Limits.{max_gid, max_blocks, block_bytes}
use Rattle.paper.specs.Answer.{answer, refuse, NoRoom, output}
use Rattle.paper.specs.Diff.{Head, log_head, head_bytes, record_bytes, bad_head, named}
use Rattle.paper.specs.Merge.{merged, merge}
use Rattle.paper.proofs.Check.{good_passes}
use Rattle.paper.proofs.Parts.{head_length, record_length}
use Rattle.paper.proofs.Meaning.{written_same}
use Rattle.paper.proofs.Merging.{Touching, touching_merges, merged_same}
use Rattle.paper.proofs.Listed.{Listed, names, listing, listed_bytes, Rising, listed, listed_written, listed_checks, listed_names}

-- the head of a log diff of n blocks
abbrev pub log_of : ℕ → ℕ → ℕ → Head
log_of p q n = record { kind = 0; spare = 0; p = p; q = q; n = n }

-- a head of a log diff is good
log_good : (p q : ℕ) → p < q → q ≤ max_gid → bad_head (log_head p q) ≡ false
log_good p q l m = good_passes (record { kind = omega arith; spare = refl; p = omega arith; q = m; grows = l })

module _ (A B C D : List ℕ) where
  -- {1: A, 3: B}
  abbrev pub first : List Listed
  first = names 1 A ∷ names 3 B ∷ []

  -- {3: C, 6: D}
  abbrev pub second : List Listed
  second = names 3 C ∷ names 6 D ∷ []

  -- {1: A, 3: C, 6: D}
  abbrev pub both : List Listed
  both = names 1 A ∷ names 3 C ∷ names 6 D ∷ []

  -- merging the two maps is that of the three
  merged_both : (a : ℕ) → merged (listing first) (listing second) a ≡ listing both a
  unfolding merged listing
  merged_both a = elim (ℕ_discrete a 1) [
    | yes e ↦ rw e
    | no x ↦ elim (ℕ_discrete a 3) [
      | yes e ↦ rw e
      | no y ↦ elim (ℕ_discrete a 6) [
        | yes e ↦ rw e
        | no z ↦ rw (ne_eqb 1 a (omega arith), ne_eqb 3 a (omega arith), ne_eqb 6 a (omega arith))
      ]
    ]
  ]

  module _ (p q r : ℕ) where
    -- the first diff, byte by byte
    abbrev pub first_diff : List ℕ
    first_diff = head_bytes (log_of p q 2) ++ (record_bytes 1 A ++ record_bytes 3 B)

    -- the second
    abbrev pub second_diff : List ℕ
    second_diff = head_bytes (log_of q r 2) ++ (record_bytes 3 C ++ record_bytes 6 D)

    -- and their merge
    abbrev pub merged_diff : List ℕ
    merged_diff = head_bytes (log_of p r 3) ++ (record_bytes 1 A ++ (record_bytes 3 C ++ record_bytes 6 D))

    -- each lists its records: the first
    first_listed : first_diff ≡ listed (log_head p q) first
    unfolding listed_bytes
    first_listed = rw append-nil

    -- the second
    second_listed : second_diff ≡ listed (log_head q r) second
    unfolding listed_bytes
    second_listed = rw append-nil

    -- and the merge
    merged_listed : merged_diff ≡ listed (log_head p r) both
    unfolding listed_bytes
    merged_listed = rw append-nil

    module _ (l : p < q) (m : q < r) (n : r ≤ max_gid)
        (a : length A ≡ block_bytes) (b : length B ≡ block_bytes) (c : length C ≡ block_bytes) (d : length D ≡ block_bytes) where
      -- "1,578 bytes"
      merged_length : length merged_diff ≡ 1578
      merged_length = rw (length-append, head_length, length-append, record_length 1 A a, length-append, record_length 3 C c, record_length 6 D d)

      -- the output for the two is the merge, if it has room
      merge_is : (room : ℕ) → merge first_diff second_diff room ≡ output merged_diff room
      unfolding merge
      merge_is room =
          let rises₀ : Rising 0 max_blocks first = omega arith in
          let rises₁ : Rising 0 max_blocks second = omega arith in
          let good₀ = log_good p q l (omega arith) in
          let good₁ = log_good q r m n in
          let touch : Touching (log_of p q 2) (log_of q r 2) = record { log₀ = refl; log₁ = refl; touch = refl } in
          let same = written_same (log_head p r) (log_head p r) (merged (named (listed (log_head p q) first)) (named (listed (log_head q r) second))) (listing both)
          refl refl refl refl λ k _.
          merged_same _ _ _ _ k (listed_names (log_head p q) first rises₀ good₀ k) (listed_names (log_head q r) second rises₁ good₁ k) ∙ merged_both k in
          rw (first_listed, second_listed, merged_listed)
          (rw (listed_checks (log_head p q) first rises₀ good₀, listed_checks (log_head q r) second rises₁ good₁, touching_merges touch)
          (rw (same, listed_written (log_head p r) both (omega arith))))

      -- "gives {1: A, 3: C, 6: D}, 1,578 bytes"
      pub merge_row : merge first_diff second_diff 1578 ≡ answer (record { value = 1578; bytes = merged_diff })
      unfolding output
      merge_row = merge_is 1578 ∙ rw merged_length

      -- "an output of 1,577 gets NoRoom"
      pub merge_no_room : merge first_diff second_diff 1577 ≡ refuse NoRoom
      unfolding output
      merge_no_room = merge_is 1577 ∙ rw merged_length
