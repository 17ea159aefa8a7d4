-- What a comparison answers, case by case: 8 for an image, 3 for the gids, 17 for the room; else its diff is written and its length answered.
use Prim.Native.Nat.{ℕ, ◌+◌, ◌-◌, ◌*◌, ◌≤◌, ◌<◌}
use mathlib.Core.Path.{◌≡◌, sym, ap, ◌∙◌}
use mathlib.Core.Option.{none}
use mathlib.Core.List.{List, ◌++◌}
use mathlib.Core.Bool.{Bool, false, or-true}
use native.Mathlib.Omega.{arith}
use lib.ListN.{length, take, length-take, length-append, replicate, length-replicate}
use borrow.Author.Tests.{eq-eqb, ne_eqb, lt-ltb}
use Rattle.paper.specs.Limits.{block_bytes, max_blocks, head_size, record_size}
use Rattle.paper.specs.Answer.{answer, refuse, comes_back, over, output, BadImage, BadHead, NoRoom}
use Rattle.paper.specs.Image.{check_image}
use Rattle.paper.specs.Diff.{Head, head_bytes, compared_head, bad_head, check_head, records_of, count_of, counted, written}
use Rattle.paper.specs.Compare.{differing, compare}
use Rattle.paper.proofs.Answers.{guard_answer, guard_refuse}
use Rattle.paper.proofs.Images.{image_no, image_yes, image_blocks, whole_image}
use Rattle.paper.proofs.Parts.{head_length}
use Rattle.paper.proofs.Meaning.{count_le, records_same, count_same, records_beyond, count_beyond, written_length}
use Rattle.paper.proofs.Comparing.{alike_beyond, differing_fits, compares}
use Rattle.number.specs.Put.{put}
use Rattle.record.proofs.Stores.{put_next}
use Rattle.record.proofs.StateLaws.{put_first}
use Rattle.compare.specs.Marks.{compared, Comparable, marked, Marks}

-- ---- the checks 8 and 3

module _ (old new : List ℕ) (p q room : ℕ) where
  -- 8: the first image, the second, unequal lengths
  pub first_bad : {k : ℕ} → refuse k ≡ check_image old → compare old new p q room ≡ refuse k
  unfolding compare
  first_bad e = let (bad, number) = image_no old (sym e) in rw bad (ap refuse number)

  pub second_bad : {k : ℕ} → refuse k ≡ check_image new → compare old new p q room ≡ refuse k
  unfolding compare
  second_bad e = let (bad, number) = image_no new (sym e) in simp (bad, or-true) (ap refuse number)

  pub unequal : (length old ≡ length new → ⊥) → compare old new p q room ≡ refuse BadImage
  unfolding compare
  unequal n = simp (ne_eqb (length old) (length new) n, or-true)

  -- 3
  pub gids_bad : {m n k : ℕ} → answer m ≡ check_image old → answer n ≡ check_image new → length old ≡ length new → refuse k ≡ check_head (compared_head p q)
      → compare old new p q room ≡ refuse k
  unfolding compare check_head
  gids_bad e f long g =
      let (bad, number) = guard_refuse (bad_head (compared_head p q)) BadHead _ (sym g) in
      rw (image_yes old (sym e), image_yes new (sym f), eq-eqb (length old) (length new) long, bad) (ap refuse number)

-- gids that pass
gids_good : {h : Head} (p q : ℕ) → answer h ≡ check_head (compared_head p q) → bad_head (compared_head p q) ≡ false
unfolding check_head
gids_good p q e = (guard_answer (bad_head (compared_head p q)) BadHead _ (sym e)).clear

-- ---- where the checks 8 and 3 are passed

-- Images that are compared: as many whole blocks in both.
pub record Sized (old new : List ℕ) (p q blocks : ℕ) : Type 0 where
  pub passed : Comparable old new p q
  pub first : length old ≡ block_bytes * blocks
  pub second : length new ≡ block_bytes * blocks
  pub few : blocks ≤ max_blocks

pub sized : {old new : List ℕ} {p q m n : ℕ} {g h : Head} → answer m ≡ check_image old → answer n ≡ check_image new → length old ≡ length new
    → answer h ≡ check_head g → g ≡ compared p q 0 → Sized old new p q n
sized {old} {new} {p} {q} e f long h g =
    let image = image_yes new (sym f) in
    let w = whole_image new image in
    let m = image_blocks new (sym f) in
    record {
      passed = record { old_image = image_yes old (sym e); new_image = image; long = long; good = gids_good p q (h ∙ ap check_head g) };
      first = omega arith;
      second = omega arith;
      few = omega arith;
    }

module _ {old new : List ℕ} {p q : ℕ} {marks : List Bool} {count : ℕ} (s : Sized old new p q (length marks)) (k : Marks old new (length marks) marks count) where
  -- beyond the marks nothing differs
  beyond : (b : ℕ) → 0 + length marks ≤ b → differing old new b ≡ none
  beyond b l = alike_beyond old new b s.passed.long (omega (arith, s.second))

  all_blocks : length marks + (max_blocks - length marks) ≡ max_blocks
  all_blocks = omega (arith, s.few)

  -- so the marks are all that differs
  marked_records : records_of (marked marks new) 0 (length marks) ≡ records_of (differing old new) 0 max_blocks
  marked_records =
      records_same (marked marks new) (differing old new) 0 (length marks) (λ b l h. k.each b (omega arith))
      ∙ sym (records_beyond (differing old new) 0 (length marks) (max_blocks - length marks) beyond)
      ∙ ap (records_of (differing old new) 0) all_blocks

  all_count : count ≡ count_of (differing old new) 0 max_blocks
  all_count = k.all ∙ sym (count_beyond (differing old new) 0 (length marks) (max_blocks - length marks) beyond) ∙ ap (count_of (differing old new) 0) all_blocks

  pub marked_count : count_of (marked marks new) 0 (length marks) ≡ count
  marked_count = count_same (marked marks new) (differing old new) 0 (length marks) (λ b l h. k.each b (omega arith)) ∙ sym k.all

  -- no more blocks are marked than an image has
  pub few_marked : count ≤ max_blocks
  few_marked = omega (arith, s.few, k.all, count_le (differing old new) 0 (length marks))

  -- what is to be written, and its size
  size_written : length (written (compared_head p q) (differing old new)) ≡ head_size + record_size * count
  size_written =
      written_length (compared_head p q) (differing_fits old new (whole_image new s.passed.new_image) s.passed.long)
      ∙ ap (λ (n : ℕ). head_size + record_size * n) (sym all_count)

  -- 17
  pub no_room : {room : ℕ} → room < head_size + record_size * count → compare old new p q room ≡ refuse NoRoom
  unfolding compare output
  no_room {room} l =
      let c = s.passed in
      let short : room < length (written (compared_head p q) (differing old new)) = omega (arith, size_written) in
      rw (c.old_image, c.new_image, eq-eqb (length old) (length new) c.long, c.good, lt-ltb _ _ short)

  -- the head with the count, and behind it the records of the marks, are what is to be written
  written_here : written (compared_head p q) (differing old new) ≡ head_bytes (compared p q count) ++ records_of (marked marks new) 0 (length marks)
  unfolding written counted
  written_here = rw (marked_records, all_count)

  -- where there is room, the head put first and the records put behind it are the diff, and nothing beyond it changes
  pub writes : (out : List ℕ) {t u : List ℕ} {h : Head} → head_size + record_size * count ≤ length out → h ≡ compared p q count → t ≡ put 0 (head_bytes h) out
      → u ≡ put head_size (records_of (marked marks new) 0 (length marks)) t
      → (answer (head_size + record_size * count) ≡ comes_back (compare old new p q (length out))) × (u ≡ over out (compare old new p q (length out)))
  unfolding comes_back over
  writes out {t} {u} room g e f =
      let c = s.passed in
      let w = written (compared_head p q) (differing old new) in
      let long = size_written in
      let said = compares old new p q (length out) c.old_image c.new_image c.long c.good (omega arith) in
      let parts : length (head_bytes (compared p q count)) + length (records_of (marked marks new) 0 (length marks)) ≡ length w =
      sym (ap length written_here ∙ simp length-append) in
      let size = head_length (compared p q count) in
      let first : t ≡ put 0 (head_bytes (compared p q count)) out = e ∙ ap (λ (x : Head). put 0 (head_bytes x) out) g in
      let done = put_next (head_bytes (compared p q count)) (records_of (marked marks new) 0 (length marks)) out t u head_size size (omega arith) first f in
      rw said (ap answer (sym long), done ∙ rw (← written_here) (put_first w out))

-- the marks that are lent are as many as the blocks
pub marks_size : {n : ℕ} → n ≤ max_blocks → length (take n (replicate max_blocks false)) ≡ n
marks_size {n} l = simp (length-take, length-replicate) (omega arith)
