-- 01, "Shortcuts that cost us the queue": each one, on a small history, makes a state that is not true. One byte is enough to show it.
use Prim.Native.Nat.{ℕ, ◌/◌, ◌<◌}
use mathlib.Core.Path.{◌≡◌, refl, sym, ap, ◌∙◌}
use mathlib.Core.Option.{Option, none, some}
use mathlib.Core.List.{List, [], ◌∷◌, ◌++◌}
use mathlib.Core.Bool.{true, false, cond}
use native.Mathlib.Omega.{arith}
use lib.ListN.{length, get_or}
use borrow.Author.Tests.{eq-eqb}
use lib.Seq.{drop_at}
use Rattle.paper.specs.Answer.{answer, refuse, NotExact, Outside}
use Rattle.paper.specs.Number.{little, spelled, field, opens}
use Rattle.paper.specs.Image.{Map, block, overlay, same}
use Rattle.paper.specs.Diff.{Head, log_head, is_compared, head_of, head_bytes, record_bytes, bad_head, check_head, check_records, read_head, check, seek, named_by, named, names_outside}
use Rattle.paper.specs.State.{clean, settled, pair, span, is_clean, state_bytes}
use Rattle.paper.specs.Volume.{exact, while_state, done_state, is_pair_while, decide_on, decide}
use Rattle.paper.specs.Compare.{differing}
use Rattle.paper.specs.History.{History, writes_in, logged, true_map, TrueDiff, TrueByte, of_span, of_b, of_t, TrueState, Mixed}
use Rattle.paper.proofs.Answers.{answer_injective}
use Rattle.paper.proofs.Images.{overlay_at, same_self}
use Rattle.paper.proofs.Bools.{Which, holds, fails, which}
use Rattle.paper.proofs.Parts.{head_length}
use Rattle.paper.proofs.Check.{sound}
use Rattle.paper.proofs.Names.{unnamed, named_as, seen, named_by_here, outside_names}
use Rattle.paper.proofs.Meaning.{stands}
use Rattle.paper.proofs.States.{is_span, is_pair}
use Rattle.paper.proofs.Decisions.{log, Accepted}
use Rattle.paper.proofs.Truth.{done_true, while_true, clean_image, true_inside}
use Rattle.paper.proofs.Saved.{saved_reads}
use Rattle.paper.proofs.Listed.{names, listing, listed_bytes, listed, listed_checks, listed_names}
use Rattle.truth.specs.Made.{put, puts, after_step, number_at, filled_length, filled_at, filled_block, made, log_diff, compared_diff, partly, partly_at, partly_mixed}
use Rattle.truth.proofs.Diffs.{DiffOf, log_true, compared_true}
use Rattle.truth.proofs.Accepts.{image_passes, decide_true, settled_good, settled_reads, settled_true}

-- where clean g is true, a byte is that of H(g)
clean_byte : (H : History) (g : ℕ) (img : List ℕ) (i : ℕ) → TrueState H (clean g) img → get_or img i 0 ≡ get_or (H.image g) i 0
unfolding is_clean
clean_byte H g img i t = ap (λ (x : List ℕ). get_or x i 0) (clean_image H (clean g) img t (eq-eqb g g refl) t.within)

-- one block: 0, then 1, then 0 again
abbrev pub there_and_back : History
there_and_back = made (0 ∷ []) ((put 0 1 ∷ []) ∷ (put 0 0 ∷ []) ∷ [])

-- its bytes at each gid
byte_at : (i : ℕ) → i < 512 → (get_or (there_and_back.image 0) i 0 ≡ 0) × (get_or (there_and_back.image 1) i 0 ≡ 1) × (get_or (there_and_back.image 2) i 0 ≡ 0)
unfolding number_at after_step
byte_at i l = let e : i / 512 ≡ 0 = omega arith in (filled_at 1 _ i l ∙ rw e, filled_at 1 _ i l ∙ rw e, filled_at 1 _ i l ∙ rw e)

-- a diff that leaves block 0 out leaves its middle content, and the volume is not at 2
left_out : (d img : List ℕ) (i : ℕ) → length img ≡ 512 → i < 512 → get_or img i 0 ≡ 1 → named d 0 ≡ none
    → ¬ TrueState there_and_back (clean 2) (overlay img (named d))
left_out d img i e l x n t =
    let k : i / 512 ≡ 0 = omega arith in
    let new : get_or (overlay img (named d)) i 0 ≡ 1 = overlay_at img (named d) i (omega arith) ∙ rw (k, n) x in
    let old = clean_byte there_and_back 2 (overlay img (named d)) i t in
    omega (arith, (byte_at i l).2)

-- ---- "Applying a compared 0→2 diff to a volume at 1: a block changed and changed back keeps its middle content."

-- a volume at 1 is true
pub at_one_true : TrueState there_and_back (clean 1) (there_and_back.image 1)
at_one_true = settled_true there_and_back 1 1 1 (omega arith) (omega arith) (omega arith) (omega arith)

-- there is such a diff
pub there_compared : DiffOf there_and_back true 0 2 (compared_diff there_and_back 0 2)
there_compared = compared_true there_and_back (omega arith) (omega arith) (omega arith) 0 2 (omega arith) (omega arith)

-- the block came back
came_back : block (there_and_back.image 2) 0 ≡ block (there_and_back.image 0) 0
unfolding number_at after_step
came_back = filled_block 1 _ _ 0 λ l. refl

-- so the compared diff does not name it
compared_empty : (d : List ℕ) → DiffOf there_and_back true 0 2 d → named d 0 ≡ none
unfolding true_map differing
compared_empty d t = t.is_true.names 0 ∙ rw (t.kind, t.from, t.to, came_back, same_self (block (there_and_back.image 0) 0))

-- the desk refuses
pub compared_refused : (d : List ℕ) → DiffOf there_and_back true 0 2 d → decide d (state_bytes (clean 1)) (there_and_back.image 1) ≡ refuse NotExact
unfolding decide_on exact is_clean
compared_refused d t =
    decide_true there_and_back (omega arith) (omega arith) d t.is_true _ _ (clean 1) (settled_reads 1 1 (omega arith) (omega arith)) (filled_length 1 _)
    ∙ rw (t.kind, t.from, t.to)

-- to apply it would be wrong
pub compared_too_early : (d : List ℕ) → DiffOf there_and_back true 0 2 d → ¬ TrueState there_and_back (clean 2) (overlay (there_and_back.image 1) (named d))
compared_too_early d t = left_out d (there_and_back.image 1) 0 (filled_length 1 _) (omega arith) (byte_at 0 (omega arith)).1 (compared_empty d t)

-- ---- "Dropping blocks from a merge because the content equals the old one: the result is no longer a true log diff."

-- there is a true log diff from 0 to 2
pub there_log : DiffOf there_and_back false 0 2 (log_diff there_and_back 0 2)
there_log = log_true there_and_back (omega arith) (omega arith) (omega arith) 0 2 (omega arith) (omega arith)

-- each names block 0, though its content came back
pub log_names_it : (d : List ℕ) → DiffOf there_and_back false 0 2 d → named d 0 ≡ some (block (there_and_back.image 2) 0)
unfolding true_map logged writes_in puts
log_names_it d t = t.is_true.names 0 ∙ rw (t.kind, t.from, t.to)

-- so a diff with the merge's head that leaves it out is not true
pub dropped_untrue : (d : List ℕ) (h : Head) → check d ≡ answer h → is_compared h ≡ false → h.p ≡ 0 → h.q ≡ 2 → named d 0 ≡ none → ¬ TrueDiff there_and_back d
dropped_untrue d h e k p q n t =
    let same : t.head ≡ h = answer_injective (sym t.sound ∙ e) in
    let x = log_names_it d (record { is_true = t; kind = rw same k; from = rw same p; to = rw same q }) in
    let z : ◌≡◌ {A = ℕ} 0 1 = cc in
    omega arith

-- a content that equals the old one is dropped
abbrev pub unless_same : List ℕ → Option (List ℕ) → Option (List ℕ)
unless_same old none = none
unless_same old (some c) = cond (same old c) none (some c)

-- the map with such blocks dropped
unfoldable pub dropping : List ℕ → Map → Map
dropping old f a = unless_same (block old a) (f a)

-- the empty log diff from 0 to 2
pub emptied : List ℕ
emptied = head_bytes (log_head 0 2)

-- it passes the check
emptied_checks : check emptied ≡ answer (log_head 0 2)
unfolding emptied check read_head opens head_bytes head_of check_head bad_head field little spelled check_records
emptied_checks = refl

-- it names nothing
emptied_names : (a : ℕ) → named emptied a ≡ none
unfolding emptied named named_by seek head_of head_bytes field little spelled
emptied_names a = refl

-- so it is what is left of a true log diff, a merge or not, when such blocks are dropped
pub emptied_is_left : (d : List ℕ) → DiffOf there_and_back false 0 2 d → (a : ℕ) → named emptied a ≡ dropping (there_and_back.image 0) (named d) a
unfolding dropping
emptied_is_left d t a = emptied_names a ∙ sym (elim (seen (named d) a) [
  | unnamed n ↦ rw n
  | named_as c n ↦
      let from = t.from in
      let to = t.to in
      let zero : a ≡ 0 = omega (arith, true_inside there_and_back d t.is_true (omega arith) a c n) in
      rw (zero, log_names_it d t, came_back, same_self (block (there_and_back.image 0) 0))
])

-- it is not true
pub emptied_untrue : ¬ TrueDiff there_and_back emptied
emptied_untrue = dropped_untrue emptied (log_head 0 2) emptied_checks refl refl refl (emptied_names 0)

-- a volume at 1 takes it, and is then called clean at 2
pub emptied_accepted : decide emptied (state_bytes (clean 1)) (there_and_back.image 1) ≡ answer (record { while = pair 1 2; done = clean 2 })
unfolding decide names_outside decide_on exact is_clean is_pair_while while_state done_state
emptied_accepted =
    rw (emptied_checks, settled_reads 1 1 (omega arith) (omega arith), image_passes (there_and_back.image 1) 1 (filled_length 1 _) (omega arith) (omega arith))

-- which is wrong
pub emptied_wrong : ¬ TrueState there_and_back (clean 2) (overlay (there_and_back.image 1) (named emptied))
emptied_wrong = left_out emptied (there_and_back.image 1) 0 (filled_length 1 _) (omega arith) (byte_at 0 (omega arith)).1 (emptied_names 0)

-- ---- "Calling a dirty volume clean after any apply, though q < e."

-- one block: 0, still 0, then 1
abbrev pub late : History
late = made (0 ∷ []) ([] ∷ (put 0 1 ∷ []) ∷ [])

-- its bytes at 1 and at 2
late_byte : (get_or (late.image 1) 0 0 ≡ 0) × (get_or (late.image 2) 0 0 ≡ 1)
unfolding number_at after_step
late_byte = (filled_at 1 _ 0 (omega arith), filled_at 1 _ 0 (omega arith))

-- a dirty volume from 0 to 2 that already holds 2 is true
pub dirty_true : TrueState late (settled 0 2) (late.image 2)
dirty_true = settled_true late 0 2 2 (omega arith) (omega arith) (omega arith) (omega arith)

-- there is a true log diff from 0 to 1
pub late_log : DiffOf late false 0 1 (log_diff late 0 1)
late_log = log_true late (omega arith) (omega arith) (omega arith) 0 1 (omega arith) (omega arith)

-- it is accepted, and Done stays dirty
pub dirty_accepted : (d : List ℕ) → DiffOf late false 0 1 d
    → decide d (state_bytes (settled 0 2)) (late.image 2) ≡ answer (record { while = span 0 1 2; done = settled 1 2 })
unfolding decide_on exact is_clean is_pair_while while_state done_state
dirty_accepted d t =
    decide_true late (omega arith) (omega arith) d t.is_true _ _ (settled 0 2) (settled_reads 0 2 (omega arith) (omega arith)) (filled_length 1 _)
    ∙ rw (t.kind, t.from, t.to)

-- it names nothing
early_empty : (d : List ℕ) → DiffOf late false 0 1 d → named d 0 ≡ none
unfolding true_map logged writes_in puts
early_empty d t = t.is_true.names 0 ∙ rw (t.kind, t.from, t.to)

-- so to call the volume clean at 1 would be wrong
pub dirty_not_clean : (d : List ℕ) → DiffOf late false 0 1 d → ¬ TrueState late (clean 1) (overlay (late.image 2) (named d))
dirty_not_clean d t c =
    let img = late.image 2 in
    let long : length img ≡ 512 = filled_length 1 _ in
    let new : get_or (overlay img (named d)) 0 0 ≡ 1 = overlay_at img (named d) 0 (omega arith) ∙ rw (early_empty d t) late_byte.1 in
    let old = clean_byte late 1 (overlay img (named d)) 0 c in
    omega (arith, late_byte.0)

-- while Done is true
pub dirty_done : (d : List ℕ) → DiffOf late false 0 1 d → TrueState late (settled 1 2) (overlay (late.image 2) (named d))
unfolding done_state
dirty_done d t =
    let h = t.is_true.head in
    let from = t.from in
    let to = t.to in
    let a : Accepted h (settled 0 2) = record { ahead = omega arith; meets = omega arith; long = omega arith; why = log t.kind } in
    rw to at (done_true late h (settled 0 2) a (settled_good 0 2 (omega arith) (omega arith)) (omega arith) t.is_true.within (named d) t.is_true.names (late.image 2) dirty_true)

-- ---- "Treating every cut volume as a pair, then resuming with a compared diff."

-- a dirty volume from 0 to 2 that holds the middle content is true
pub middle_true : TrueState there_and_back (settled 0 2) (there_and_back.image 1)
middle_true = settled_true there_and_back 0 1 2 (omega arith) (omega arith) (omega arith) (omega arith)

-- a true log diff from 0 to 2 is accepted, and While is a span
pub middle_accepted : (d : List ℕ) → DiffOf there_and_back false 0 2 d
    → decide d (state_bytes (settled 0 2)) (there_and_back.image 1) ≡ answer (record { while = span 0 2 2; done = clean 2 })
unfolding decide_on exact is_clean is_pair_while while_state done_state
middle_accepted d t =
    decide_true there_and_back (omega arith) (omega arith) d t.is_true _ _ (settled 0 2) (settled_reads 0 2 (omega arith) (omega arith)) (filled_length 1 _)
    ∙ rw (t.kind, t.from, t.to)

-- cut when half of the block is written
pub half : List ℕ → List ℕ
half d = partly 256 (there_and_back.image 1) (overlay (there_and_back.image 1) (named d))

-- a mix of old and new bytes
pub half_mixed : (d : List ℕ) → Mixed (there_and_back.image 1) (overlay (there_and_back.image 1) (named d)) (half d)
unfolding half
half_mixed d = partly_mixed 256 (there_and_back.image 1) (overlay (there_and_back.image 1) (named d))

-- of one block
half_length : (d : List ℕ) → length (half d) ≡ 512
half_length d = (half_mixed d).long ∙ filled_length 1 _

-- the last byte is still the middle one
half_byte : (d : List ℕ) → get_or (half d) 511 0 ≡ 1
unfolding half
half_byte d =
    let long : length (there_and_back.image 1) ≡ 512 = filled_length 1 _ in
    partly_at 256 (there_and_back.image 1) (overlay (there_and_back.image 1) (named d)) 511 (omega arith) ∙ (byte_at 511 (omega arith)).1

-- which is neither that of H(0) nor that of H(2): to call the volume a pair would be wrong
pub not_a_pair : (d : List ℕ) → ¬ TrueState there_and_back (pair 0 2) (half d)
not_a_pair d t = go (t.bytes 511 (omega (arith, half_length d)))
  where
    go : TrueByte there_and_back (pair 0 2) (half d) 511 → ⊥
    go (of_span k u l m x) = omega arith
    go (of_b k x) = omega (arith, half_byte d, (byte_at 511 (omega arith)).0)
    go (of_t k x) = omega (arith, half_byte d, (byte_at 511 (omega arith)).2)

-- while the span is true
pub is_a_span : (d : List ℕ) → DiffOf there_and_back false 0 2 d → TrueState there_and_back (span 0 2 2) (half d)
unfolding while_state is_pair_while is_clean
is_a_span d t =
    let h = t.is_true.head in
    let from = t.from in
    let to = t.to in
    let a : Accepted h (settled 0 2) = record { ahead = omega arith; meets = omega arith; long = omega arith; why = log t.kind } in
    rw (t.kind, to) at (while_true there_and_back h (settled 0 2) a (settled_good 0 2 (omega arith) (omega arith)) (omega arith) t.is_true.within (named d) t.is_true.names (there_and_back.image 1) middle_true (half d) (half_mixed d))

-- the span refuses the compared diff
pub span_refuses : (d e : List ℕ) → DiffOf there_and_back true 0 2 e → decide e (state_bytes (span 0 2 2)) (half d) ≡ refuse NotExact
unfolding decide_on exact is_clean
span_refuses d e t =
    decide_true there_and_back (omega arith) (omega arith) e t.is_true _ _ (span 0 2 2)
    (saved_reads (span 0 2 2) (record { b = omega arith; t = omega arith; e = omega arith; fits = is_span refl (omega arith) (omega arith) }))
    (half_length d)
    ∙ rw (t.kind, t.from, t.to)

-- a pair would take it, and be called clean at 2
pub pair_takes : (d e : List ℕ) → DiffOf there_and_back true 0 2 e
    → decide e (state_bytes (pair 0 2)) (half d) ≡ answer (record { while = pair 0 2; done = clean 2 })
unfolding decide_on exact is_clean is_pair_while while_state done_state
pair_takes d e t =
    decide_true there_and_back (omega arith) (omega arith) e t.is_true _ _ (pair 0 2)
    (saved_reads (pair 0 2) (record { b = omega arith; t = omega arith; e = omega arith; fits = is_pair refl (omega arith) refl }))
    (half_length d)
    ∙ rw (t.kind, t.from, t.to)

-- which is wrong
pub resumed_wrong : (d e : List ℕ) → DiffOf there_and_back true 0 2 e → ¬ TrueState there_and_back (clean 2) (overlay (half d) (named e))
resumed_wrong d e t = left_out e (half d) 511 (half_length d) (omega arith) (half_byte d) (compared_empty e t)

-- ---- "Writing blocks until an address is found to be outside."

-- a volume at 0 is true
pub at_zero_true : TrueState there_and_back (clean 0) (there_and_back.image 0)
at_zero_true = settled_true there_and_back 0 0 0 (omega arith) (omega arith) (omega arith) (omega arith)

-- a diff that names block 0, and block 1, which a volume of one block hasn't
abbrev pub beyond : List ℕ → List ℕ → List ℕ
beyond c c' = listed (log_head 0 1) (names 0 c ∷ names 1 c' ∷ [])

module _ (c c' : List ℕ) (whole : length c ≡ 512) (whole' : length c' ≡ 512) where
  -- it passes the check
  beyond_checks : check (beyond c c') ≡ answer (record { kind = 0; spare = 0; p = 0; q = 1; n = 2 })
  unfolding bad_head
  beyond_checks = listed_checks (log_head 0 1) (names 0 c ∷ names 1 c' ∷ []) (omega arith) refl

  -- it names block 1
  beyond_names : named (beyond c c') 1 ≡ some c'
  unfolding bad_head listing
  beyond_names = listed_names (log_head 0 1) (names 0 c ∷ names 1 c' ∷ []) (omega arith) refl 1

  -- its first record names block 0
  beyond_first : named_by (beyond c c') 0 1 0 ≡ some c
  unfolding listed_bytes
  beyond_first =
      let d = beyond c c' in
      let s = stands d 0 0 c (record_bytes 1 c' ++ []) (drop_at (head_bytes (record { kind = 0; spare = 0; p = 0; q = 1; n = 2 })) _ 24 (head_length _)) (omega arith) whole in
      named_by_here d 0 0 0 s.address ∙ ap some s.content

  -- which is outside
  beyond_outside : names_outside (beyond c c') 0 2 1 ≡ true
  beyond_outside = go (which (names_outside (beyond c c') 0 2 1))
    where
      go : Which (names_outside (beyond c c') 0 2 1) → names_outside (beyond c c') 0 2 1 ≡ true
      go (holds y) = y
      go (fails n) = absurd (omega (arith, (outside_names (sound beyond_checks) 1).0 n 1 c' beyond_names))

  -- the desk refuses
  pub beyond_refused : decide (beyond c c') (state_bytes (clean 0)) (there_and_back.image 0) ≡ refuse Outside
  unfolding decide
  beyond_refused =
      rw (beyond_checks, settled_reads 0 0 (omega arith) (omega arith), image_passes (there_and_back.image 0) 1 (filled_length 1 _) (omega arith) (omega arith), beyond_outside)

  -- to write record 0 and then stop at record 1 would be wrong: the state that is saved is still clean at 0
  pub half_written_wrong : ¬ (get_or c 0 0 ≡ 0) → ¬ TrueState there_and_back (clean 0) (overlay (there_and_back.image 0) (named_by (beyond c c') 0 1))
  half_written_wrong changes t =
      let img = there_and_back.image 0 in
      let f = named_by (beyond c c') 0 1 in
      let long : length img ≡ 512 = filled_length 1 _ in
      let new : get_or (overlay img f) 0 0 ≡ get_or c 0 0 = overlay_at img f 0 (omega arith) ∙ rw beyond_first in
      let old = clean_byte there_and_back 0 (overlay img f) 0 t in
      changes (sym new ∙ old ∙ (byte_at 0 (omega arith)).0)
