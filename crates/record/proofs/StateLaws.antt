-- The checks of a state and of its record, an answer at a time, and the bytes of a record put into a slice part by part.
use Prim.Native.Nat.{ℕ, ◌+◌, ◌≤◌, ◌<◌}
use mathlib.Core.Path.{◌≡◌, refl, sym, ap, ◌∙◌}
use mathlib.Core.List.{List, [], ◌∷◌, ◌++◌}
use mathlib.Core.Bool.{Bool, true, false, not}
use native.Mathlib.Omega.{arith}
use lib.Dec.{leb, ltb, eqb}
use lib.ListN.{length, get_or, drop, set, length-append}
use borrow.Author.Tests.{le-ltb, lt-ltb, leb-true, leb-false, eq-eqb, ne_eqb}
use Rattle.paper.specs.Limits.{max_gid, state_size, state_mark}
use Rattle.paper.specs.Number.{spelled, field, opens}
use Rattle.paper.specs.Answer.{answer, refuse, guard, BadState, NoRoom, output, comes_back, over}
use Rattle.paper.specs.State.{State, fits_kind, bad_state, state_of, state_bytes, bad_record, read_state, write_state}
use Rattle.paper.proofs.Bools.{Which, holds, fails, which}
use Rattle.paper.proofs.States.{FitsKind, is_settled, is_span, is_pair, GoodState, good_of}
use Rattle.paper.proofs.Answers.{answer_injective, refuse_not_answer, wrote, output_fits}
use Rattle.paper.proofs.Saved.{state_length}
use Rattle.paper.proofs.Numbers.{spelled_length}
use Rattle.number.specs.Put.{put}
use denote.Enum.Bare.{sameb}
use Rattle.record.specs.contracts.state.Kind.{the_type}
use Rattle.record.specs.declared.state.Kind.{Kind}
use Rattle.record.specs.declared.state.Kind.TheVariants.{Settled, Span, Pair}
use Rattle.record.specs.States.{kind_number, kind_of}
use Rattle.number.proofs.Puts.{put_4, put_put}

-- ---- the values of a state

-- more than is not at most
more_not_most : (a b : ℕ) → ltb a b ≡ not (leb b a)
more_not_most a b = go (which (leb b a))
  where
    go : Which (leb b a) → ltb a b ≡ not (leb b a)
    go (holds y) = rw (y, le-ltb a b (leb-true b a y))
    go (fails n) = rw (n, lt-ltb a b (leb-false b a n))

-- a state that cannot be good is bad
pub bad_if : (s : State) → (GoodState s → ⊥) → bad_state s ≡ true
bad_if s not_good = go (which (bad_state s))
  where
    go : Which (bad_state s) → bad_state s ≡ true
    go (holds y) = y
    go (fails n) = absurd (not_good (good_of s n))

-- where no gid is too large, only the kind is left to go against
module _ (s : State) (b : s.b ≤ max_gid) (t : s.t ≤ max_gid) (e : s.e ≤ max_gid) where
  only_kind : bad_state s ≡ not (fits_kind s)
  unfolding bad_state
  only_kind = rw (le-ltb max_gid s.b b, le-ltb max_gid s.t t, le-ltb max_gid s.e e)

  -- settled: "t = b ≤ e"
  pub settled_apart : s.kind ≡ 0 → (s.t ≡ s.b → ⊥) → bad_state s ≡ true
  unfolding fits_kind
  settled_apart k h = rw (only_kind, k, ne_eqb _ _ h)

  pub settled_order : s.kind ≡ 0 → s.t ≡ s.b → bad_state s ≡ ltb s.e s.b
  unfolding fits_kind
  settled_order k h = rw (only_kind, k, eq-eqb _ _ h, more_not_most)

  -- span: "b < t ≤ e"
  pub span_turned : s.kind ≡ 1 → s.t ≤ s.b → bad_state s ≡ true
  unfolding fits_kind
  span_turned k h = rw (only_kind, k, le-ltb _ _ h)

  pub span_order : s.kind ≡ 1 → s.b < s.t → bad_state s ≡ ltb s.e s.t
  unfolding fits_kind
  span_order k h = rw (only_kind, k, lt-ltb _ _ h, more_not_most)

  -- pair: "b < t = e"
  pub pair_turned : s.kind ≡ 2 → s.t ≤ s.b → bad_state s ≡ true
  unfolding fits_kind
  pair_turned k h = rw (only_kind, k, le-ltb _ _ h)

  pub pair_apart : s.kind ≡ 2 → s.b < s.t → bad_state s ≡ not (eqb s.t s.e)
  unfolding fits_kind
  pair_apart k h = rw (only_kind, k, lt-ltb _ _ h)

-- there is no kind above 2
pub no_kind : (s : State) → 2 < s.kind → bad_state s ≡ true
no_kind s h = bad_if s λ g. go g.fits
  where
    go : FitsKind s → ⊥
    go (is_settled k t e) = omega arith
    go (is_span k t e) = omega arith
    go (is_pair k t e) = omega arith

-- being settled is having the number 0, and being a pair the number 2
pub settled_by_number : (k : Kind) → sameb the_type k Settled ≡ eqb (kind_number k) 0
settled_by_number Settled = refl
settled_by_number Span = refl
settled_by_number Pair = refl

pub pair_by_number : (k : Kind) → sameb the_type k Pair ≡ eqb (kind_number k) 2
pair_by_number Settled = refl
pair_by_number Span = refl
pair_by_number Pair = refl

-- ---- the record of a state

-- a byte that is a kind is that kind's number
pub kind_read : (k byte : ℕ) → answer k ≡ kind_of byte → k ≡ byte
kind_read k byte e = go (which (ltb 2 byte))
  where
    go : Which (ltb 2 byte) → k ≡ byte
    go (holds y) = absurd (refuse_not_answer (sym (e ∙ ap (λ (f : Bool). guard f BadState (answer byte)) y)))
    go (fails n) = answer_injective (e ∙ ap (λ (f : Bool). guard f BadState (answer byte)) n)

-- a record of the right length, mark and spare byte is as its state is
module _ (r : List ℕ) (l : length r ≡ state_size) (m : opens r state_mark ≡ true) (z : get_or r 3 0 ≡ 0) where
  framed : read_state r ≡ guard (bad_state (state_of r)) BadState (answer (state_of r))
  unfolding read_state bad_record
  framed = rw (eq-eqb _ _ l, m, eq-eqb _ _ z)

  pub read_no_kind : 2 < get_or r 2 0 → read_state r ≡ refuse BadState
  unfolding state_of
  read_no_kind h = rw (framed, no_kind (state_of r) h)

  -- and its state is what was read of it, kind, b, t and e
  module _ (s : State) (k : s.kind ≡ get_or r 2 0) (b : s.b ≡ field r 4 8) (t : s.t ≡ field r 12 8) (e : s.e ≡ field r 20 8) where
    parts : state_of r ≡ s
    unfolding state_of
    parts = λ i. record { kind = sym k i; b = sym b i; t = sym t i; e = sym e i }

    pub read_bad : bad_state s ≡ true → read_state r ≡ refuse BadState
    read_bad h = rw (framed, parts, h)

    pub read_sound : bad_state s ≡ false → read_state r ≡ answer s
    read_sound h = rw (framed, parts, h)

-- ---- a state written out

-- a bad state is refused, then a slice that is too short; else the answer is the record
pub write_bad : (s : State) (room : ℕ) → bad_state s ≡ true → write_state s room ≡ refuse BadState
unfolding write_state
write_bad s room h = rw h

pub write_short : (s : State) (room : ℕ) → bad_state s ≡ false → room < state_size → write_state s room ≡ refuse NoRoom
unfolding write_state output
write_short s room h k = rw (h, state_length, lt-ltb _ _ k)

pub write_fits : (s : State) (room : ℕ) → bad_state s ≡ false → state_size ≤ room → write_state s room ≡ answer (wrote (state_bytes s))
unfolding write_state
write_fits s room h k = rw h (output_fits (state_bytes s) room (rw state_length k))

-- four bytes stored and three parts put after them, the first two of eight bytes, are one put
pub put_parts : (old x y z : List ℕ) (a b c d : ℕ) (u v w : List ℕ) → length u ≡ 8 → length v ≡ 8 → 20 + length w ≤ length old
    → x ≡ put 4 u (set (set (set (set old 0 a) 1 b) 2 c) 3 d) → y ≡ put 12 v x → z ≡ put 20 w y
    → z ≡ put 0 (a ∷ b ∷ c ∷ d ∷ (u ++ v ++ w)) old
put_parts old x y z a b c d u v w l m h e f g =
    let front : List ℕ = a ∷ b ∷ c ∷ d ∷ [] in
    let at_12 : length (front ++ u) ≡ 12 = omega arith in
    let at_20 : length (front ++ u ++ v) ≡ 20 = simp length-append (omega arith) in
    let x≡ : x ≡ put 0 (front ++ u) old = e ∙ rw (put_4 old 0 a b c d (omega arith)) (put_put 0 front u old (omega arith)) in
    let y≡ : y ≡ put 0 (front ++ u ++ v) old = f ∙ rw x≡ (rw at_12 at (put_put 0 (front ++ u) v old (omega arith))) in
    g ∙ rw y≡ (rw at_20 at (put_put 0 (front ++ u ++ v) w old (omega arith)))

-- bytes put where a slice opens stand before the rest of it
pub put_first : (bytes old : List ℕ) → put 0 bytes old ≡ bytes ++ drop (length bytes) old
unfolding put
put_first bytes old = let e : 0 + length bytes ≡ length bytes = omega arith in rw e

-- a good state with room answers its length, and its record stored part by part is over the slice
pub write_answers : (s : State) (room : ℕ) → bad_state s ≡ false → state_size ≤ room → comes_back (write_state s room) ≡ answer state_size
unfolding comes_back
write_answers s room h l = rw (write_fits s room h l, state_length)

pub write_over : (s : State) (k : ℕ) (old x y z : List ℕ) → bad_state s ≡ false → state_size ≤ length old → k ≡ s.kind
    → x ≡ put 4 (spelled 8 s.b) (set (set (set (set old 0 0x57) 1 0x53) 2 k) 3 0) → y ≡ put 12 (spelled 8 s.t) x → z ≡ put 20 (spelled 8 s.e) y
    → z ≡ over old (write_state s (length old))
unfolding state_bytes over
write_over s k old x y z h l n e f g =
    let b = spelled_length 8 s.b in
    let t = spelled_length 8 s.t in
    let w = spelled_length 8 s.e in
    let all = put_parts old x y z 0x57 0x53 k 0 (spelled 8 s.b) (spelled 8 s.t) (spelled 8 s.e) b t (omega arith) e f g in
    rw (write_fits s (length old) h l, ← n) (all ∙ put_first _ old)
