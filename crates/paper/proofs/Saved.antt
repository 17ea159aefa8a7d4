-- A state record: what is written is read back, and what is read was good. Each field stands where its width puts it.
use Prim.Native.Nat.{ℕ}
use mathlib.Core.Path.{◌≡◌, refl}
use mathlib.Core.List.{List, [], ◌∷◌, ◌++◌, append_assoc, append-nil}
use mathlib.Core.Bool.{not, ◌||◌}
use native.Mathlib.Omega.{arith}
use lib.Dec.{eqb}
use lib.ListN.{length, get_or, length-append}
use Rattle.paper.specs.Limits.{state_size, state_mark}
use Rattle.paper.specs.Number.{spelled, opens}
use Rattle.paper.specs.Answer.{answer, BadState}
use Rattle.paper.specs.State.{State, state_of, state_bytes, bad_record, read_state}
use Rattle.paper.proofs.Bools.{or_false_right}
use Rattle.paper.proofs.Answers.{answer_injective, guard_answer}
use Rattle.paper.proofs.Numbers.{spelled_length, field_at}
use Rattle.paper.proofs.States.{GoodState, good_of, good_back}

-- a state that is read is good
pub read_good : {s : State} (r : List ℕ) → read_state r ≡ answer s → GoodState s
unfolding read_state bad_record
read_good {s} r e =
    let c = guard_answer (bad_record r) BadState _ e in
    let g = good_of (state_of r) (or_false_right (not (eqb (length r) state_size) || not (opens r state_mark) || not (eqb (get_or r 3 0) 0)) _ c.clear) in
    rw (answer_injective c.onward) at g

pub state_length : (s : State) → length (state_bytes s) ≡ state_size
unfolding state_bytes
state_length s = simp (length-append, spelled_length) (omega arith)

state_parts : (s : State) → state_bytes s ≡ 0x57 ∷ 0x53 ∷ s.kind ∷ 0 ∷ (spelled 8 s.b ++ (spelled 8 s.t ++ (spelled 8 s.e ++ [])))
unfolding state_bytes
state_parts s = simp (append_assoc, append-nil)

state_back : (s : State) → GoodState s → state_of (state_bytes s) ≡ s
unfolding state_of
state_back s g =
    let mark : List ℕ = 0x57 ∷ 0x53 ∷ s.kind ∷ 0 ∷ [] in
    let b = field_at mark (spelled 8 s.t ++ (spelled 8 s.e ++ [])) 8 s.b 4 refl (omega (arith, g.b)) in
    let t = field_at (mark ++ spelled 8 s.b) (spelled 8 s.e ++ []) 8 s.t 12 (simp spelled_length) (omega (arith, g.t)) in
    let e = field_at (mark ++ (spelled 8 s.b ++ spelled 8 s.t)) [] 8 s.e 20 (simp (length-append, spelled_length)) (omega (arith, g.e)) in
    let e' = simp append_assoc at e in
    rw state_parts λ i. record { kind = s.kind; b = b i; t = t i; e = e' i }

-- a good state is read back from its record
pub saved_reads : (s : State) → GoodState s → read_state (state_bytes s) ≡ answer s
unfolding read_state bad_record opens
saved_reads s g = rw (state_length s, state_back s g, good_back s g, state_parts s)
