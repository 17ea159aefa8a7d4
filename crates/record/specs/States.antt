-- A kind and a state of the code as those of `paper`, and what reading and writing one say.
use Rattle.std.specs.Prelude.{ℕ, ltb}
use Rattle.std.specs.Prelude.{Result}
use Rattle.paper.specs.Answer.{Said, answer, guard, BadState}
use Rattle.paper.specs.State as Paper
use Rattle.record.specs.declared.refusal.Refusal.{Refusal}
use Rattle.record.specs.declared.state.Kind.{Kind}
use Rattle.record.specs.declared.state.Kind.TheVariants.{Settled, Span, Pair}
use Rattle.record.specs.declared.state.State.{State}
use Rattle.record.specs.Refusals.{said}

abbrev pub kind_number : Kind → ℕ
kind_number Settled = 0
kind_number Span = 1
kind_number Pair = 2

-- of a byte that is to be a kind: "Kind 0 (settled)", "Kind 1 (span)", "Kind 2 (pair)"
abbrev pub said_kind : Result Kind Refusal → Said ℕ
said_kind = said kind_number

-- a byte above 2 stands for none
abbrev pub kind_of : ℕ → Said ℕ
kind_of byte = guard (ltb 2 byte) BadState (answer byte)

abbrev pub state : State → Paper.State
state s = record { kind = kind_number s.kind; b = s.b; t = s.t; e = s.e }

abbrev pub said_state : Result State Refusal → Said Paper.State
said_state = said state

-- of a call that writes: the length
abbrev pub said_length : Result ℕ Refusal → Said ℕ
said_length = said (λ n. n)
