-- `State::is_bad` meets its contract: a gid that is too large is bad whatever the kind, and where none is, what is left is the kind's own rule.
use mathlib.Core.Path.{sym, ap}
use native.Mathlib.Omega.{arith}
use Rattle.record.specs.States.{kind_number}
use Rattle.record.proofs.StateLaws.{bad_if, settled_apart, settled_order, span_turned, span_order, pair_turned, pair_apart}
use Rattle.record.proofs.state.State.is_bad.Goals as goal

pub returns-then-self-gt-MAX_GID : goal.returns-then-self-gt-MAX_GID
returns-then-self-gt-MAX_GID c = sym (bad_if _ λ g. omega (arith, g.b))

pub returns-then-self-gt-MAX_GID-2 : goal.returns-then-self-gt-MAX_GID-2
returns-then-self-gt-MAX_GID-2 c = sym (bad_if _ λ g. omega (arith, g.t))

pub returns-then-self-gt-MAX_GID-3 : goal.returns-then-self-gt-MAX_GID-3
returns-then-self-gt-MAX_GID-3 c = sym (bad_if _ λ g. omega (arith, g.e))

pub returns-then-self : goal.returns-then-self
returns-then-self c =
    sym (settled_apart _ (omega arith) (omega arith) (omega arith) (ap kind_number c.in-Settled.is) c.if-self.true)

pub returns-then-self-2 : goal.returns-then-self-2
returns-then-self-2 c =
    sym (span_turned _ (omega arith) (omega arith) (omega arith) (ap kind_number c.in-Span.is) c.if-self-2.true)

pub returns-then-self-3 : goal.returns-then-self-3
returns-then-self-3 c =
    sym (pair_turned _ (omega arith) (omega arith) (omega arith) (ap kind_number c.in-Pair.is) c.if-self-3.true)

pub returns-else-self : goal.returns-else-self
returns-else-self c =
    sym (settled_order _ (omega arith) (omega arith) (omega arith) (ap kind_number c.in-Settled.is) c.if-self.false)

pub returns-else-self-2 : goal.returns-else-self-2
returns-else-self-2 c =
    sym (span_order _ (omega arith) (omega arith) (omega arith) (ap kind_number c.in-Span.is) c.if-self-2.false)

pub returns-else-self-3 : goal.returns-else-self-3
returns-else-self-3 c =
    sym (pair_apart _ (omega arith) (omega arith) (omega arith) (ap kind_number c.in-Pair.is) c.if-self-3.false)
