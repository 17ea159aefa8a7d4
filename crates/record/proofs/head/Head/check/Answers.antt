-- Each return is one row of the head rules: a broken rule, a count that is too large, or a head that keeps them all.
use mathlib.Core.Path.{sym}
use Rattle.record.proofs.Checks.{kind, spare, large_p, large_q, falls, head_refused, head_accepted}
use Rattle.record.proofs.head.Head.check.Goals as goal

pub returns-then-self-gt-COMPARED : goal.returns-then-self-gt-COMPARED
returns-then-self-gt-COMPARED c = sym (head_refused (kind c.if-self-gt-COMPARED.true))

pub returns-then-self-ne0 : goal.returns-then-self-ne0
returns-then-self-ne0 c = sym (head_refused (spare c.if-self-ne0.true))

pub returns-then-self-gt-MAX_GID : goal.returns-then-self-gt-MAX_GID
returns-then-self-gt-MAX_GID c = sym (head_refused (large_p c.if-self-gt-MAX_GID.true))

pub returns-then-self-gt-MAX_GID-2 : goal.returns-then-self-gt-MAX_GID-2
returns-then-self-gt-MAX_GID-2 c = sym (head_refused (large_q c.if-self-gt-MAX_GID-2.true))

pub returns-then-self : goal.returns-then-self
returns-then-self c = sym (head_refused (falls c.if-self.true))

pub returns : goal.returns
returns c = sym (head_accepted (search) c.if-self-gt-MAX_BLOCKS.false)
