-- The checks come in the paper's order, each as one test; what passes them is checked as a head.
use mathlib.Core.Path.{ap, ◌∙◌}
use borrow.Author.Tests.{lt-ltb, le-ltb}
use Rattle.paper.specs.Diff.{read_head, check_head}
use Rattle.record.proofs.head.Head.read.Goals as goal

pub returns-then-d-lt-SIZE : goal.returns-then-d-lt-SIZE
unfolding read_head
returns-then-d-lt-SIZE c = rw (lt-ltb _ _ c.if-d-lt-SIZE.true)

pub returns-then-not-opens : goal.returns-then-not-opens
unfolding read_head
returns-then-not-opens c = rw (le-ltb _ _ c.if-d-lt-SIZE.false, ← c.opens.ensures, c.if-not-opens.true)

pub returns : goal.returns
unfolding read_head
returns c =
    rw (le-ltb _ _ c.if-d-lt-SIZE.false, ← c.opens.ensures, c.if-not-opens.false)
    (c.check.ensures ∙ ap check_head c.of.ensures)
