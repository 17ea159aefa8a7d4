-- One outcome: what the check promises is met by one answer.
use mathlib.Core.Path.{◌≡◌, refl, sym, ◌∙◌}
use Prim.Native.Nat.{ℕ}
use mathlib.Core.List.{List}
use Rattle.std.specs.Prelude.{Result, Ok, Err}
use Rattle.paper.specs.Diff.{check}
use Rattle.record.specs.declared.head.Head.{Head}
use Rattle.record.specs.declared.records.Checked.{Checked}
use Rattle.record.specs.declared.refusal.Refusal.{Refusal}
use Rattle.record.specs.Heads.{said_head}
use Rattle.diff.specs.Whole.{said_whole}
use Rattle.record.proofs.One.{one_head}

pub one_check : (d : List ℕ) (r s : Result Head Refusal) → said_head r ≡ check d → said_head s ≡ check d → r ≡ s
one_check d r s e f = one_head r s (e ∙ sym f)

-- of the call that hands the diff on: the head, or the refusal; its bytes are the lent ones, which the clause `kept` says
pub heads : Result Checked Refusal → Result Head Refusal
heads (Ok c) = Ok c.h
heads (Err x) = Err x

head_said : (r : Result Checked Refusal) → said_head (heads r) ≡ said_whole r
unfolding heads
head_said (Ok c) = refl
head_said (Err x) = refl

pub one_whole : (d : List ℕ) (r s : Result Checked Refusal) → said_whole r ≡ check d → said_whole s ≡ check d → heads r ≡ heads s
one_whole d r s e f = one_check d (heads r) (heads s) (head_said r ∙ e) (head_said s ∙ f)
