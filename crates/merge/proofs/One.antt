-- One outcome: what `merge` promises is met by one answer and one content of the lent slice.
use Prim.Native.Nat.{ℕ}
use mathlib.Core.Path.{◌≡◌, sym, ◌∙◌}
use mathlib.Core.List.{List}
use lib.ListN.{length}
use Rattle.std.specs.Prelude.{Result}
use Rattle.paper.specs.Answer.{comes_back, over}
use Rattle.paper.specs.Merge.{merge}
use Rattle.record.specs.declared.refusal.Refusal.{Refusal}
use Rattle.record.specs.States.{said_length}
use Rattle.record.proofs.One.{one_length}

pub one_merge : (d₀ d₁ old x y : List ℕ) (r s : Result ℕ Refusal)
    → said_length r ≡ comes_back (merge d₀ d₁ (length old)) → x ≡ over old (merge d₀ d₁ (length old))
    → said_length s ≡ comes_back (merge d₀ d₁ (length old)) → y ≡ over old (merge d₀ d₁ (length old))
    → (r ≡ s) × (x ≡ y)
one_merge d₀ d₁ old x y r s e f g h = (one_length r s (e ∙ sym g), f ∙ sym h)
