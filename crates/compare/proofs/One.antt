-- One outcome: what `compare` promises is met by one answer and one content of the lent slice.
use Prim.Native.Nat.{ℕ}
use mathlib.Core.Path.{◌≡◌, sym, ◌∙◌}
use mathlib.Core.List.{List}
use lib.ListN.{length}
use Rattle.std.specs.Prelude.{Result}
use Rattle.paper.specs.Answer.{comes_back, over}
use Rattle.paper.specs.Compare.{compare}
use Rattle.record.specs.declared.refusal.Refusal.{Refusal}
use Rattle.record.specs.States.{said_length}
use Rattle.record.proofs.One.{one_length}

pub one_compare : (old new : List ℕ) (p q : ℕ) (out : List ℕ) (r s : Result ℕ Refusal) (x y : List ℕ)
    → said_length r ≡ comes_back (compare old new p q (length out)) → said_length s ≡ comes_back (compare old new p q (length out))
    → x ≡ over out (compare old new p q (length out)) → y ≡ over out (compare old new p q (length out)) → (r ≡ s) × (x ≡ y)
one_compare old new p q out r s x y e f g h = (one_length r s (e ∙ sym f), g ∙ sym h)
