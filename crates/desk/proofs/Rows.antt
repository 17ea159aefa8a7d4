-- Each way out of a call gives its row: what the proved call below said, put beside what was lent.
use Prim.Native.Nat.{ℕ}
use mathlib.Core.Path.{◌≡◌, refl, sym, ap, ◌∙◌}
use mathlib.Core.List.{List}
use mathlib.Core.Bool.{Bool}
use lib.Dec.{ltb}
use lib.IntN.{ℤ}
use borrow.Author.Tests.{ltb-true}
use Rattle.paper.specs.Answer.{Said, answer, refuse, guard, Wrote, comes_back, over, BadState}
use Rattle.paper.specs.Diff as Diff
use Rattle.paper.specs.State as Paper
use Rattle.paper.specs.State.{write_state}
use Rattle.paper.proofs.Answers.{refuse_not_answer}
use Rattle.paper.proofs.Bools.{Which, holds, fails, which}
use Rattle.record.specs.declared.refusal.Refusal.{Refusal}
use Rattle.std.specs.Prelude.{Result, Ok, Err}
use Rattle.record.specs.declared.head.Head.{Head}
use Rattle.record.specs.Refusals.{number_of}
use Rattle.record.specs.Heads.{said_head}
use Rattle.record.specs.States.{kind_of, said_length}
use Rattle.record.proofs.StateLaws.{no_kind, write_bad}
use Rattle.desk.specs.Answers.{number_row}
use Rattle.volume.specs.Lags.{said_lag}
use Rattle.desk.specs.Rows.{head_row, lag_row, wrote_row}

-- ---- the check of a diff, and the lag

module _ (kind p q n : ℕ) (m : Said Diff.Head) (r : Result Head Refusal) (says : said_head r ≡ m) where
  pub head_no : (x : Refusal) (k : ℕ) → r ≡ Err x → k ≡ number_of x → (k, kind, p, q, n) ≡ head_row kind p q n m
  head_no x k e f = rw (← says, e, f) refl

module _ (gids : ℤ) (m : Said ℤ) (r : Result ℤ Refusal) (says : said_lag r ≡ m) where
  pub lag_yes : (v : ℤ) → r ≡ Ok v → (0, v) ≡ lag_row gids m
  lag_yes v e = rw (← says, e) refl

-- ---- calls that write

-- what a call that writes said, and what it left
wrote_no : (old : List ℕ) (number : ℕ) (m : Said (Wrote ℕ)) (new : List ℕ) (k : ℕ) → new ≡ over old m → refuse k ≡ comes_back m
    → (k, new, number) ≡ wrote_row old number m
unfolding over comes_back
wrote_no old number (answer w) new k l e = cc
wrote_no old number (refuse j) new k l e = cc

wrote_yes : (old : List ℕ) (number : ℕ) (m : Said (Wrote ℕ)) (new : List ℕ) (v : ℕ) → new ≡ over old m → answer v ≡ comes_back m
    → (0, new, v) ≡ wrote_row old number m
unfolding over comes_back
wrote_yes old number (answer w) new v l e = cc
wrote_yes old number (refuse j) new v l e = cc

-- its number handed out
pub wrote : (old : List ℕ) (number : ℕ) (m : Said (Wrote ℕ)) (new : List ℕ) (r : Result ℕ Refusal) (k n : ℕ) → new ≡ over old m → said_length r ≡ comes_back m
    → ◌≡◌ {A = ℕ × ℕ} (k, n) (number_row number r) → (k, new, n) ≡ wrote_row old number m
wrote old number m new (Ok v) k n l says e = rw (ap (λ (p : ℕ × ℕ). p.0) e, ap (λ (p : ℕ × ℕ). p.1) e) (wrote_yes old number m new v l says)
wrote old number m new (Err x) k n l says e = rw (ap (λ (p : ℕ × ℕ). p.0) e, ap (λ (p : ℕ × ℕ). p.1) e) (wrote_no old number m new (number_of x) l says)

refuse_injective : {A : Type 0} {j k : ℕ} → ◌≡◌ {A = Said A} (refuse j) (refuse k) → j ≡ k
refuse_injective e = cc

-- a byte that stands for no kind
pub kind_no : (k : ℕ) (s : Paper.State) (room : ℕ) → refuse k ≡ kind_of s.kind → refuse k ≡ write_state s room
kind_no k s room e = go (which (ltb 2 s.kind))
  where
    go : Which (ltb 2 s.kind) → refuse k ≡ write_state s room
    go (holds y) =
        let same : k ≡ BadState = refuse_injective (e ∙ ap (λ (f : Bool). guard f BadState (answer s.kind)) y) in
        rw same (sym (write_bad s room (no_kind s (ltb-true 2 s.kind y))))
    go (fails n) = absurd (refuse_not_answer (e ∙ ap (λ (f : Bool). guard f BadState (answer s.kind)) n))
