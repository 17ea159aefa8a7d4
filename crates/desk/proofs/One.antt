-- One outcome: each promise but the plan's is an equation, and its other side is worked out from what was there at entry, so two outcomes that meet it are equal.
-- A plan says one thing of a shelf (`plan_one_outcome`), and bytes are one shelf, so its row is one too.
use Prim.Native.Nat.{ℕ}
use mathlib.Core.Path.{◌≡◌, sym, ◌∙◌}
use mathlib.Core.List.{List}
use lib.IntN.{ℤ}
use lib.ListN.{length}
use Rattle.paper.specs.Answer.{Said}
use Rattle.paper.specs.Diff.{check}
use Rattle.paper.specs.State.{State, read_state, write_state}
use Rattle.paper.specs.Volume.{run, read_through, lag}
use Rattle.paper.specs.Merge.{merge}
use Rattle.paper.specs.Compare.{compare}
use Rattle.paper.proofs.Answers.{answer_injective, refuse_not_answer}
use Rattle.paper.proofs.Plans.{plan_one_outcome}
use Rattle.desk.specs.Rows.{head_row, state_row, wrote_row, decide_records, further_row, apply_record, applied_row, view_row, lag_row}
use Rattle.desk.specs.Shelves.{Says, unread, planned, Restores}

one_row : {A : Type 0} {x : A} (o o' : A) → o ≡ x → o' ≡ x → o ≡ o'
one_row o o' e f = e ∙ sym f

pub one_check : (d : List ℕ) (kind p q n : ℕ) (o o' : ℕ × ℕ × ℕ × ℕ × ℕ) → o ≡ head_row kind p q n (check d) → o' ≡ head_row kind p q n (check d) → o ≡ o'
one_check d kind p q n = one_row

pub one_read_state : (saved : List ℕ) (kind b t e : ℕ) (o o' : ℕ × ℕ × ℕ × ℕ × ℕ) → o ≡ state_row kind b t e (read_state saved)
    → o' ≡ state_row kind b t e (read_state saved) → o ≡ o'
one_read_state saved kind b t e = one_row

pub one_write_state : (s : State) (out : List ℕ) (size : ℕ) (o o' : ℕ × List ℕ × ℕ) → o ≡ wrote_row out size (write_state s (length out))
    → o' ≡ wrote_row out size (write_state s (length out)) → o ≡ o'
one_write_state s out size = one_row

pub one_decide : (d saved img during done : List ℕ) (o o' : ℕ × List ℕ × List ℕ)
    → o ≡ further_row during done (decide_records d saved img (length during) (length done))
    → o' ≡ further_row during done (decide_records d saved img (length during) (length done)) → o ≡ o'
one_decide d saved img during done = one_row

pub one_apply : (d saved img done : List ℕ) (o o' : ℕ × List ℕ × List ℕ) → o ≡ applied_row img done (apply_record d saved img (length done))
    → o' ≡ applied_row img done (apply_record d saved img (length done)) → o ≡ o'
one_apply d saved img done = one_row

pub one_run : (d img : List ℕ) (i k next : ℕ) (o o' : ℕ × List ℕ × ℕ) → o ≡ wrote_row img next (run d img i k) → o' ≡ wrote_row img next (run d img i k) → o ≡ o'
one_run d img i k next = one_row

pub one_merge : (first second out : List ℕ) (size : ℕ) (o o' : ℕ × List ℕ × ℕ) → o ≡ wrote_row out size (merge first second (length out))
    → o' ≡ wrote_row out size (merge first second (length out)) → o ≡ o'
one_merge first second out size = one_row

pub one_compare : (old new : List ℕ) (p q : ℕ) (out : List ℕ) (size : ℕ) (o o' : ℕ × List ℕ × ℕ) → o ≡ wrote_row out size (compare old new p q (length out))
    → o' ≡ wrote_row out size (compare old new p q (length out)) → o ≡ o'
one_compare old new p q out size = one_row

pub one_read_through : (d img : List ℕ) (a slice at : ℕ) (o o' : ℕ × ℕ × ℕ) → o ≡ view_row slice at (read_through d img a)
    → o' ≡ view_row slice at (read_through d img a) → o ≡ o'
one_read_through d img a slice at = one_row

pub one_lag : (saved : List ℕ) (target : ℕ) (gids : ℤ) (o o' : ℕ × ℤ) → o ≡ lag_row gids (lag saved target) → o' ≡ lag_row gids (lag saved target) → o ≡ o'
one_lag saved target gids = one_row

-- ---- the plan

says_one : {heads : List ℕ} {count : ℕ} {saved : List ℕ} {target : ℕ} {x y : Said (List ℕ)} → Says heads count saved target x → Says heads count saved target y → x ≡ y
says_one (unread e) (unread f) = cc
says_one (unread e) (planned f p) = absurd (refuse_not_answer (sym e ∙ f))
says_one (planned e p) (unread f) = absurd (refuse_not_answer (sym f ∙ e))
says_one (planned e p) (planned f q) = let same = answer_injective (sym e ∙ f) in plan_one_outcome p (rw (← same) at q)

pub one_plan : (heads : List ℕ) (count : ℕ) (saved : List ℕ) (target : ℕ) (places : List ℕ) (size r r' : ℕ) (new new' : List ℕ) (size₁ size₂ : ℕ)
    → Restores heads count saved target places size r new size₁ → Restores heads count saved target places size r' new' size₂
    → ◌≡◌ {A = ℕ × List ℕ × ℕ} (r, new, size₁) (r', new', size₂)
one_plan heads count saved target places size r r' new new' size₁ size₂ a b = let same = says_one a.right b.right in a.row ∙ rw same (sym b.row)
