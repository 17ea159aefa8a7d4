-- Each way out of a plan over a shelf of bytes: the shelf is refused; or what the plan over it says is laid out, where there is room.
use Prim.Native.Nat.{ℕ, ◌-◌, ◌≤◌, ◌<◌}
use mathlib.Core.Path.{◌≡◌, refl, sym, ap, ◌∙◌}
use mathlib.Core.List.{List, ◌++◌}
use lib.ListN.{length, drop, replicate}
use borrow.Author.Tests.{lt-ltb, le-ltb}
use Rattle.paper.specs.Answer.{Said, answer, refuse, NoRoom}
use Rattle.paper.specs.Plan.{laid_out}
use Rattle.paper.proofs.Answers.{refuse_not_answer}
use Rattle.std.specs.Prelude.{Ok, Err}
use Rattle.record.specs.declared.refusal.Refusal.{Refusal}
use Rattle.record.specs.Refusals.{number_of}
use Rattle.plan.specs.declared.shelf.Shelf.{Shelf}
use Rattle.plan.specs.declared.planning.Plan.{Plan}
use Rattle.plan.specs.Shelves.{shelf}
use Rattle.plan.specs.Plans.{said_plan, plan, but_for_list, Answers}
use Rattle.plan.proofs.One.{said_refuses}
use Rattle.desk.specs.Shelves.{read_shelf, unread, planned, plan_row, Restores}

-- ---- the shelf

module _ (heads : List ℕ) (count : ℕ) (saved : List ℕ) (target : ℕ) (old : List ℕ) (size : ℕ) where
  refused : (k : ℕ) → read_shelf heads count ≡ refuse k → Restores heads count saved target old size k old size
  refused k e = record { said = refuse k; right = unread e; row = refl }

  pub shelf_no : (n k : ℕ) → read_shelf heads count ≡ refuse n → k ≡ n → Restores heads count saved target old size k old size
  shelf_no n k e f = rw f (refused n e)

-- ---- the plan

-- what is done is a list
record Listed (said : Said (List ℕ)) : Type 0 where
  list : List ℕ
  is : said ≡ answer list

listed : (said : Said (List ℕ)) → answer tt ≡ but_for_list said → Listed said
listed (answer l) e = record { list = l; is = refl }
listed (refuse k) e = absurd (refuse_not_answer (sym e))

-- the list with its zeros, and the rest of what was lent
list_row : (old new : List ℕ) (size n : ℕ) (places list : List ℕ) → new ≡ places ++ drop 96 old → places ≡ list ++ replicate (96 - length list) 0
    → n ≡ length list → (0, new, n) ≡ plan_row old size (answer list)
list_row old new size n places list e f g = rw (e, f, g) refl

module _ (heads : List ℕ) (count : ℕ) (saved : List ℕ) (target : ℕ) (old : List ℕ) (size : ℕ) (on : Shelf) (r : Plan)
    (shelved : read_shelf heads count ≡ answer (shelf on)) (a : Answers on saved target r) where
  pub plan_no : (x : Refusal) (k : ℕ) → r.said ≡ Err x → k ≡ number_of x → Restores heads count saved target old size k old size
  plan_no x k e f =
      let no = said_refuses a.said (number_of x) (sym (ap said_plan e) ∙ a.told.says) in
      record { said = a.said; right = planned shelved a.right; row = rw (no, f) refl }

  module _ (e : r.said ≡ Ok tt) where
    its : Listed a.said
    its = listed a.said (sym (ap said_plan e) ∙ a.told.says)

    pub plan_short : (k : ℕ) → length old < 96 → k ≡ NoRoom → Restores heads count saved target old size k old size
    plan_short k h f = record { said = a.said; right = planned shelved a.right; row = rw (its.is, lt-ltb (length old) 96 h, f) refl }

    pub plan_yes : (new : List ℕ) → 96 ≤ length old → new ≡ r.places ++ drop 96 old → Restores heads count saved target old size 0 new r.length
    unfolding laid_out
    plan_yes new h f =
        let lays : plan r ≡ laid_out (shelf on) (answer its.list) = a.told.lays ∙ ap (laid_out (shelf on)) its.is in
        let places : r.places ≡ its.list ++ replicate (96 - length its.list) 0 = ap (λ p. p.places) lays in
        let long : r.length ≡ length its.list = ap (λ p. p.length) lays in
        record { said = a.said; right = planned shelved a.right; row = rw (its.is, le-ltb (length old) 96 h) (list_row old new size r.length r.places its.list f places long) }
