-- One outcome: two plans that meet the promise are equal, since a plan says one thing and the maps to `paper` are injective.
-- Demand 2 of plans, "refused exactly where no list is a plan": `no_chain_exactly` of `paper`, carried to the code's answer.
use Prim.Native.Nat.{ℕ}
use mathlib.Core.Path.{◌≡◌, refl, sym, ap, ◌∙◌}
use mathlib.Core.Logic.{◌↔◌}
use mathlib.Core.List.{List, [], ◌∷◌, map}
use Rattle.std.specs.Prelude.{Result, Err}
use Rattle.paper.specs.Answer as table
use Rattle.paper.specs.Answer.{Said, answer, refuse}
use Rattle.paper.specs.Plan.{laid_out}
use Rattle.paper.proofs.Plans.{plan_one_outcome, NoList, no_chain_exactly}
use Rattle.record.specs.declared.head.Head.{Head}
use Rattle.record.specs.declared.refusal.Refusal.{Refusal}
use Rattle.record.specs.declared.refusal.Refusal.TheVariants.{NoChain}
use Rattle.record.specs.Heads.{head}
use Rattle.record.proofs.One.{one_said_by}
use Rattle.plan.specs.declared.shelf.Shelf.{Shelf}
use Rattle.plan.specs.declared.planning.Plan.{Plan}
use Rattle.plan.specs.Shelves.{shelf, said_entries}
use Rattle.plan.specs.Plans.{said_plan, plan, but_for_list, Answers}

-- ---- two answers that say the same are the same

one_head : (h k : Head) → head h ≡ head k → h ≡ k
one_head h k e = λ i. record { kind = (e i).kind; spare = (e i).spare; p = (e i).p; q = (e i).q; n = (e i).n }

one_list : {A B : Type 0} (f : A → B) → ((a b : A) → f a ≡ f b → a ≡ b) → (l m : List A) → map f l ≡ map f m → l ≡ m
one_list f one [] [] e = refl
one_list f one [] (b ∷ m) e = cc
one_list f one (a ∷ l) [] e = cc
one_list f one (a ∷ l) (b ∷ m) e =
    let here : a ≡ b = one a b (cc) in
    let rest : l ≡ m = one_list f one l m (cc) in
    cc

-- what an empty or a kept shelf is
pub one_shelf : (s t : Shelf) → shelf s ≡ shelf t → s ≡ t
one_shelf s t e =
    let heads = one_list head one_head s.heads t.heads (ap (λ v. v.heads) e) in
    λ i. record { heads = heads i; count = (e i).count }

-- what the check of the entries says
pub one_entries : (r s : Result (Unit {0}) Refusal) → said_entries r ≡ said_entries s → r ≡ s
one_entries = one_said_by (λ u v e. refl)

one_said : (r s : Result (Unit {0}) Refusal) → said_plan r ≡ said_plan s → r ≡ s
one_said = one_entries

pub one_plan : (r s : Plan) → said_plan r.said ≡ said_plan s.said → plan r ≡ plan s → r ≡ s
one_plan r s e f =
    let said = one_said r.said s.said e in
    let kept = one_shelf r.shelf s.shelf (ap (λ v. v.shelf) f) in
    λ i. record { said = said i; length = (f i).length; places = (f i).places; shelf = kept i }

-- ---- the call

pub one_plan_restore : (on : Shelf) (saved : List ℕ) (target : ℕ) (r r' : Plan) → Answers on saved target r → Answers on saved target r' → r ≡ r'
one_plan_restore on saved target r r' a b =
    let same : a.said ≡ b.said = plan_one_outcome a.right b.right in
    one_plan r r'
    (a.told.says ∙ ap but_for_list same ∙ sym b.told.says)
    (a.told.lays ∙ ap (laid_out (shelf on)) same ∙ sym b.told.lays)

-- ---- NoChain exactly where no list is a plan

pub said_refuses : (said : Said (List ℕ)) (k : ℕ) → refuse k ≡ but_for_list said → said ≡ refuse k
said_refuses (answer l) k e = cc
said_refuses (refuse j) k e = cc

pub answers_no_chain_exactly : (on : Shelf) (saved : List ℕ) (target : ℕ) (r : Plan) → Answers on saved target r
    → (r.said ≡ Err NoChain) ↔ NoList (shelf on) saved target
answers_no_chain_exactly on saved target r a = (λ e. said_none (said_refuses a.said table.NoChain (sym (ap said_plan e) ∙ a.told.says)), says_so)
  where
    said_none : a.said ≡ refuse table.NoChain → NoList (shelf on) saved target
    said_none e = (no_chain_exactly (shelf on) saved target).0 (rw e at a.right)

    says_so : NoList (shelf on) saved target → r.said ≡ Err NoChain
    says_so n =
        let same : a.said ≡ refuse table.NoChain = plan_one_outcome a.right ((no_chain_exactly (shelf on) saved target).1 n) in
        one_said r.said (Err NoChain) (a.told.says ∙ ap but_for_list same)
