-- What a plan says is one thing: the first list is unique since the order is total, and no plan outlasts the shelf since b rises past an entry's q with every step.
use Prim.Native.Nat.{ℕ, zero, suc, ◌+◌, ◌≤◌, ◌<◌}
use mathlib.Core.Path.{◌≡◌, refl, sym, ap, ◌∙◌}
use mathlib.Core.Logic.{◌≢◌, ◌↔◌}
use mathlib.Core.List.{List, [], ◌∷◌, ◌++◌}
use mathlib.Core.Bool.{Bool, true, false, true≢false}
use lib.Dec.{ltb, leb}
use lib.ListN.{length, take, length-take}
use lib.Seq.{ext_get_or, get_or-take}
use native.Mathlib.Omega.{arith}
use borrow.Author.Tests.{ltb-true, lt-ltb, le-ltb, leb-false}
use Rattle.paper.specs.Answer.{Said, answer, refuse, guard, ◌then◌, number, NoChain, BadHead, TooMany, BadState, ShelfFull, BadGid}
use Rattle.paper.specs.Limits.{max_blocks, max_places, max_gid}
use Rattle.paper.specs.Diff.{bad_head, check_head}
use Rattle.paper.specs.State.{State, state_of, bad_record, read_state}
use Rattle.paper.specs.Volume.{done_state, decide_on}
use Rattle.paper.specs.Plan.{Shelf, blank, entry, check_entries, plan_checks, follow, is_plan, First, PlanSays, refused, listed, no_chain, kept_shelf, laid_out, NoPlan}
use Rattle.paper.proofs.Answers.{refuse_not_answer}
use Rattle.paper.proofs.Order.{neither_before}
use Rattle.paper.proofs.Count.{how_many, how_many_bounded, how_many_more}
use Rattle.paper.proofs.Step.{next, Accepted, plan_opens, plan_nil, plan_rises, at_target_b}

-- ---- one outcome

-- the first list is one list
pub first_unique : {shelf : Shelf} {s : State} {target : ℕ} {l m : List ℕ} → First shelf s target l → First shelf s target m → l ≡ m
first_unique {l} {m} f g = neither_before l m (g.first l f.plan) (f.first m g.plan)

-- a plan says one thing
pub plan_one_outcome : {shelf : Shelf} {state : List ℕ} {target : ℕ} {r r' : Said (List ℕ)}
    → PlanSays shelf state target r → PlanSays shelf state target r' → r ≡ r'
plan_one_outcome (refused p) (refused q) = cc
plan_one_outcome (refused p) (listed q g) = cc
plan_one_outcome (refused p) (no_chain q g) = cc
plan_one_outcome (listed p f) (refused q) = cc
plan_one_outcome (listed {s} p f) (listed {s = s'} q g) =
    let e : s' ≡ s = cc in
    ap answer (first_unique f (rw e at g))
plan_one_outcome (listed {places} p f) (no_chain q none) = cc (none places, f.plan)
plan_one_outcome (no_chain p none) (refused q) = cc
plan_one_outcome (no_chain p none) (listed {places} q g) = cc (none places, g.plan)
plan_one_outcome (no_chain p none) (no_chain q none') = refl

-- ---- refused exactly where no list is a plan

module _ {shelf : Shelf} {state : List ℕ} {target : ℕ} {s : State} (checked : plan_checks shelf state target ≡ answer s) where
  -- past the checks, the one refusal is NoChain, and no list is a plan
  pub refused_is_no_chain : {k : ℕ} → PlanSays shelf state target (refuse k)
      → (k ≡ NoChain) × NoPlan shelf s target
  refused_is_no_chain (refused p) = absurd (refuse_not_answer (sym p ∙ checked))
  refused_is_no_chain (no_chain {s = s'} p none) =
      let e : s' ≡ s = cc in (refl, λ l. rw (← e) (none l))

  -- where no list is a plan, it is refused
  pub no_plan_is_refused : NoPlan shelf s target → PlanSays shelf state target (refuse NoChain)
  no_plan_is_refused none = no_chain checked none

  -- where some list is a plan, it is not
  pub some_plan_is_not_refused : {k : ℕ} (l : List ℕ) → is_plan shelf s target l ≡ true → PlanSays shelf state target (refuse k) → ⊥
  some_plan_is_not_refused l e r = true≢false (sym e ∙ (refused_is_no_chain r).1 l)

-- the checks before 19 have other numbers
guard_never : {A : Type 0} (n : ℕ) (a : Bool) (k : ℕ) (rest : Said A) → k ≢ n → number rest ≢ n → number (guard a k rest) ≢ n
unfolding number
guard_never n true k rest h r = h
guard_never n false k rest h r = r

then_never : {A B : Type 0} (n : ℕ) (a : Said A) (f : A → Said B) → number a ≢ n → ((x : A) → number (f x) ≢ n) → number (a then f) ≢ n
unfolding number
then_never n (answer x) f h r = r x
then_never n (refuse k) f h r = h

check_entries_never : (shelf : Shelf) (i k : ℕ) → number (check_entries shelf i k) ≢ NoChain
unfolding check_entries check_head number
check_entries_never shelf i zero = omega arith
check_entries_never shelf i (suc k) =
    then_never NoChain (check_head (entry shelf i)) _
    (guard_never NoChain (bad_head (entry shelf i)) BadHead _ (omega arith)
    (guard_never NoChain (ltb max_blocks (entry shelf i).n) TooMany _ (omega arith) (omega arith)))
    (λ _. check_entries_never shelf (suc i) k)

read_state_never : (r : List ℕ) → number (read_state r) ≢ NoChain
unfolding read_state number
read_state_never r =
    guard_never NoChain
    (bad_record r) BadState (answer (state_of r)) (omega arith) (omega arith)

plan_checks_never : (shelf : Shelf) (state : List ℕ) (target : ℕ) → number (plan_checks shelf state target) ≢ NoChain
unfolding plan_checks number
plan_checks_never shelf state target =
    guard_never NoChain (ltb max_places shelf.count) ShelfFull _ (omega arith)
    (then_never NoChain (check_entries shelf 0 shelf.count) _ (check_entries_never shelf 0 shelf.count) λ _.
    then_never NoChain (read_state state) _ (read_state_never state) λ s.
    guard_never NoChain (ltb max_gid target) BadGid (answer s) (omega arith) (omega arith))

-- the checks pass, and no list is a plan
pub record NoList (shelf : Shelf) (state : List ℕ) (target : ℕ) : Type 0 where
  pub from : State
  pub checked : plan_checks shelf state target ≡ answer from
  pub none : NoPlan shelf from target

-- NoChain is said exactly there
pub no_chain_exactly : (shelf : Shelf) (state : List ℕ) (target : ℕ) → PlanSays shelf state target (refuse NoChain) ↔ NoList shelf state target
unfolding number
no_chain_exactly shelf state target = (go, λ r. no_chain r.checked r.none)
  where
    go : PlanSays shelf state target (refuse NoChain) → NoList shelf state target
    go (refused p) = absurd (plan_checks_never shelf state target (ap number p))
    go (no_chain p f) = record { from = _; checked = p; none = f }

-- ---- how long a plan may be

-- no plan begins another
pub none_begins_another : (shelf : Shelf) (s : State) (target : ℕ) (l m : List ℕ)
    → is_plan shelf s target l ≡ true → is_plan shelf s target (l ++ m) ≡ true → m ≡ []
unfolding done_state
none_begins_another shelf s target [] [] p q = refl
none_begins_another shelf s target [] (i ∷ m) p q =
    let o = plan_opens shelf s target i m q in
    absurd (omega (arith, at_target_b s target (sym (plan_nil shelf s target) ∙ p), plan_rises shelf (next shelf s i) target m o.rest))
none_begins_another shelf s target (i ∷ l) m p q =
    none_begins_another shelf (next shelf s i) target l m (plan_opens shelf s target i l p).rest (plan_opens shelf s target i (l ++ m) q).rest

-- every entry of a plan has its q above b
pub plan_entry_above : (shelf : Shelf) (s : State) (target : ℕ) (l : List ℕ) (i : ℕ) (m : List ℕ)
    → is_plan shelf s target (l ++ i ∷ m) ≡ true → s.b < (entry shelf i).q
unfolding done_state
plan_entry_above shelf s target [] i m e = (plan_opens shelf s target i m e).step.rises
plan_entry_above shelf s target (j ∷ l) i m e =
    let o = plan_opens shelf s target j (l ++ i ∷ m) e in
    omega (arith, plan_entry_above shelf (next shelf s j) target l i m o.rest)

-- no entry is there twice
pub no_entry_twice : (shelf : Shelf) (s : State) (target : ℕ) (l : List ℕ) (i : ℕ) (m n : List ℕ)
    → is_plan shelf s target (l ++ i ∷ m ++ i ∷ n) ≡ true → ⊥
unfolding done_state
no_entry_twice shelf s target [] i m n e =
    omega (arith, plan_entry_above shelf (next shelf s i) target m i n (plan_opens shelf s target i (m ++ i ∷ n) e).rest)
no_entry_twice shelf s target (j ∷ l) i m n e =
    no_entry_twice shelf (next shelf s j) target l i m n (plan_opens shelf s target j (l ++ i ∷ m ++ i ∷ n) e).rest

-- how many entries have their q above a gid: what is left to a plan that has come so far
unfoldable pub left_above : Shelf → ℕ → ℕ
left_above shelf b = how_many (λ i. ltb b (entry shelf i).q) shelf.count

-- an accepted entry leaves fewer
pub step_leaves_fewer : (shelf : Shelf) (s : State) (i : ℕ) → Accepted shelf s i → left_above shelf (entry shelf i).q < left_above shelf s.b
unfolding left_above
step_leaves_fewer shelf s i a =
    how_many_more (λ j. ltb (entry shelf i).q (entry shelf j).q) (λ j. ltb s.b (entry shelf j).q)
    (λ j h. lt-ltb s.b (entry shelf j).q (omega (arith, ltb-true (entry shelf i).q (entry shelf j).q h)))
    shelf.count i a.below (le-ltb (entry shelf i).q (entry shelf i).q (omega arith)) (lt-ltb s.b (entry shelf i).q a.rises)

-- a plan is no longer than what is left
pub plan_length_left : (shelf : Shelf) (s : State) (target : ℕ) (l : List ℕ) → is_plan shelf s target l ≡ true
    → length l ≤ left_above shelf s.b
unfolding done_state
plan_length_left shelf s target [] e = omega arith
plan_length_left shelf s target (i ∷ l) e =
    let o = plan_opens shelf s target i l e in
    omega (arith, plan_length_left shelf (next shelf s i) target l o.rest, step_leaves_fewer shelf s i o.step)

-- a plan is no longer than the shelf
pub plan_length : (shelf : Shelf) (s : State) (target : ℕ) (l : List ℕ) → is_plan shelf s target l ≡ true → length l ≤ shelf.count
unfolding left_above
plan_length shelf s target l e =
    omega (arith, plan_length_left shelf s target l e, how_many_bounded (λ i. ltb s.b (entry shelf i).q) shelf.count)

-- ---- places past the count have no part in any answer

-- two shelves with the same entries, whatever stands past the count
pub record SameEntries (shelf shelf' : Shelf) : Type 0 where
  pub counts : shelf.count ≡ shelf'.count
  pub entries : (i : ℕ) → i < shelf.count → entry shelf i ≡ entry shelf' i

module _ (shelf shelf' : Shelf) (same : SameEntries shelf shelf') where
  follow_same : (l : List ℕ) (s : State) → follow shelf l s ≡ follow shelf' l s
  unfolding follow
  follow_same [] s = refl
  follow_same (i ∷ l) s = go (leb shelf.count i) (leb shelf'.count i) refl (rw same.counts) (follow_same l)
    where
      go : (a a' : Bool) → leb shelf.count i ≡ a → a ≡ a' → ((u : State) → follow shelf l u ≡ follow shelf' l u)
          → guard a NoChain (decide_on (entry shelf i) s then λ f. follow shelf l f.done)
          ≡ guard a' NoChain (decide_on (entry shelf' i) s then λ f. follow shelf' l f.done)
      go true a' p q rest = rw (← q)
      go false a' p q rest = rw (← q, same.entries i (leb-false shelf.count i p)) (simp rest)

  check_entries_same : (i k : ℕ) → i + k ≤ shelf.count → check_entries shelf i k ≡ check_entries shelf' i k
  unfolding check_entries
  check_entries_same i zero h = refl
  check_entries_same i (suc k) h = rw (same.entries i (omega arith), check_entries_same (suc i) k (omega arith))

  plan_checks_same : (state : List ℕ) (target : ℕ) → plan_checks shelf state target ≡ plan_checks shelf' state target
  unfolding plan_checks
  plan_checks_same state target = rw (check_entries_same 0 shelf.count (omega arith), same.counts)

  is_plan_same : (s : State) (target : ℕ) (l : List ℕ) → is_plan shelf s target l ≡ is_plan shelf' s target l
  unfolding is_plan
  is_plan_same s target l = rw (follow_same l s)

  first_same : {s : State} {target : ℕ} {l : List ℕ} → First shelf s target l → First shelf' s target l
  first_same {s} {target} {l} f = record {
    plan = sym (is_plan_same s target l) ∙ f.plan;
    first = λ o e. f.first o (is_plan_same s target o ∙ e);
  }

  -- what a plan says of one it says of the other
  pub past_the_count : {state : List ℕ} {target : ℕ} {r : Said (List ℕ)} → PlanSays shelf state target r → PlanSays shelf' state target r
  past_the_count {state} {target} (refused p) = refused (sym (plan_checks_same state target) ∙ p)
  past_the_count {state} {target} (listed p f) = listed (sym (plan_checks_same state target) ∙ p) (first_same f)
  past_the_count {state} {target} (no_chain {s} p none) =
      no_chain (sym (plan_checks_same state target) ∙ p) (λ l. sym (is_plan_same s target l) ∙ none l)

  -- and it is laid out alike, the shelves being of one size
  pub laid_out_past_the_count : length shelf.heads ≡ length shelf'.heads → (r : Said (List ℕ)) → laid_out shelf r ≡ laid_out shelf' r
  unfolding laid_out kept_shelf
  laid_out_past_the_count e (answer l) = rw (front, same.counts)
    where
      front : take shelf.count shelf.heads ≡ take shelf.count shelf'.heads
      front = ext_get_or blank _ _ (simp (length-take, e)) (λ i h.
          let k : i < shelf.count = omega (arith, length-take shelf.count shelf.heads) in
          get_or-take shelf.count shelf.heads i blank k ∙ same.entries i k ∙ sym (get_or-take shelf.count shelf'.heads i blank k))
  laid_out_past_the_count e (refuse k) = refl
