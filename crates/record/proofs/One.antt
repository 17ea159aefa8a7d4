-- Each outcome of this crate has one value: two values that say the same are the same.
-- Each is found again from what it says: a refusal at its number of 01's table, a kind at its own.
use Prim.Native.Nat.{ℕ, ◌-◌}
use mathlib.Core.Path.{◌≡◌, refl, sym, ap, ◌∙◌}
use mathlib.Core.List.{List, [], ◌∷◌}
use lib.ListN.{length, get_or}
use Rattle.paper.specs.Answer.{Said, answer, refuse, comes_back, over}
use Rattle.paper.proofs.Answers.{answer_injective}
use Rattle.paper.specs.Image.{check_image}
use Rattle.paper.specs.State as Paper
use Rattle.record.specs.declared.refusal.Refusal.{Refusal}
use Rattle.record.specs.declared.refusal.Refusal.TheVariants.{CutOff, BadMark, BadHead, TooMany, BadOrder, Tail, BadState, BadImage, Outside, BadStart, Behind, Gap, Short, NotExact, Compared, Apart, NoRoom, ShelfFull, NoChain, BadGid}
use Rattle.std.specs.Prelude.{Result, Ok, Err}
use Rattle.record.specs.declared.head.Head.{Head}
use Rattle.record.specs.declared.block.Block.{Block}
use Rattle.record.specs.declared.state.Kind.{Kind}
use Rattle.record.specs.declared.state.Kind.TheVariants.{Settled, Span, Pair}
use Rattle.record.specs.declared.state.State.{State}
use Rattle.record.specs.Refusals.{number_of, said}
use Rattle.record.specs.Heads.{said_head}
use Rattle.record.specs.Blocks.{said_address}
use Rattle.record.specs.States.{kind_number, said_state, said_length}
use Rattle.record.specs.Images.{said_blocks}

-- what can be found again from what it says is one
one : {A B : Type 0} (says : A → B) (back : B → A) → ((a : A) → back (says a) ≡ a) → (a b : A) → says a ≡ says b → a ≡ b
one says back found a b e = sym (found a) ∙ ap back e ∙ found b

-- ---- refusals and kinds

refusal_at : ℕ → Refusal
refusal_at k = get_or (CutOff ∷ BadMark ∷ BadHead ∷ TooMany ∷ BadOrder ∷ Tail ∷ BadState ∷ BadImage ∷ Outside ∷ BadStart ∷ Behind ∷ Gap ∷ Short ∷ NotExact ∷ Compared ∷ Apart ∷ NoRoom ∷ ShelfFull ∷ NoChain ∷ BadGid ∷ []) (k - 1) CutOff

refusal_found : (r : Refusal) → refusal_at (number_of r) ≡ r
unfolding refusal_at
refusal_found CutOff = refl
refusal_found BadMark = refl
refusal_found BadHead = refl
refusal_found TooMany = refl
refusal_found BadOrder = refl
refusal_found Tail = refl
refusal_found BadState = refl
refusal_found BadImage = refl
refusal_found Outside = refl
refusal_found BadStart = refl
refusal_found Behind = refl
refusal_found Gap = refl
refusal_found Short = refl
refusal_found NotExact = refl
refusal_found Compared = refl
refusal_found Apart = refl
refusal_found NoRoom = refl
refusal_found ShelfFull = refl
refusal_found NoChain = refl
refusal_found BadGid = refl

pub one_refusal : (r s : Refusal) → number_of r ≡ number_of s → r ≡ s
one_refusal = one number_of refusal_at refusal_found

kind_at : ℕ → Kind
kind_at n = get_or (Settled ∷ Span ∷ Pair ∷ []) n Settled

kind_found : (k : Kind) → kind_at (kind_number k) ≡ k
unfolding kind_at
kind_found Settled = refl
kind_found Span = refl
kind_found Pair = refl

pub one_kind : (k l : Kind) → kind_number k ≡ kind_number l → k ≡ l
one_kind = one kind_number kind_at kind_found

-- ---- what is said

said_from : {A B : Type 0} → (B → A) → Said B → Result A Refusal
said_from back (answer b) = Ok (back b)
said_from back (refuse k) = Err (refusal_at k)

said_back : {A B : Type 0} (means : A → B) (back : B → A) → ((a : A) → back (means a) ≡ a) → (r : Result A Refusal) → said_from back (said means r) ≡ r
unfolding said_from
said_back means back found (Ok a) = ap Ok (found a)
said_back means back found (Err r) = ap Err (refusal_found r)

-- what a call says is one, where what its value means is found again
pub one_said : {A B : Type 0} (means : A → B) (back : B → A) → ((a : A) → back (means a) ≡ a) → (r s : Result A Refusal) → said means r ≡ said means s → r ≡ s
one_said means back found = one (said means) (said_from back) (said_back means back found)

-- the same, where two values that mean the same are the same
pub one_said_by : {A B : Type 0} {means : A → B} → ((a b : A) → means a ≡ means b → a ≡ b) → (r s : Result A Refusal) → said means r ≡ said means s → r ≡ s
one_said_by found (Ok a) (Ok b) e = ap Ok (found a b (answer_injective e))
one_said_by found (Ok a) (Err y) e = cc
one_said_by found (Err x) (Ok b) e = cc
one_said_by found (Err x) (Err y) e = ap Err (one_refusal x y (cc))

pub one_head : (r s : Result Head Refusal) → said_head r ≡ said_head s → r ≡ s
one_head = one_said _ (λ h. record { kind = h.kind; spare = h.spare; p = h.p; q = h.q; n = h.n }) (λ h. refl)

pub one_address : (r s : Result Block Refusal) → said_address r ≡ said_address s → r ≡ s
one_address = one_said _ (λ a. record { address = a }) (λ b. refl)

pub one_state : (r s : Result State Refusal) → said_state r ≡ said_state s → r ≡ s
one_state = one_said _ (λ s. record { kind = kind_at s.kind; b = s.b; t = s.t; e = s.e }) (λ s i. record { kind = kind_found s.kind i; b = s.b; t = s.t; e = s.e })

pub one_number : (r s : Result ℕ Refusal) → said (λ (n : ℕ). n) r ≡ said (λ (n : ℕ). n) s → r ≡ s
one_number = one_said _ (λ n. n) (λ n. refl)

pub one_length : (r s : Result ℕ Refusal) → said_length r ≡ said_length s → r ≡ s
one_length = one_number

pub one_blocks : (r s : Result ℕ Refusal) → said_blocks r ≡ said_blocks s → r ≡ s
one_blocks = one_number

-- ---- the calls for others: two outcomes that meet the statement are one

pub one_read : (bytes : List ℕ) (r s : Result State Refusal) → said_state r ≡ Paper.read_state bytes → said_state s ≡ Paper.read_state bytes → r ≡ s
one_read bytes r s e f = one_state r s (e ∙ sym f)

pub one_image : (img : List ℕ) (r s : Result ℕ Refusal) → said_blocks r ≡ check_image img → said_blocks s ≡ check_image img → r ≡ s
one_image img r s e f = one_blocks r s (e ∙ sym f)

-- of a state written: the answer and the slice
pub one_write : (v : Paper.State) (old : List ℕ) (r s : Result ℕ Refusal) (x y : List ℕ)
    → said_length r ≡ comes_back (Paper.write_state v (length old)) → x ≡ over old (Paper.write_state v (length old))
    → said_length s ≡ comes_back (Paper.write_state v (length old)) → y ≡ over old (Paper.write_state v (length old))
    → (r ≡ s) × (x ≡ y)
one_write v old r s x y e f g h = (one_length r s (e ∙ sym g), f ∙ sym h)
