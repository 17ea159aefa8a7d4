-- The walk over a diff's records: what is left to check, or to look through, is the same whole answer at every turn.
use Prim.Native.Nat.{ℕ, suc, ◌+◌, ◌-◌, ◌*◌, ◌≤◌, ◌<◌}
use mathlib.Core.Path.{◌≡◌, refl, sym, ap, ◌∙◌}
use mathlib.Core.Option.{none, some}
use mathlib.Core.List.{List}
use mathlib.Core.Bool.{false}
use native.Mathlib.Numerals.{add-one}
use native.Mathlib.Omega.{arith}
use lib.Dec.{leb}
use lib.ListN.{length, take, drop}
use borrow.Author.Tests.{eq-eqb, ne_eqb}
use Rattle.paper.specs.Limits.{block_bytes}
use Rattle.paper.specs.Answer.{answer, refuse}
use Rattle.paper.specs.Image.{block}
use Rattle.paper.specs.Diff.{Head, rest, address_of, check_record, check_records, check, seek, names_outside}
use Rattle.paper.proofs.Check.{record_sound, sound}
use Rattle.paper.proofs.Names.{outside_empty, outside_by_last}
use Rattle.number.proofs.Puts.{part_all}
use Rattle.std.specs.Prelude.{Result, Ok, Err}
use Rattle.record.specs.declared.refusal.Refusal.{Refusal}
use Rattle.record.specs.declared.block.Block.{Block}
use Rattle.record.specs.Refusals.{number_of}
use Rattle.record.specs.Blocks.{said_address}

-- the part from record i on
pub part_rest : (d : List ℕ) (i at : ℕ) → at ≡ 24 + 518 * i → take (length d - at) (drop at d) ≡ rest d i
part_rest d i at e = part_all d at ∙ ap (λ (k : ℕ). drop k d) e

-- the first block of the part from block a on is block a
pub part_block : (img : List ℕ) (a at : ℕ) → at ≡ block_bytes * a → take block_bytes (take (length img - at) (drop at img)) ≡ block img a
unfolding block
part_block img a at e = rw (part_all img at, e)

-- one record more
pub records_more : (d : List ℕ) (n i low a : ℕ) → i < n → check_record (rest d i) low ≡ answer a
    → check_records d i (n - i) low ≡ check_records d (i + 1) (n - (i + 1)) (a + 1)
unfolding check_records
records_more d n i low a h e = let k : n - i ≡ suc (n - (i + 1)) = omega arith in rw (k, e, add-one, add-one)

-- a record that is refused
pub records_stop : (d : List ℕ) (n i low k : ℕ) → i < n → check_record (rest d i) low ≡ refuse k → check_records d i (n - i) low ≡ refuse k
unfolding check_records
records_stop d n i low k h e = let m : n - i ≡ suc (n - (i + 1)) = omega arith in rw (m, e)

-- the last record is past
pub records_end : (d : List ℕ) (n i low : ℕ) → n ≤ i → check_records d i (n - i) low ≡ answer tt
unfolding check_records
records_end d n i low h = let m : n - i ≡ 0 = omega arith in rw m

-- the check before record i: `low` is the lowest address still allowed
pub record Checking (d : List ℕ) (n i low : ℕ) : Type 0 where
  pub within : i ≤ n
  pub few : low ≤ 65536
  pub left : check_records d 0 n 0 ≡ check_records d i (n - i) low

-- what the reader says of the part from record i on is what the definition says of record i
module _ (d : List ℕ) (n i low : ℕ) (r : Result Block Refusal) (c : Checking d n i low)
    (e : said_address r ≡ check_record (take (length d - (24 + 518 * i)) (drop (24 + 518 * i) d)) low) where
  reads_rest : said_address r ≡ check_record (rest d i) low
  reads_rest = e ∙ ap (λ (s : List ℕ). check_record s low) (part_rest d i (24 + 518 * i) refl)

  pub small_address : (b : Block) → r ≡ Ok b → b.address ≤ 65535
  small_address b f = let k = record_sound (rest d i) low (sym reads_rest ∙ ap said_address f) in omega (arith, k.0, k.1.small)

  pub check_goes_on : (b : Block) → i < n → r ≡ Ok b → Checking d n (i + 1) (b.address + 1)
  check_goes_on b l f =
      let small = small_address b f in
      record { within = omega arith; few = omega arith; left = c.left ∙ records_more d n i low b.address l (sym reads_rest ∙ ap said_address f) }

  pub check_refuses : (x : Refusal) → i < n → r ≡ Err x → refuse (number_of x) ≡ check_records d 0 n 0
  check_refuses x l f = sym (c.left ∙ records_stop d n i low (number_of x) l (sym reads_rest ∙ ap said_address f))

pub check_ends : (d : List ℕ) (n i low : ℕ) → Checking d n i low → n ≤ i → answer tt ≡ check_records d 0 n 0
check_ends d n i low c l = sym (c.left ∙ records_end d n i low l)

-- looking for a block: here, further on, or nowhere
pub seek_here : (d : List ℕ) (a n i : ℕ) → i < n → address_of (rest d i) ≡ a → seek d a i (n - i) ≡ some i
unfolding seek
seek_here d a n i h e = let m : n - i ≡ suc (n - (i + 1)) = omega arith in rw (m, eq-eqb _ _ e)

pub seek_on : (d : List ℕ) (a n i : ℕ) → i < n → (address_of (rest d i) ≡ a → ⊥) → seek d a i (n - i) ≡ seek d a (i + 1) (n - (i + 1))
unfolding seek
seek_on d a n i h e = let m : n - i ≡ suc (n - (i + 1)) = omega arith in rw (m, ne_eqb _ _ e, add-one)

pub seek_end : (d : List ℕ) (a n i : ℕ) → n ≤ i → seek d a i (n - i) ≡ none
unfolding seek
seek_end d a n i h = let m : n - i ≡ 0 = omega arith in rw m

-- the lookup before record i: what is left to look through decides
abbrev pub Seeking : List ℕ → ℕ → ℕ → ℕ → Type 0
Seeking d a n i = seek d a 0 n ≡ seek d a i (n - i)

pub seek_stops : (d : List ℕ) (a n i x : ℕ) → Seeking d a n i → i < n → x ≡ address_of (rest d i) → x ≡ a → some i ≡ seek d a 0 n
seek_stops d a n i x s l e f = sym (s ∙ seek_here d a n i l (sym e ∙ f))

pub seek_goes_on : (d : List ℕ) (a n i x : ℕ) → Seeking d a n i → i < n → x ≡ address_of (rest d i) → (x ≡ a → ⊥) → Seeking d a n (i + 1)
seek_goes_on d a n i x s l e f = s ∙ seek_on d a n i l (λ g. f (e ∙ g))

pub seek_finishes : (d : List ℕ) (a n i : ℕ) → Seeking d a n i → n ≤ i → none ≡ seek d a 0 n
seek_finishes d a n i s l = sym (s ∙ seek_end d a n i l)

-- Outside, by the last record
pub outside_none : (d : List ℕ) (h : Head) (m : ℕ) → check d ≡ answer h → h.n ≡ 0 → false ≡ names_outside d 0 h.n m
outside_none d h m e z = sym (outside_empty (sound e) m z)

pub outside_last : (d : List ℕ) (h : Head) (m x : ℕ) → check d ≡ answer h → 0 < h.n → x ≡ address_of (rest d (h.n - 1)) → leb m x ≡ names_outside d 0 h.n m
outside_last d h m x e l f = ap (leb m) f ∙ sym (outside_by_last (sound e) m l)
