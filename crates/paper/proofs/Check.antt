-- What the check of a diff establishes, and that nothing else is asked: a diff passes exactly where it is sound.
-- Both ways go through the chain of checks in the paper's order, and through the records one after the other.
use Prim.Native.Nat.{ℕ, zero, suc, ◌+◌, ◌≤◌, ◌<◌}
use mathlib.Core.Path.{◌≡◌, refl, sym, subst}
use mathlib.Core.List.{List}
use mathlib.Core.Bool.{true, false, not, ◌||◌}
use lib.Dec.{ltb}
use lib.ListN.{length}
use native.Mathlib.Omega.{arith}
use native.Mathlib.Decide.{dec_le}
use borrow.Author.Tests.{ltb-false, leb-false, eqb-true, not-false, le-ltb, lt-leb, eq-eqb}
use Rattle.paper.specs.Limits.{max_gid, max_blocks, max_address, head_size, head_mark, block_mark}
use Rattle.paper.specs.Number.{opens}
use Rattle.paper.specs.Answer.{answer, guard, ◌then◌, CutOff, BadMark, BadOrder, Tail}
use Rattle.paper.specs.Diff.{Head, head_of, bad_head, check_head, rest, address_of, check_record, check_records, diff_size, read_head, check}
use Rattle.paper.proofs.Answers.{answer_injective, Passed, guard_answer, Both, then_answer}
use Rattle.paper.proofs.Bools.{neither}

-- ---- the head

-- The head rules of BadHead, turned round.
pub record GoodHead (h : Head) : Type 0 where
  pub kind : h.kind ≤ 1
  pub spare : h.spare ≡ 0
  pub p : h.p ≤ max_gid
  pub q : h.q ≤ max_gid
  pub grows : h.p < h.q

-- a head that is not bad is good
pub good_head : {h : Head} → bad_head h ≡ false → GoodHead h
unfolding bad_head
good_head {h} e =
    let (e₄, q≤p) = neither _ _ e in
    let (e₃, big_q) = neither _ _ e₄ in
    let (e₂, big_p) = neither _ _ e₃ in
    let (kind, spare) = neither _ _ e₂ in
    record {
      kind = ltb-false 1 h.kind kind;
      spare = eqb-true h.spare 0 (not-false _ spare);
      p = ltb-false max_gid h.p big_p;
      q = ltb-false max_gid h.q big_q;
      grows = leb-false h.q h.p q≤p;
    }

-- a good head is not bad
pub good_passes : {h : Head} → GoodHead h → bad_head h ≡ false
unfolding bad_head
good_passes {h} g =
    rw (le-ltb 1 h.kind g.kind, eq-eqb h.spare 0 g.spare, le-ltb max_gid h.p g.p, le-ltb max_gid h.q g.q)
    (lt-leb h.q h.p g.grows)

-- A head that passed: what it is, and what holds of it.
pub record Headed (d : List ℕ) (h : Head) : Type 0 where
  pub head : h ≡ head_of d
  pub room : head_size ≤ length d
  pub mark : opens d head_mark ≡ true
  pub good : bad_head h ≡ false
  pub few : h.n ≤ max_blocks

-- what an answer of the head's checks says
pub headed : {d : List ℕ} {h : Head} → read_head d ≡ answer h → Headed d h
unfolding read_head check_head
headed {d} {h} e = of (guard_answer _ _ _ e)
  where
    of : Passed (ltb (length d) head_size) (guard (not (opens d head_mark)) BadMark (check_head (head_of d))) h → Headed d h
    of long =
        let mark = guard_answer _ _ _ long.onward in
        let good = guard_answer (bad_head (head_of d)) _ _ mark.onward in
        let few = guard_answer _ _ _ good.onward in
        let same = answer_injective few.onward in
        record {
          head = sym same;
          room = ltb-false _ _ long.clear;
          mark = not-false _ mark.clear;
          good = rw same at good.clear;
          few = rw same at (ltb-false max_blocks (head_of d).n few.clear);
        }

-- a head of which it holds passes
pub headed_passes : {d : List ℕ} {h : Head} → Headed d h → read_head d ≡ answer h
unfolding read_head check_head
headed_passes {d} {h} c = rw (le-ltb (length d) head_size c.room, c.mark, ← c.head, c.good, le-ltb max_blocks h.n c.few)

-- ---- the records

-- A record that passed.
pub record RecordPassed (r : List ℕ) (low : ℕ) : Type 0 where
  pub mark : opens r block_mark ≡ true
  pub small : address_of r ≤ max_address
  pub above : low ≤ address_of r

-- a record's check answers its address, and says that it passed
pub record_sound : {a : ℕ} (r : List ℕ) (low : ℕ) → check_record r low ≡ answer a → (a ≡ address_of r) × RecordPassed r low
unfolding check_record
record_sound {a} r low e = of (guard_answer _ _ _ e)
  where
    of : Passed (not (opens r block_mark)) (guard (ltb max_address (address_of r) || ltb (address_of r) low) BadOrder (answer (address_of r))) a
        → (a ≡ address_of r) × RecordPassed r low
    of mark =
        let order = guard_answer _ _ _ mark.onward in
        let (small, above) = neither _ _ order.clear in (
          sym (answer_injective order.onward),
          record {
            mark = not-false _ mark.clear;
            small = ltb-false max_address (address_of r) small;
            above = ltb-false (address_of r) low above;
          },
        )

-- a record of which that holds passes
pub record_passes : {r : List ℕ} {low : ℕ} → RecordPassed r low → check_record r low ≡ answer (address_of r)
unfolding check_record
record_passes {r} {low} c = rw (c.mark, le-ltb max_address (address_of r) c.small, le-ltb (address_of r) low c.above)

-- The k records of d from record i on: each is marked, no address is too large or below `low`, and they rise.
pub record RecordsSound (d : List ℕ) (i k low : ℕ) : Type 0 where
  pub each : (j : ℕ) → i ≤ j → j < i + k → RecordPassed (rest d j) low
  pub rising : (j l : ℕ) → i ≤ j → j < l → l < i + k → address_of (rest d j) < address_of (rest d l)

-- what holds at i and from suc i on holds from i on
pub from_first : (P : ℕ → Type 0) (i k : ℕ) → P i → ((j : ℕ) → suc i ≤ j → j < suc i + k → P j) → (j : ℕ) → i ≤ j → j < i + suc k → P j
from_first P i k here later j i≤j j< =
    elim (dec_le (suc i) j) [
      | yes h ↦ later j h (omega arith)
      | no h ↦ let e : i ≡ j = omega arith in subst P e here
    ]

-- what an answer of the records' checks says
pub records_sound : (d : List ℕ) (i k low : ℕ) → check_records d i k low ≡ answer tt → RecordsSound d i k low
unfolding check_records
records_sound d i zero low e = record { each = λ j h l. absurd (omega arith); rising = λ j l a b c. absurd (omega arith) }
records_sound d i (suc k) low e =
    let c = then_answer (check_record (rest d i) low) (λ a. check_records d (suc i) k (suc a)) e in
    let (same, first) = record_sound (rest d i) low c.answered in
    let later = records_sound d (suc i) k (suc c.first) c.onward in
    record {
      each = from_first (λ j. RecordPassed (rest d j) low) i k first λ j h l.
          let o : RecordPassed (rest d j) (suc c.first) = later.each j h l in
          record { mark = o.mark; small = o.small; above = omega arith };
      rising = λ j l i≤j j<l l<. from_first
          (λ j. (l : ℕ) → j < l → l < i + suc k → address_of (rest d j) < address_of (rest d l)) i k
          (λ l a b. let o : RecordPassed (rest d l) (suc c.first) = later.each l a (omega arith) in omega arith)
          (λ j x y l a b. later.rising j l x a (omega arith)) j i≤j (omega arith) l j<l l<;
    }

-- records of which that holds pass
pub records_pass : (d : List ℕ) (i k low : ℕ) → RecordsSound d i k low → check_records d i k low ≡ answer tt
unfolding check_records
records_pass d i zero low c = refl
records_pass d i (suc k) low c =
    let first : RecordPassed (rest d i) low = c.each i (omega arith) (omega arith) in
    rw (record_passes first) (records_pass d (suc i) k (suc (address_of (rest d i))) (record {
      each = λ j h l. let o : RecordPassed (rest d j) low = c.each j (omega arith) (omega arith) in record {
        mark = o.mark;
        small = o.small;
        above = c.rising i j (omega arith) (omega arith) (omega arith);
      };
      rising = λ j l x y z. c.rising j l (omega arith) y (omega arith);
    }))

-- ---- the whole diff

-- A sound diff, with its head: as long as its head says, marked, and its addresses rise.
pub record Sound (d : List ℕ) (h : Head) : Type 0 where
  pub head : h ≡ head_of d
  pub long : length d ≡ diff_size h
  pub mark : opens d head_mark ≡ true
  pub good : bad_head h ≡ false
  pub few : h.n ≤ max_blocks
  pub marks : (i : ℕ) → i < h.n → opens (rest d i) block_mark ≡ true
  pub low : (i : ℕ) → i < h.n → address_of (rest d i) ≤ max_address
  pub rising : (i j : ℕ) → i < j → j < h.n → address_of (rest d i) < address_of (rest d j)

-- a diff that passes is sound
pub sound : {d : List ℕ} {h : Head} → check d ≡ answer h → Sound d h
unfolding check
sound {d} {h} e = of (then_answer (read_head d) _ e)
  where
    of_records : Headed d h → length d ≡ diff_size h → check_records d 0 h.n 0 ≡ answer tt → Sound d h
    of_records c long e =
        let r = records_sound d 0 h.n 0 e in
        record {
          head = c.head;
          long = long;
          mark = c.mark;
          good = c.good;
          few = c.few;
          marks = λ i l. (r.each i (omega arith) (omega arith)).mark;
          low = λ i l. (r.each i (omega arith) (omega arith)).small;
          rising = λ i j l m. r.rising i j (omega arith) l (omega arith);
        }

    of : Both (read_head d) (λ g. guard (ltb (length d) (diff_size g)) CutOff
        (guard (ltb (diff_size g) (length d)) Tail (check_records d 0 g.n 0 then λ _. answer g))) h → Sound d h
    of c =
        let cut = guard_answer (ltb (length d) (diff_size c.first)) CutOff _ c.onward in
        let tail = guard_answer (ltb (diff_size c.first) (length d)) Tail _ cut.onward in
        let r = then_answer (check_records d 0 c.first.n 0) (λ _. answer c.first) tail.onward in
        let same = answer_injective r.onward in
        let long : length d ≡ diff_size c.first = omega (arith, ltb-false) in
        let walked : check_records d 0 c.first.n 0 ≡ answer tt = r.answered in
        of_records (headed (rw same at c.answered)) (rw same at long) (rw same at walked)

-- a head that passed, the length that it says, and records that pass are all that is asked
pub check_answers : {d : List ℕ} {h : Head} → Headed d h → length d ≡ diff_size h → check_records d 0 h.n 0 ≡ answer tt → check d ≡ answer h
unfolding check
check_answers {d} {h} c long walked =
    rw (headed_passes c, le-ltb (length d) (diff_size h) (omega arith), le-ltb (diff_size h) (length d) (omega arith), walked)

-- a sound diff passes
pub passes : {d : List ℕ} {h : Head} → Sound d h → check d ≡ answer h
passes {d} {h} s =
    let long = s.long in
    let c : Headed d h = record { head = s.head; room = omega arith; mark = s.mark; good = s.good; few = s.few } in
    check_answers c long (records_pass d 0 h.n 0 (record {
      each = λ j a b. record { mark = s.marks j (omega arith); small = s.low j (omega arith); above = omega arith };
      rising = λ j l a b c. s.rising j l b (omega arith);
    }))
