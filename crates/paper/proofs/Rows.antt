-- 01, "Rows from the night book": the rows marked P as one table, over the bytes of diffs, state records and images; and the examples that compute.
use Prim.Native.Nat.{ℕ}
use mathlib.Core.Path.{◌≡◌, refl}
use mathlib.Core.List.{List, [], ◌∷◌}
use lib.ListN.{replicate}
use lib.IntN.{negsuc}
use Rattle.paper.specs.Limits.{block_bytes}
use Rattle.paper.specs.Number.{little, spelled, field, opens}
use Rattle.paper.specs.Answer.{Said, answer, refuse, Behind, Gap, Short, NotExact}
use Rattle.paper.specs.Image.{bad_image, check_image}
use Rattle.paper.specs.Diff.{Head, log_head, compared_head, head_of, head_bytes, bad_head, check_head, check_records, read_head, check, names_outside}
use Rattle.paper.specs.State.{State, settled, clean, span, pair, is_clean, fits_kind, bad_state, state_of, state_bytes, bad_record, read_state}
use Rattle.paper.specs.Volume.{exact, is_pair_while, while_state, done_state, Further, decide_on, decide, lag}

-- "while .. ; done .."
pub both : State → State → Said Further
both w d = answer (record { while = w; done = d })

-- a row: the state, the diff (empty, by its head), and the answer
pub record Row : Type 0 where
  pub state : State
  pub diff : Head
  pub said : Said Further

pub row : State → Head → Said Further → Row
row s h a = record { state = s; diff = h; said = a }

-- the table
pub table : List Row
table =
    row (clean 7) (log_head 5 9) (both (pair 7 9) (clean 9))  -- P1
    ∷ row (clean 7) (log_head 8 9) (refuse Gap)  -- P2
    ∷ row (clean 7) (log_head 3 7) (refuse Behind)  -- P3
    ∷ row (clean 7) (compared_head 7 9) (both (pair 7 9) (clean 9))  -- P4
    ∷ row (clean 7) (compared_head 5 9) (refuse NotExact)  -- P5
    ∷ row (clean 7) (compared_head 5 7) (refuse Behind)  -- P6
    ∷ row (settled 4 10) (log_head 4 8) (both (span 4 8 10) (settled 8 10))  -- P7
    ∷ row (settled 4 10) (log_head 2 10) (both (span 4 10 10) (clean 10))  -- P8
    ∷ row (pair 7 9) (log_head 5 8) (refuse Short)  -- P9
    ∷ row (pair 7 12) (log_head 8 10) (refuse Gap)  -- P10
    ∷ row (pair 7 9) (compared_head 7 10) (refuse NotExact)  -- P11
    ∷ row (pair 7 9) (log_head 7 9) (both (span 7 9 9) (clean 9))  -- P12
    ∷ []

-- an image of one block
pub one_block : List ℕ
one_block = replicate block_bytes 0

-- every row of a table is what `decide` answers
abbrev pub Every : List Row → Type 0
Every [] = Unit {0}
Every (r ∷ rs) = (decide (head_bytes r.diff) (state_bytes r.state) one_block ≡ r.said) × Every rs

-- P1 to P12
pub night_book : Every table
unfolding table row both one_block decide check read_head opens head_bytes head_of check_head bad_head field little spelled check_records
    state_bytes read_state bad_record state_of bad_state fits_kind is_clean check_image bad_image names_outside decide_on exact is_pair_while while_state done_state
night_book = (refl, (refl, (refl, (refl, (refl, (refl, (refl, (refl, (refl, (refl, (refl, (refl, tt))))))))))))

-- "The empty log diff from 5 to 9, whole"
pub empty_log : List ℕ
empty_log =
    0x57 ∷ 0x44 ∷ 0x00 ∷ 0x00
    ∷ 0x05 ∷ 0x00 ∷ 0x00 ∷ 0x00 ∷ 0x00 ∷ 0x00 ∷ 0x00 ∷ 0x00
    ∷ 0x09 ∷ 0x00 ∷ 0x00 ∷ 0x00 ∷ 0x00 ∷ 0x00 ∷ 0x00 ∷ 0x00
    ∷ 0x00 ∷ 0x00 ∷ 0x00 ∷ 0x00 ∷ []

pub empty_log_read : check empty_log ≡ answer (log_head 5 9)
unfolding empty_log check read_head opens head_of check_head bad_head field little check_records
empty_log_read = refl

pub empty_log_written : head_bytes (log_head 5 9) ≡ empty_log
unfolding empty_log head_bytes spelled
empty_log_written = refl

-- "Lag at clean 7 for target 9: −2."
pub lag_row : lag (state_bytes (clean 7)) 9 ≡ answer (negsuc 1)
unfolding lag read_state bad_record state_bytes state_of opens field little spelled bad_state fits_kind
lag_row = refl
