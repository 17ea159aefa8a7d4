-- 01, "When the desk says no": inputs that break two rules at once get the number that comes first. Each row is computed from the definitions.
use Prim.Native.Nat.{ℕ}
use mathlib.Core.Path.{◌≡◌, refl}
use mathlib.Core.List.{List, [], ◌∷◌, ◌++◌}
use lib.ListN.{take, drop, replicate}
use Rattle.paper.specs.Limits.{block_bytes, head_mark, block_mark}
use Rattle.paper.specs.Number.{little, spelled, field, opens}
use Rattle.paper.specs.Answer.{Said, number, output, CutOff, BadMark, BadHead, TooMany, BadOrder, Tail, BadState, BadImage, Outside, BadStart, Behind, Gap, Short, Compared, Apart, NoRoom, ShelfFull, BadGid}
use Rattle.paper.specs.Image.{bad_image, check_image}
use Rattle.paper.specs.Diff.{Head, log_head, compared_head, head_of, head_bytes, bad_head, check_head, address_of, record_bytes, check_record, check_records, read_head, check, names_outside}
use Rattle.paper.specs.State.{clean, pair, is_clean, fits_kind, bad_state, state_of, state_bytes, bad_record, read_state, write_state}
use Rattle.paper.specs.Volume.{exact, decide_on, decide, run, read_through, lag}
use Rattle.paper.specs.Merge.{merge_heads, merge}
use Rattle.paper.specs.Compare.{compare}
use Rattle.paper.specs.Plan.{Shelf, check_entries, plan_checks}

-- heads that break the rules, and a block's content
abbrev log_of : ℕ → ℕ → ℕ → Head
log_of p q n = record { kind = 0; spare = 0; p = p; q = q; n = n }

abbrev odd : ℕ → ℕ → Head
odd kind spare = record { kind = kind; spare = spare; p = 5; q = 9; n = 0 }

abbrev zeros : List ℕ
zeros = replicate block_bytes 0

-- the empty log diff from 5 to 9, one with a block at address a, one with blocks at a and b
abbrev empty : List ℕ
empty = head_bytes (log_head 5 9)

abbrev one : ℕ → List ℕ
one a = head_bytes (log_of 5 9 1) ++ record_bytes a zeros

abbrev two : ℕ → ℕ → List ℕ
two a b = head_bytes (log_of 5 9 2) ++ record_bytes a zeros ++ record_bytes b zeros

-- the same with a block mark that differs
abbrev unmarked : ℕ → List ℕ
unmarked a = head_bytes (log_of 5 9 1) ++ head_mark ++ spelled 4 a ++ zeros

-- one row: the number that an answer has
abbrev Says : {A : Type 0} → Said A → ℕ → Type 0
Says said k = number said ≡ k

-- ---- a diff: "under 24 bytes, mark, BadHead, TooMany, CutOff, Tail, then record after record, mark before address"

pub record CheckRows : Type 0 where
  pub nothing : Says (check []) CutOff
  pub short_and_unmarked : Says (check (0 ∷ drop 2 (take 23 empty))) CutOff
  pub unmarked_and_bad : Says (check (block_mark ++ drop 2 (head_bytes (odd 2 0)))) BadMark
  pub bad_kind_and_many : Says (check (head_bytes (record { kind = 2; spare = 0; p = 5; q = 9; n = 65_537 }))) BadHead
  pub bad_spare : Says (check (head_bytes (odd 0 1))) BadHead
  pub bad_order_of_gids : Says (check (head_bytes (log_head 5 5))) BadHead
  pub gid_too_large : Says (check (head_bytes (log_head 5 9_223_372_036_854_775_808))) BadHead
  pub largest_gid : Says (check (head_bytes (log_head 5 9_223_372_036_854_775_807))) 0
  pub many_and_cut : Says (check (head_bytes (log_of 5 9 65_537))) TooMany
  pub most_and_cut : Says (check (head_bytes (log_of 5 9 65_536))) CutOff
  pub cut_in_a_record : Says (check (take 541 (unmarked 0))) CutOff
  pub tail : Says (check (empty ++ (0 ∷ []))) Tail
  pub tail_and_unmarked : Says (check (unmarked 0 ++ (0 ∷ []))) Tail
  pub unmarked_and_outside : Says (check (unmarked 65_536)) BadMark
  pub address_too_large : Says (check (one 65_536)) BadOrder
  pub largest_address : Says (check (one 65_535)) 0
  pub equal_addresses : Says (check (two 3 3)) BadOrder
  pub falling_addresses : Says (check (two 3 2)) BadOrder
  pub rising_addresses : Says (check (two 3 4)) 0

pub check_rows : CheckRows
unfolding number check read_head opens head_bytes head_of check_head bad_head field little spelled check_records check_record address_of record_bytes
check_rows = record {
  nothing = refl;
  short_and_unmarked = refl;
  unmarked_and_bad = refl;
  bad_kind_and_many = refl;
  bad_spare = refl;
  bad_order_of_gids = refl;
  gid_too_large = refl;
  largest_gid = refl;
  many_and_cut = refl;
  most_and_cut = refl;
  cut_in_a_record = refl;
  tail = refl;
  tail_and_unmarked = refl;
  unmarked_and_outside = refl;
  address_too_large = refl;
  largest_address = refl;
  equal_addresses = refl;
  falling_addresses = refl;
  rising_addresses = refl;
}

-- ---- a state: each rule by itself, at its edge

abbrev state_rec : ℕ → ℕ → ℕ → ℕ → List ℕ
state_rec kind b t e = state_bytes (record { kind = kind; b = b; t = t; e = e })

abbrev top : ℕ
top = 9_223_372_036_854_775_807

pub record StateRows : Type 0 where
  pub too_short : Says (read_state (take 27 (state_rec 0 7 7 7))) BadState
  pub too_long : Says (read_state (state_rec 0 7 7 7 ++ (0 ∷ []))) BadState
  pub unmarked : Says (read_state (head_mark ++ drop 2 (state_rec 0 7 7 7))) BadState
  pub bad_spare : Says (read_state (take 3 (state_rec 0 7 7 7) ++ (1 ∷ drop 4 (state_rec 0 7 7 7)))) BadState
  pub kind_three : Says (read_state (state_rec 3 7 9 9)) BadState
  pub clean_top : Says (read_state (state_rec 0 top top top)) 0
  pub above_top : Says (read_state (state_rec 0 7 7 9_223_372_036_854_775_808)) BadState
  pub settled_right : Says (read_state (state_rec 0 4 4 10)) 0
  pub settled_t_off : Says (read_state (state_rec 0 4 5 10)) BadState
  pub settled_e_below : Says (read_state (state_rec 0 4 4 3)) BadState
  pub span_right : Says (read_state (state_rec 1 4 8 8)) 0
  pub span_t_at_b : Says (read_state (state_rec 1 4 4 8)) BadState
  pub span_e_below : Says (read_state (state_rec 1 4 8 7)) BadState
  pub pair_right : Says (read_state (state_rec 2 4 8 8)) 0
  pub pair_e_off : Says (read_state (state_rec 2 4 8 9)) BadState
  pub pair_t_at_b : Says (read_state (state_rec 2 4 4 4)) BadState
  pub bad_and_no_room : Says (write_state (record { kind = 0; b = 7; t = 8; e = 9 }) 0) BadState
  pub no_room : Says (write_state (clean 7) 27) NoRoom
  pub room : Says (write_state (clean 7) 28) 0

pub state_rows : StateRows
unfolding number read_state write_state output bad_record bad_state fits_kind state_of state_bytes opens field little spelled
state_rows = record {
  too_short = refl;
  too_long = refl;
  unmarked = refl;
  bad_spare = refl;
  kind_three = refl;
  clean_top = refl;
  above_top = refl;
  settled_right = refl;
  settled_t_off = refl;
  settled_e_below = refl;
  span_right = refl;
  span_t_at_b = refl;
  span_e_below = refl;
  pair_right = refl;
  pair_e_off = refl;
  pair_t_at_b = refl;
  bad_and_no_room = refl;
  no_room = refl;
  room = refl;
}

-- ---- the calls: "An apply checks diff, state, image, Outside, then 11 to 14", and so on

abbrev seven : List ℕ
seven = state_bytes (clean 7)

abbrev compared : ℕ → ℕ → List ℕ
compared p q = head_bytes (compared_head p q)

abbrev shelf_of : List Head → ℕ → Shelf
shelf_of hs n = record { heads = hs; count = n }

pub record CallRows : Type 0 where
  pub diff_before_state : Says (decide [] [] []) CutOff
  pub state_before_image : Says (decide empty [] []) BadState
  pub image_before_outside : Says (decide (one 1) seven (take 511 zeros)) BadImage
  pub outside_before_gap : Says (decide (one 1) (state_bytes (clean 4)) zeros) Outside
  pub inside_then_gap : Says (decide (one 0) (state_bytes (clean 4)) zeros) Gap
  pub behind_before_gap : Says (decide_on (log_head 9 5) (clean 7)) Behind
  pub gap_before_short : Says (decide_on (log_head 8 10) (pair 7 12)) Gap
  pub short_before_exact : Says (decide_on (compared_head 7 9) (pair 7 12)) Short
  pub run_diff_before_image : Says (run [] [] 0 0) CutOff
  pub run_image_before_outside : Says (run (one 1) [] 0 0) BadImage
  pub run_outside_before_start : Says (run (one 1) zeros 2 0) Outside
  pub run_start_beyond : Says (run (one 0) zeros 2 0) BadStart
  pub run_start_at_the_end : Says (run (one 0) zeros 1 5) 0
  pub view_image_before_outside : Says (read_through (one 1) [] 0) BadImage
  pub view_names_outside : Says (read_through (one 1) zeros 0) Outside
  pub view_asks_outside : Says (read_through (one 0) zeros 1) Outside
  pub view_inside : Says (read_through (one 0) zeros 0) 0
  pub merge_first_before_second : Says (merge (empty ++ (0 ∷ [])) [] 0) Tail
  pub merge_second_before_compared : Says (merge (compared 5 9) [] 0) CutOff
  pub merge_compared_before_apart : Says (merge (compared 5 9) (head_bytes (log_head 10 11)) 0) Compared
  pub merge_apart_before_room : Says (merge empty (head_bytes (log_head 10 11)) 0) Apart
  pub merge_overlap_apart : Says (merge empty (head_bytes (log_head 8 11)) 24) Apart
  pub compare_image_before_gids : Says (compare [] zeros 9 5 0) BadImage
  pub compare_unequal : Says (compare zeros (zeros ++ zeros) 5 9 9_999) BadImage
  pub compare_gids_before_room : Says (compare zeros zeros 9 9 0) BadHead
  pub shelf_before_entries : Says (plan_checks (shelf_of [] 97) [] top) ShelfFull
  pub entries_in_order : Says (plan_checks (shelf_of (log_of 5 9 65_537 ∷ odd 2 0 ∷ []) 2) [] top) TooMany
  pub entries_before_state : Says (plan_checks (shelf_of (odd 0 1 ∷ []) 1) [] top) BadHead
  pub plan_state_before_gid : Says (plan_checks (shelf_of [] 0) [] 9_223_372_036_854_775_808) BadState
  pub plan_gid : Says (plan_checks (shelf_of [] 0) seven 9_223_372_036_854_775_808) BadGid
  pub lag_state_before_gid : Says (lag [] 9_223_372_036_854_775_808) BadState
  pub lag_gid : Says (lag seven 9_223_372_036_854_775_808) BadGid

pub call_rows : CallRows
unfolding number decide run read_through merge merge_heads compare plan_checks check_entries lag decide_on exact is_clean check read_head opens head_bytes head_of
    check_head bad_head field little spelled check_records check_record address_of record_bytes read_state bad_record bad_state fits_kind state_of state_bytes
    bad_image check_image names_outside
call_rows = record {
  diff_before_state = refl;
  state_before_image = refl;
  image_before_outside = refl;
  outside_before_gap = refl;
  inside_then_gap = refl;
  behind_before_gap = refl;
  gap_before_short = refl;
  short_before_exact = refl;
  run_diff_before_image = refl;
  run_image_before_outside = refl;
  run_outside_before_start = refl;
  run_start_beyond = refl;
  run_start_at_the_end = refl;
  view_image_before_outside = refl;
  view_names_outside = refl;
  view_asks_outside = refl;
  view_inside = refl;
  merge_first_before_second = refl;
  merge_second_before_compared = refl;
  merge_compared_before_apart = refl;
  merge_apart_before_room = refl;
  merge_overlap_apart = refl;
  compare_image_before_gids = refl;
  compare_unequal = refl;
  compare_gids_before_room = refl;
  shelf_before_entries = refl;
  entries_in_order = refl;
  entries_before_state = refl;
  plan_state_before_gid = refl;
  plan_gid = refl;
  lag_state_before_gid = refl;
  lag_gid = refl;
}
