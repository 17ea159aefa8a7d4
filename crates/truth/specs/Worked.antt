-- One story, worked through: demand 3 has histories, volumes, diffs and stories to speak of.
use Rattle.std.specs.Prelude.{ℕ, List, [], ◌∷◌}
use Rattle.paper.specs.Image.{overlay}
use Rattle.paper.specs.Diff.{log_head, named, written}
use Rattle.paper.specs.State.{clean, pair, state_bytes}
use Rattle.paper.specs.Merge.{merged}
use Rattle.paper.specs.History.{History}
use Rattle.truth.specs.Story.{Volume}
use Rattle.truth.specs.Made.{put, made, log_diff, compared_diff, partly}

-- Two blocks and three steps. The first writes block 0; the second writes it back to what it was, and block 1; the third writes block 1.
abbrev pub worked : History
worked = made (10 ∷ 20 ∷ []) ((put 0 11 ∷ []) ∷ (put 0 10 ∷ put 1 21 ∷ []) ∷ (put 1 22 ∷ []) ∷ [])

-- two log diffs that touch, and a compared one
unfoldable pub first_diff : List ℕ
first_diff = log_diff worked 0 1

unfoldable pub second_diff : List ℕ
second_diff = log_diff worked 1 2

unfoldable pub third_diff : List ℕ
third_diff = compared_diff worked 2 3

pub data Given : List ℕ → Type 0 where
  first : Given first_diff
  second : Given second_diff
  third : Given third_diff

-- the merge of the two that touch
unfoldable pub both_diff : List ℕ
both_diff = written (log_head 0 2) (merged (named first_diff) (named second_diff))

-- a volume that is clean at 0
abbrev pub start : Volume
start = record { saved = state_bytes (clean 0); image = worked.image 0 }

-- the first diff, cut within block 0: 256 bytes are new
unfoldable pub cut_image : List ℕ
cut_image = partly 256 (worked.image 0) (overlay (worked.image 0) (named first_diff))

abbrev pub after_cut : Volume
after_cut = record { saved = state_bytes (pair 0 1); image = cut_image }

-- resumed with the merge, and finished
abbrev pub resumed : Volume
resumed = record { saved = state_bytes (clean 2); image = overlay cut_image (named both_diff) }

-- the compared diff, finished
abbrev pub end : Volume
end = record { saved = state_bytes (clean 3); image = overlay resumed.image (named third_diff) }
