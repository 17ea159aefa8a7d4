-- Demand 3: what may happen to a volume, and what then holds of it. Everything is said over bytes: diffs, the saved state record, the image.
-- The demand: "One write history, a volume whose saved state is true of it, diffs true to it: after any sequence of accepted applies, finished or cut
-- with any mix of old and new bytes, and accepted merges whose results serve as diffs too, the state stays true (given the While state was saved whole
-- before the first byte moved, and Done only after the last). Clean at a gid means every byte is the history's at that gid; blocks that no applied diff
-- names never changed; right after a cut, the diff that was cut, or any merge that contains it, is accepted."
use Rattle.std.specs.Prelude.{ℕ, ◌<◌, ◌≡◌, List, [], ◌∷◌, true}
use Rattle.std.proofs.Math.Option.{none}
use Rattle.paper.specs.Answer.{answer, Wrote}
use Rattle.paper.specs.Image.{block, overlay}
use Rattle.paper.specs.Diff.{head_of, named}
use Rattle.paper.specs.State.{State, is_clean, state_bytes, read_state}
use Rattle.paper.specs.Volume.{Further, decide, apply, run, Stretch, covers, Runs}
use Rattle.paper.specs.Merge.{merge}
use Rattle.paper.specs.History.{History, TrueDiff, TrueState, Mixed}

-- a volume: the state record that is saved, and the image
pub record Volume : Type 0 where
  pub saved : List ℕ
  pub image : List ℕ

-- "a volume whose saved state is true of it"
pub record TrueVolume (H : History) (v : Volume) : Type 0 where
  pub state : State
  pub reads : read_state v.saved ≡ answer state
  pub holds : TrueState H state v.image

-- the diffs at hand: those given, and "accepted merges whose results serve as diffs too"
pub data Have (Given : List ℕ → Type 0) : List ℕ → Type 0 where
  given : {d : List ℕ} → Given d → Have Given d
  by_merge : {first second : List ℕ} {w : Wrote ℕ} (room : ℕ) → Have Given first → Have Given second → merge first second room ≡ answer w
      → Have Given w.bytes

-- a diff in which d is contained: d itself, or a merge of one that contains it, however nested
pub data Contains (Given : List ℕ → Type 0) (d : List ℕ) : List ℕ → Type 0 where
  itself : Contains Given d d
  as_first : {first second : List ℕ} {w : Wrote ℕ} (room : ℕ) → Contains Given d first → Have Given second → merge first second room ≡ answer w
      → Contains Given d w.bytes
  as_second : {first second : List ℕ} {w : Wrote ℕ} (room : ℕ) → Have Given first → Contains Given d second → merge first second room ≡ answer w
      → Contains Given d w.bytes

-- An accepted apply that is cut: "the While state was saved whole before the first byte moved", and then any mix of old and new bytes.
-- Where it is done in runs, some runs are over, and one more is cut.
pub data Cut (d : List ℕ) (v : Volume) : Volume → Type 0 where
  cut_apply : {f : Further} {now : List ℕ} → decide d v.saved v.image ≡ answer f → Mixed v.image (overlay v.image (named d)) now
      → Cut d v (record { saved = state_bytes f.while; image = now })
  cut_run : {f : Further} {w : Wrote ℕ} {rs : List Stretch} {mid now : List ℕ} (r : Stretch) → decide d v.saved v.image ≡ answer f
      → Runs d rs v.image mid → run d mid r.first r.number ≡ answer w → Mixed mid w.bytes now
      → Cut d v (record { image = now; saved = state_bytes f.while })

-- An accepted apply that is finished, at once or in runs that between them cover all records: "Done only after the last" byte.
pub data Finish (d : List ℕ) (v : Volume) : Volume → Type 0 where
  at_once : {w : Wrote State} → apply d v.saved v.image ≡ answer w
      → Finish d v (record { saved = state_bytes w.value; image = w.bytes })
  in_runs : {f : Further} {rs : List Stretch} {end : List ℕ} → decide d v.saved v.image ≡ answer f
      → Runs d rs v.image end → ((j : ℕ) → j < (head_of d).n → covers rs j ≡ true)
      → Finish d v (record { saved = state_bytes f.done; image = end })

pub data Move (d : List ℕ) (v : Volume) : Volume → Type 0 where
  finished : {w : Volume} → Finish d v w → Move d v w
  cut : {w : Volume} → Cut d v w → Move d v w

-- "any sequence of accepted applies, finished or cut": the diffs applied, the last one first, and the volume at the end
pub data Story (Given : List ℕ → Type 0) (v : Volume) : List (List ℕ) → Volume → Type 0 where
  begun : Story Given v [] v
  then_move : {d : List ℕ} {ds : List (List ℕ)} {x y : Volume} → Story Given v ds x → Have Given d → Move d x y → Story Given v (d ∷ ds) y

-- none of some diffs names block a
abbrev pub Unnamed : ℕ → List (List ℕ) → Type 0
Unnamed a [] = Unit {0}
Unnamed a (d ∷ ds) = (named d a ≡ none) × Unnamed a ds

-- the two further states are decided: the apply is accepted
pub record IsAccepted (d : List ℕ) (v : Volume) : Type 0 where
  pub states : Further
  pub decides : decide d v.saved v.image ≡ answer states

-- What then holds of a volume x that v became by applying ds.
pub record Holds (H : History) (Given : List ℕ → Type 0) (v : Volume) (ds : List (List ℕ)) (x : Volume) : Type 0 where
  -- "the state stays true"
  pub stays_true : TrueVolume H x
  -- "Clean at a gid means every byte is the history's at that gid"
  pub clean_means : (s : State) → read_state x.saved ≡ answer s → is_clean s ≡ true → x.image ≡ H.image s.b
  -- "blocks that no applied diff names never changed"
  pub untouched : (a : ℕ) → Unnamed a ds → block x.image a ≡ block v.image a
  -- "right after a cut, the diff that was cut, or any merge that contains it, is accepted"
  pub goes_on : {d w : List ℕ} {y : Volume} → Have Given d → Cut d x y → Contains Given d w → IsAccepted w y

-- Demand 3: "One write history, a volume whose saved state is true of it, diffs true to it".
abbrev pub DemandThree : Type 1
DemandThree =
    (H : History) (Given : List ℕ → Type 0) (v x : Volume) (ds : List (List ℕ))
    → ((d : List ℕ) → Given d → TrueDiff H d) → TrueVolume H v → Story Given v ds x → Holds H Given v ds x
