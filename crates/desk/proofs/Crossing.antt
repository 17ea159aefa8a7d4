-- A shelf laid out as its heads' bytes back to back is read back as that shelf, whatever follows: bytes past the count's heads have no part in it.
use Prim.Native.Nat.{ℕ, suc, ◌-◌, ◌*◌, ◌≤◌}
use mathlib.Core.Path.{◌≡◌, refl, sym, ap, ◌∙◌}
use mathlib.Core.List.{List, [], ◌∷◌, ◌++◌, append_assoc}
use native.Mathlib.Omega.{arith}
use lib.ListN.{length, drop, replicate, length-append}
use lib.Seq.{drop_at}
use borrow.Author.Tests.{le-ltb}
use Rattle.paper.specs.Limits.{max_blocks, max_places, head_size}
use Rattle.paper.specs.Answer.{answer}
use Rattle.paper.specs.Diff.{Head, head_bytes, read_head}
use Rattle.paper.specs.Plan.{blank}
use Rattle.paper.proofs.Check.{GoodHead, good_passes, headed_passes}
use Rattle.paper.proofs.Parts.{head_length, head_marked, head_back}
use Rattle.desk.specs.Shelves.{read_entries, read_shelf}

-- heads' bytes back to back
unfoldable pub laid : List Head → List ℕ
laid [] = []
laid (h ∷ hs) = head_bytes h ++ laid hs

-- heads that obey the head rules
pub data SoundHeads : List Head → Type 0 where
  none : SoundHeads []
  more : {h : Head} {hs : List Head} → GoodHead h → h.n ≤ max_blocks → SoundHeads hs → SoundHeads (h ∷ hs)

head_crosses : (h : Head) (v : List ℕ) → GoodHead h → h.n ≤ max_blocks → read_head (head_bytes h ++ v) ≡ answer h
head_crosses h v g few =
    headed_passes
    (record {
      head = sym (head_back h v g few);
      room = simp (length-append, head_length) (omega arith);
      mark = head_marked h v;
      good = good_passes g;
      few = few;
    })

entries_cross : (hs : List Head) (before v : List ℕ) (i : ℕ) → length before ≡ head_size * i → SoundHeads hs
    → read_entries (before ++ (laid hs ++ v)) i (length hs) ≡ answer hs
unfolding read_entries laid
entries_cross [] before v i e none = refl
entries_cross (h ∷ hs) before v i e (more g few rest) =
    let n = head_length h in
    let whole : before ++ (head_bytes h ++ laid hs ++ v) ≡ (before ++ head_bytes h) ++ (laid hs ++ v) =
    rw (append_assoc (head_bytes h) (laid hs) v) (sym (append_assoc before (head_bytes h) (laid hs ++ v))) in
    let here : read_head (drop (head_size * i) (before ++ (head_bytes h ++ laid hs ++ v))) ≡ answer h =
    rw (drop_at before (head_bytes h ++ laid hs ++ v) (head_size * i) e, append_assoc (head_bytes h) (laid hs) v) (head_crosses h (laid hs ++ v) g few) in
    let on : read_entries (before ++ (head_bytes h ++ laid hs ++ v)) (suc i) (length hs) ≡ answer hs =
    ap (λ (s : List ℕ). read_entries s (suc i) (length hs)) whole
    ∙ entries_cross hs (before ++ head_bytes h) v (suc i) (simp (length-append, head_length) (omega arith)) rest in
    rw (here, on) refl

pub shelf_crosses : (hs : List Head) (v : List ℕ) → length hs ≤ max_places → SoundHeads hs
    → read_shelf (laid hs ++ v) (length hs) ≡ answer (record { heads = hs ++ replicate (max_places - length hs) blank; count = length hs })
unfolding read_shelf
shelf_crosses hs v few sound = rw (le-ltb max_places (length hs) few, entries_cross hs [] v 0 refl sound) refl
