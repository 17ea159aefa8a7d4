-- Reading a shelf's heads one after another: at every turn the entries read so far, with what is left to read, say what the whole says.
use Prim.Native.Nat.{ℕ, suc, ◌+◌, ◌-◌, ◌*◌, ◌≤◌, ◌<◌}
use mathlib.Core.Path.{◌≡◌, refl, sym, ap, ◌∙◌}
use mathlib.Core.List.{List, [], ◌∷◌, ◌++◌, map, append-nil}
use native.Mathlib.Numerals.{add-one}
use native.Mathlib.Nat.{sub-zero}
use native.Mathlib.Omega.{arith}
use lib.ListN.{length, take, drop, set, replicate, length-append, length-drop}
use lib.Seq.{append_snoc}
use borrow.Author.Tests.{lt-ltb, le-ltb}
use Rattle.paper.specs.Limits.{max_places, head_size}
use Rattle.paper.specs.Answer.{Said, answer, refuse, ◌then◌, ShelfFull}
use Rattle.paper.specs.Diff as Paper
use Rattle.paper.specs.Diff.{read_head}
use Rattle.paper.specs.Plan as Shelves
use Rattle.paper.specs.Plan.{blank}
use Rattle.paper.proofs.Check.{headed}
use Rattle.record.specs.declared.head.Head.{Head}
use Rattle.std.specs.Prelude.{Result, Ok, Err}
use Rattle.record.specs.declared.refusal.Refusal.{Refusal}
use Rattle.record.specs.Refusals.{number_of}
use Rattle.record.specs.Heads.{head, said_head}
use Rattle.number.proofs.Puts.{part_all}
use Rattle.plan.specs.Shelves.{shelf, empty}
use Rattle.plan.specs.declared.shelf.Shelf.{Shelf}
use Rattle.plan.proofs.Fills.{fill_one, map_set}
use Rattle.desk.specs.Shelves.{read_entries, read_shelf}

-- a shelf of the entries hs, blank past the count
abbrev shelf_of : ℕ → List Paper.Head → Said Shelves.Shelf
shelf_of count hs = answer (record { heads = hs ++ replicate (max_places - count) blank; count = count })

-- before entry i: `front` has been read, and stands where the places open
pub record Reading (bytes : List ℕ) (count : ℕ) (on : List Head) (i : ℕ) : Type 0 where
  pub within : i ≤ count
  pub few : count ≤ 96
  pub inside : 24 * i ≤ length bytes
  pub front : List Paper.Head
  pub long : length front ≡ i
  pub filled : map head on ≡ front ++ replicate (96 - i) blank
  pub left : read_shelf bytes count ≡ (read_entries bytes i (count - i) then λ hs. shelf_of count (front ++ hs))

pub too_many : (bytes : List ℕ) (count : ℕ) → 96 < count → refuse ShelfFull ≡ read_shelf bytes count
unfolding read_shelf
too_many bytes count l = rw (lt-ltb 96 count l)

pub read_begin : (bytes : List ℕ) (count : ℕ) (on : Shelf) → count ≤ 96 → shelf on ≡ empty → Reading bytes count on.heads 0
unfolding read_shelf
read_begin bytes count on few e =
    record {
      within = omega arith;
      few = few;
      inside = omega arith;
      front = [];
      long = refl;
      filled = ap (λ s. s.heads) e;
      left = rw (le-ltb 96 count few, sub-zero) refl;
    }

-- an entry more, where the rest says x
one_more : (count : ℕ) (front : List Paper.Head) (h : Paper.Head) (x : Said (List Paper.Head))
    → ((x then λ hs. answer (h ∷ hs)) then λ hs. shelf_of count (front ++ hs)) ≡ (x then λ hs. shelf_of count ((front ++ (h ∷ [])) ++ hs))
one_more count front h (answer hs) = rw (append_snoc front h hs) refl
one_more count front h (refuse k) = refl

module _ (bytes : List ℕ) (count : ℕ) (on : List Head) (i : ℕ) (so_far : Reading bytes count on i) where
  module _ (r : Result Head Refusal) (more : i < count) (says : said_head r ≡ read_head (take (length bytes - 24 * i) (drop (24 * i) bytes))) where
    here : said_head r ≡ read_head (drop (head_size * i) bytes)
    here = says ∙ rw part_all

    pub entry_reads : (h : Head) → r ≡ Ok h → Reading bytes count (set on i h) (i + 1)
    unfolding read_entries
    entry_reads h e =
        let k : count - i ≡ suc (count - (i + 1)) = omega arith in
        let now : read_head (drop (head_size * i) bytes) ≡ answer (head h) = sym here ∙ ap said_head e in
        let room = rw length-drop at (headed now).room in
        record {
          within = omega arith;
          few = so_far.few;
          inside = omega (arith, so_far.inside, room);
          front = so_far.front ++ (head h ∷ []);
          long = simp length-append (omega (arith, so_far.long));
          filled = map_set head on i h ∙ rw so_far.filled (fill_one so_far.front i 96 blank (head h) so_far.long (omega (arith, so_far.few)));
          left = so_far.left ∙ rw (k, now, add-one) (one_more count so_far.front (head h) (read_entries bytes (suc i) (count - suc i)));
        }

    pub entry_refused : (x : Refusal) → r ≡ Err x → refuse (number_of x) ≡ read_shelf bytes count
    unfolding read_entries
    entry_refused x e =
        let k : count - i ≡ suc (count - (i + 1)) = omega arith in
        let now : read_head (drop (head_size * i) bytes) ≡ refuse (number_of x) = sym here ∙ ap said_head e in
        sym (so_far.left ∙ rw (k, now) refl)

  pub read_end : count ≤ i → answer (shelf (record { heads = on; count = count })) ≡ read_shelf bytes count
  unfolding read_entries
  read_end l =
      let e : i ≡ count = omega (arith, so_far.within) in
      let k : count - i ≡ 0 = omega arith in
      sym (so_far.left ∙ rw (k, append-nil, so_far.filled, e) refl)
