-- 01, "Moves of a volume": decide, apply, run, read-through and lag.
use Rattle.std.specs.Prelude.{ℕ, ◌+◌, ◌-◌, ◌*◌, max, min, ◌≡◌, List, [], ◌∷◌, Bool, false, cond, not, ◌&&◌, ◌||◌, leb, ltb, eqb, ℤ, pos, ◌-ℤ◌, take, drop}
use Rattle.std.proofs.Math.Option.{Option, none, some}
use Rattle.paper.specs.Limits.{max_gid, block_bytes, head_size, record_size, content_at}
use Rattle.paper.specs.Answer.{Said, answer, refuse, guard, ◌then◌, Wrote, Outside, BadStart, Behind, Gap, Short, NotExact, BadGid}
use Rattle.paper.specs.Image.{check_image, overlay}
use Rattle.paper.specs.Diff.{Head, is_compared, check, seek, named, named_by, names_outside}
use Rattle.paper.specs.State.{State, settled, is_clean, read_state}

-- ---- rules 11 to 14 on values

-- "q ≤ b"
abbrev pub behind : Head → State → Bool
behind h s = leb h.q s.b

-- "p > b"
abbrev pub gap : Head → State → Bool
gap h s = ltb s.b h.p

-- "q < t"
abbrev pub short : Head → State → Bool
short h s = ltb h.q s.t

-- "p = b and (the state is clean, or kind 2 with q = t)"
unfoldable pub exact : Head → State → Bool
exact h s = eqb h.p s.b && (is_clean s || (eqb s.kind 2 && eqb h.q s.t))

-- "compared, and not (..)"
abbrev pub not_exact : Head → State → Bool
not_exact h s = is_compared h && not (exact h s)

-- ---- the two further states

-- "kind 2 if the diff is compared or the state was clean, else kind 1"
unfoldable pub is_pair_while : Head → State → Bool
is_pair_while h s = is_compared h || is_clean s

-- "While: b stays, t becomes q, e becomes the larger of q and e"
unfoldable pub while_state : Head → State → State
while_state h s = record { kind = cond (is_pair_while h s) 2 1; b = s.b; t = h.q; e = max h.q s.e }

-- "Done: settled at b = t = q, with e the larger of q and e"
unfoldable pub done_state : Head → State → State
done_state h s = settled h.q (max h.q s.e)

-- "An accepted apply has two further states."
pub record Further : Type 0 where
  pub while : State
  pub done : State

-- "then 11 to 14 in that order"
unfoldable pub decide_on : Head → State → Said Further
decide_on h s =
    guard (behind h s) Behind
    (guard (gap h s) Gap
    (guard (short h s) Short
    (guard (not_exact h s) NotExact
    (answer (record { while = while_state h s; done = done_state h s })))))

-- ---- decide and apply

-- "An apply checks diff, state, image, Outside, then 11 to 14"; "Deciding takes an apply's inputs, makes its checks, writes nothing and gives both states."
unfoldable pub decide : List ℕ → List ℕ → List ℕ → Said Further
decide d state img =
    check d
    then λ h. read_state state
    then λ s. check_image img
    then λ m. guard (names_outside d 0 h.n m) Outside (decide_on h s)

-- "Doing writes every named block and gives Done."
unfoldable pub apply : List ℕ → List ℕ → List ℕ → Said (Wrote State)
apply d state img = decide d state img then λ f. answer (record { value = f.done; bytes = overlay img (named d) })

-- ---- run

-- "the smaller of i + k and n"
abbrev pub run_end : Head → ℕ → ℕ → ℕ
run_end h i k = min (i + k) h.n

-- "A run checks diff, image, Outside, BadStart", "writes records i up to the smaller of i + k and n into the image and answers that smaller number"
unfoldable pub run : List ℕ → List ℕ → ℕ → ℕ → Said (Wrote ℕ)
run d img i k =
    check d
    then λ h. check_image img
    then λ m. guard (names_outside d 0 h.n m) Outside
    (guard (ltb h.n i) BadStart
    (answer (record { value = run_end h i k; bytes = overlay img (named_by d i (run_end h i k - i)) })))

-- the records of one run: the first, and how many are asked for
pub record Stretch : Type 0 where
  pub first : ℕ
  pub number : ℕ

-- record j lies in one of some runs
unfoldable pub covers : List Stretch → ℕ → Bool
covers [] j = false
covers (r ∷ rs) j = (leb r.first j && ltb j (r.first + r.number)) || covers rs j

-- runs of one diff, one after another, each accepted: what they make of an image
pub data Runs (d : List ℕ) : List Stretch → List ℕ → List ℕ → Type 0 where
  no_run : {img : List ℕ} → Runs d [] img img
  one_more : {r : Stretch} {rs : List Stretch} {img end : List ℕ} {w : Wrote ℕ}
      → run d img r.first r.number ≡ answer w → Runs d rs w.bytes end → Runs d (r ∷ rs) img end

-- ---- read-through

-- "a part of the lent diff .. otherwise a part of the lent image": which slice, and from which byte on
pub data View : Type 0 where
  in_diff : ℕ → View
  in_image : ℕ → View

-- the 512 bytes that a view shows
unfoldable pub shown : List ℕ → List ℕ → View → List ℕ
shown d img (in_diff k) = take block_bytes (drop k d)
shown d img (in_image k) = take block_bytes (drop k img)

-- block a: where record i names it, its content there, else its place in the image
abbrev pub view_of : ℕ → Option ℕ → View
view_of a none = in_image (block_bytes * a)
view_of a (some i) = in_diff (head_size + record_size * i + content_at)

-- "A read-through checks diff, 8, then 9."
unfoldable pub read_through : List ℕ → List ℕ → ℕ → Said View
read_through d img a =
    check d
    then λ h. check_image img
    then λ m. guard (names_outside d 0 h.n m || leb m a) Outside (answer (view_of a (seek d a 0 h.n)))

-- "views empty": what is handed out
unfoldable pub seen : List ℕ → List ℕ → Said View → List ℕ
seen d img (answer v) = shown d img v
seen d img (refuse k) = []

-- ---- lag

-- "The lag checks 7, then 20"; "b minus the target gid, a signed number"
unfoldable pub lag : List ℕ → ℕ → Said ℤ
lag state target = read_state state then λ s. guard (ltb max_gid target) BadGid (answer (pos s.b -ℤ pos target))
