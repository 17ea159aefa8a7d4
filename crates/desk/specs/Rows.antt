-- The outcome of each call of the C face, as a row: the answered number, then what everything that was lent for writing holds afterwards, in the order of the call's parameters.
-- "Zero means done. A refusal gives its number alone .. and changes no lent byte": so a refusal's row ends in what was there.
use Rattle.std.specs.Prelude.{ℕ, List, ◌||◌, ltb, ℤ}
use Rattle.paper.specs.Limits.{state_size}
use Rattle.paper.specs.Answer.{Said, answer, refuse, guard, ◌then◌, Wrote, onto, NoRoom}
use Rattle.paper.specs.Diff.{Head}
use Rattle.paper.specs.State.{State, state_bytes}
use Rattle.paper.specs.Volume.{Further, decide, apply, View, in_diff, in_image}

-- a check: kind, p, q and n of the head
abbrev pub head_row : ℕ → ℕ → ℕ → ℕ → Said Head → ℕ × ℕ × ℕ × ℕ × ℕ
head_row kind p q n (answer h) = (0, h.kind, h.p, h.q, h.n)
head_row kind p q n (refuse k) = (k, kind, p, q, n)

-- reading a state: its kind and its gids
abbrev pub state_row : ℕ → ℕ → ℕ → ℕ → Said State → ℕ × ℕ × ℕ × ℕ × ℕ
state_row kind b t e (answer s) = (0, s.kind, s.b, s.t, s.e)
state_row kind b t e (refuse k) = (k, kind, b, t, e)

-- a call that writes into a slice and gives a number: a state's record, a merge and a comparison with their lengths, a run with the record that comes next
abbrev pub wrote_row : List ℕ → ℕ → Said (Wrote ℕ) → ℕ × List ℕ × ℕ
wrote_row old number (answer w) = (0, onto w.bytes old, w.value)
wrote_row old number (refuse k) = (k, old, number)

-- deciding: the records of While and Done; NoRoom, checked last, where too few bytes are lent for one of them
unfoldable pub decide_records : List ℕ → List ℕ → List ℕ → ℕ → ℕ → Said Further
decide_records d saved img room₀ room₁ = decide d saved img then λ f. guard (ltb room₀ state_size || ltb room₁ state_size) NoRoom (answer f)

abbrev pub further_row : List ℕ → List ℕ → Said Further → ℕ × List ℕ × List ℕ
further_row during done (answer f) = (0, onto (state_bytes f.while) during, onto (state_bytes f.done) done)
further_row during done (refuse k) = (k, during, done)

-- an apply: the image, and the record of Done; NoRoom, checked last, where too few bytes are lent for it
unfoldable pub apply_record : List ℕ → List ℕ → List ℕ → ℕ → Said (Wrote State)
apply_record d saved img room = apply d saved img then λ w. guard (ltb room state_size) NoRoom (answer w)

abbrev pub applied_row : List ℕ → List ℕ → Said (Wrote State) → ℕ × List ℕ × List ℕ
applied_row img done (answer w) = (0, onto w.bytes img, onto (state_bytes w.value) done)
applied_row img done (refuse k) = (k, img, done)

-- a read-through: 0 for the diff or 1 for the image, and the byte where the block begins
abbrev pub view_row : ℕ → ℕ → Said View → ℕ × ℕ × ℕ
view_row slice at (answer (in_diff k)) = (0, 0, k)
view_row slice at (answer (in_image k)) = (0, 1, k)
view_row slice at (refuse k) = (k, slice, at)

-- the lag
abbrev pub lag_row : ℤ → Said ℤ → ℕ × ℤ
lag_row gids (answer n) = (0, n)
lag_row gids (refuse k) = (k, gids)
