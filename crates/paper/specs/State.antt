-- 01, "History and truth" and "Records": states, and their records read and written.
use Rattle.std.specs.Prelude.{ℕ, List, ◌∷◌, ◌++◌, Bool, cond, not, ◌&&◌, ◌||◌, leb, ltb, eqb, length, get_or}
use Rattle.paper.specs.Limits.{max_gid, state_size, state_mark}
use Rattle.paper.specs.Number.{spelled, field, opens}
use Rattle.paper.specs.Answer.{Said, answer, guard, Wrote, output, BadState}

-- "A state has three gids b, t, e and a kind."
pub record State : Type 0 where
  pub kind : ℕ
  pub b : ℕ
  pub t : ℕ
  pub e : ℕ

-- "Kind 0 (settled): t = b ≤ e; clean if b = e, dirty otherwise."
abbrev pub settled : ℕ → ℕ → State
settled b e = record { kind = 0; b = b; t = b; e = e }

abbrev pub clean : ℕ → State
clean g = settled g g

-- "Kind 1 (span): b < t ≤ e."
abbrev pub span : ℕ → ℕ → ℕ → State
span b t e = record { kind = 1; b = b; t = t; e = e }

-- "Kind 2 (pair): b < t = e."
abbrev pub pair : ℕ → ℕ → State
pair b t = record { kind = 2; b = b; t = t; e = t }

unfoldable pub is_clean : State → Bool
is_clean s = eqb s.kind 0 && eqb s.b s.e

-- the gids go with the kind; no other kind has any
unfoldable pub fits_kind : State → Bool
fits_kind s =
    cond (eqb s.kind 0) (eqb s.t s.b && leb s.b s.e)
    (cond (eqb s.kind 1) (ltb s.b s.t && leb s.t s.e)
    (eqb s.kind 2 && ltb s.b s.t && eqb s.t s.e))

-- BadState, of the values: "kind, gid too large, or gids against the kind"
unfoldable pub bad_state : State → Bool
bad_state s = ltb max_gid s.b || ltb max_gid s.t || ltb max_gid s.e || not (fits_kind s)

-- "57 53, kind, a zero byte, b (8), t (8), e (8)"
unfoldable pub state_of : List ℕ → State
state_of r = record { kind = get_or r 2 0; b = field r 4 8; t = field r 12 8; e = field r 20 8 }

unfoldable pub state_bytes : State → List ℕ
state_bytes s = state_mark ++ s.kind ∷ 0 ∷ spelled 8 s.b ++ spelled 8 s.t ++ spelled 8 s.e

-- BadState: "state not 28 bytes, wrong mark, spare byte, kind, gid too large, or gids against the kind"
unfoldable pub bad_record : List ℕ → Bool
bad_record r = not (eqb (length r) state_size) || not (opens r state_mark) || not (eqb (get_or r 3 0) 0) || bad_state (state_of r)

unfoldable pub read_state : List ℕ → Said State
read_state r = guard (bad_record r) BadState (answer (state_of r))

-- "A state is also written out as its record (BadState, then NoRoom)."
unfoldable pub write_state : State → ℕ → Said (Wrote ℕ)
write_state s room = guard (bad_state s) BadState (output (state_bytes s) room)
