-- What a sound state is, as facts: the gids go with the kind and are not too large.
use Prim.Native.Nat.{◌≤◌, ◌<◌}
use mathlib.Core.Path.{◌≡◌}
use mathlib.Core.Bool.{true, false, ◌&&◌, ◌||◌}
use native.Mathlib.Omega.{arith}
use lib.Dec.{leb, ltb, eqb}
use borrow.Author.Tests.{ltb-true, ltb-false, leb-true, eqb-true, not-false, le-leb, le-ltb, lt-ltb, eq-eqb, ne_eqb}
use Rattle.paper.specs.Limits.{max_gid}
use Rattle.paper.specs.State.{State, is_clean, fits_kind, bad_state}
use Rattle.paper.proofs.Bools.{Which, holds, fails, which, or_false_left, or_false_right, and_true_left, and_true_right}

-- the three kinds, with what their gids obey
pub data FitsKind (s : State) : Type 0 where
  is_settled : s.kind ≡ 0 → s.t ≡ s.b → s.b ≤ s.e → FitsKind s
  is_span : s.kind ≡ 1 → s.b < s.t → s.t ≤ s.e → FitsKind s
  is_pair : s.kind ≡ 2 → s.b < s.t → s.t ≡ s.e → FitsKind s

-- a state that is not refused
pub record GoodState (s : State) : Type 0 where
  pub b : s.b ≤ max_gid
  pub t : s.t ≤ max_gid
  pub e : s.e ≤ max_gid
  pub fits : FitsKind s

pub fits_of : (s : State) → fits_kind s ≡ true → FitsKind s
unfolding fits_kind
fits_of s f = go (which (eqb s.kind 0)) (which (eqb s.kind 1))
  where
    go : Which (eqb s.kind 0) → Which (eqb s.kind 1) → FitsKind s
    go (holds y) w =
        let f' : (eqb s.t s.b && leb s.b s.e) ≡ true = rw y at f in
        is_settled (eqb-true _ _ y) (eqb-true _ _ (and_true_left _ _ f')) (leb-true _ _ (and_true_right (eqb s.t s.b) _ f'))
    go (fails n) (holds y) =
        let f' : (ltb s.b s.t && leb s.t s.e) ≡ true = rw (n, y) at f in
        is_span (eqb-true _ _ y) (ltb-true _ _ (and_true_left _ _ f')) (leb-true _ _ (and_true_right (ltb s.b s.t) _ f'))
    go (fails n) (fails m) =
        let f' : (eqb s.kind 2 && ltb s.b s.t && eqb s.t s.e) ≡ true = rw (n, m) at f in
        let f'' = and_true_left _ _ f' in
        is_pair (eqb-true _ _ (and_true_left _ _ f'')) (ltb-true _ _ (and_true_right (eqb s.kind 2) _ f'')) (eqb-true _ _ (and_true_right (eqb s.kind 2 && ltb s.b s.t) _ f'))

pub fits_back : (s : State) → FitsKind s → fits_kind s ≡ true
unfolding fits_kind
fits_back s (is_settled k t e) = rw (eq-eqb _ _ k, eq-eqb _ _ t, le-leb _ _ e)
fits_back s (is_span k t e) = rw (ne_eqb s.kind 0 (omega arith), eq-eqb _ _ k, lt-ltb _ _ t, le-leb _ _ e)
fits_back s (is_pair k t e) =
    rw (ne_eqb s.kind 0 (omega arith), ne_eqb s.kind 1 (omega arith), eq-eqb _ _ k, lt-ltb _ _ t, eq-eqb _ _ e)

-- `bad_state` is false exactly for the good ones
pub good_of : (s : State) → bad_state s ≡ false → GoodState s
unfolding bad_state
good_of s g =
    let b = ltb max_gid s.b in
    let t = ltb max_gid s.t in
    let e = ltb max_gid s.e in
    let g₁ = or_false_left (b || t || e) _ g in
    let g₂ = or_false_left (b || t) e g₁ in
    record {
      b = ltb-false max_gid s.b (or_false_left b t g₂);
      t = ltb-false max_gid s.t (or_false_right b t g₂);
      e = ltb-false max_gid s.e (or_false_right (b || t) e g₁);
      fits = fits_of s (not-false _ (or_false_right (b || t || e) _ g));
    }

pub good_back : (s : State) → GoodState s → bad_state s ≡ false
unfolding bad_state
good_back s g = rw (le-ltb max_gid s.b g.b, le-ltb max_gid s.t g.t, le-ltb max_gid s.e g.e, fits_back s g.fits)

-- the orders that every kind has
pub record Ordered (s : State) : Type 0 where
  pub low : s.b ≤ s.t
  pub high : s.t ≤ s.e

pub ordered : (s : State) → FitsKind s → Ordered s
ordered s (is_settled k t e) = record { low = omega arith; high = omega arith }
ordered s (is_span k t e) = record { low = omega arith; high = omega arith }
ordered s (is_pair k t e) = record { low = omega arith; high = omega arith }

-- a clean state is settled at one gid
pub record Clean (s : State) : Type 0 where
  pub kind : s.kind ≡ 0
  pub ends : s.b ≡ s.e

pub clean_of : (s : State) → is_clean s ≡ true → Clean s
unfolding is_clean
clean_of s c = record { kind = eqb-true _ _ (and_true_left _ _ c); ends = eqb-true _ _ (and_true_right (eqb s.kind 0) _ c) }
