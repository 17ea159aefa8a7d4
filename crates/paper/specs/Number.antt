-- 01, "Records": "Numbers are little-endian." Bytes are a list of numbers below 256.
use Rattle.std.specs.Prelude.{ℕ, zero, suc, ◌+◌, ◌*◌, ◌/◌, ◌%◌, ◌<◌, List, [], ◌∷◌, Bool, ◌&&◌, eqb, get_or, take, drop}

-- every element is a byte
abbrev pub Bytes : List ℕ → Type 0
Bytes s = (i : ℕ) → get_or s i 0 < 256

-- the number that bytes spell, the least byte first
unfoldable pub little : List ℕ → ℕ
little [] = 0
little (b ∷ bs) = b + 256 * little bs

-- the w bytes that spell x
unfoldable pub spelled : ℕ → ℕ → List ℕ
spelled zero x = []
spelled (suc w) x = x % 256 ∷ spelled w (x / 256)

-- the number in the w bytes of s from byte k on
unfoldable pub field : List ℕ → ℕ → ℕ → ℕ
field s k w = little (take w (drop k s))

-- s opens with the two-byte mark m
unfoldable pub opens : List ℕ → List ℕ → Bool
opens s m = eqb (get_or s 0 0) (get_or m 0 0) && eqb (get_or s 1 0) (get_or m 1 0)
