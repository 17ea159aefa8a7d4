-- Bytes put into a slice at a place.
use Rattle.std.specs.Prelude.{ℕ, ◌+◌, List, ◌++◌, length, take, drop}

-- `old` with `bytes` in the place of as many from `k` on
unfoldable pub put : ℕ → List ℕ → List ℕ → List ℕ
put k bytes old = take k old ++ bytes ++ drop (k + length bytes) old
