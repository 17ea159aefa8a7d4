-- Two diffs are walked over together, by address: where each cursor stands, and what the merge has left from there.
use Rattle.std.specs.Prelude.{ℕ, suc, ◌-◌, ◌≤◌, ◌<◌, min, ◌≡◌, List, ◌++◌, cond, ltb}
use Rattle.std.proofs.Math.Option.{some}
use Rattle.paper.specs.Limits.{max_blocks}
use Rattle.paper.specs.Image.{Map}
use Rattle.paper.specs.Diff.{rest, address_of, record_bytes, named, records_of, count_of}
use Rattle.paper.specs.Merge.{merged}
use Rattle.record.specs.declared.records.Checked.{Checked}
use Rattle.merge.specs.declared.Cursor.{Cursor}
use Rattle.merge.specs.declared.Pair.{Pair}
use Rattle.merge.specs.declared.Walk.{Walk}

-- the map that the merge of two diffs means
abbrev pub both : Pair → Map
both p = merged (named p.first.d.now) (named p.second.d.now)

-- the address of record i of a diff, or 65,536 past the last
unfoldable pub address_at : Checked → ℕ → ℕ
address_at x i = cond (ltb i x.h.n) (address_of (rest x.d.now i)) max_blocks

-- The cursor stands at a record of the diff: those before it have addresses below `low`, its own is not.
pub record On (x : Checked) (low : ℕ) (c : Cursor) : Type 0 where
  pub inside : c.place ≤ x.h.n
  pub address : c.address ≡ address_at x c.place
  pub passed : (j : ℕ) → j < c.place → address_of (rest x.d.now j) < low
  pub ahead : low ≤ c.address

-- A cursor on each of two diffs, and the lower address of the two: no lower one is left.
pub record Walking (p : Pair) (w : Walk) : Type 0 where
  pub first : On p.first w.low w.a
  pub second : On p.second w.low w.b
  pub lowest : w.low ≡ min w.a.address w.b.address

-- ---- what a map has left

-- the records of a map from address a on, and their number
abbrev pub records_left : Map → ℕ → List ℕ
records_left f a = records_of f a (max_blocks - a)

abbrev pub count_left : Map → ℕ → ℕ
count_left f a = count_of f a (max_blocks - a)

-- From a on and from b on the same is left.
pub record SameLeft (f : Map) (a b : ℕ) : Type 0 where
  pub records : records_left f a ≡ records_left f b
  pub count : count_left f a ≡ count_left f b

-- From a on, its record is left and what is left from b on.
pub record Takes (f : Map) (a b : ℕ) : Type 0 where
  pub content : List ℕ
  pub named : f a ≡ some content
  pub records : records_left f a ≡ record_bytes a content ++ records_left f b
  pub count : count_left f a ≡ suc (count_left f b)

-- A walk that begins has all records left.
pub record Begun (p : Pair) (w : Walk) : Type 0 where
  pub walking : Walking p w
  pub same : SameLeft (both p) 0 w.low

-- A turn of the walk goes past one record of the merge.
pub record Turned (p : Pair) (w r : Walk) : Type 0 where
  pub walking : Walking p r
  pub takes : Takes (both p) w.low r.low
  pub rises : w.low < r.low
