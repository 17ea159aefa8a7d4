-- 01, "History and truth" and "Records": every limit, size and mark, each once.
use Rattle.std.specs.Prelude.{ℕ, List, [], ◌∷◌}

-- "A gid is at most 9,223,372,036,854,775,807."
abbrev pub max_gid : ℕ
max_gid = 9_223_372_036_854_775_807

-- "A block is 512 bytes."
abbrev pub block_bytes : ℕ
block_bytes = 512

-- "n is at most 65,536", "An image is 1 to 65,536 whole blocks."
abbrev pub max_blocks : ℕ
max_blocks = 65_536

-- "an address is at most 65,535"
abbrev pub max_address : ℕ
max_address = 65_535

-- "A shelf holds at most 96 diff heads"
abbrev pub max_places : ℕ
max_places = 96

-- "diff head, 24"
abbrev pub head_size : ℕ
head_size = 24

-- "block, 518": a block's record; its content follows a mark and an address
abbrev pub record_size : ℕ
record_size = 518

abbrev pub content_at : ℕ
content_at = 6

-- "state, 28"
abbrev pub state_size : ℕ
state_size = 28

-- "Each record opens with a two-byte mark": 57 44 a diff head, 57 42 a block, 57 53 a state.
abbrev pub head_mark : List ℕ
head_mark = 0x57 ∷ 0x44 ∷ []

abbrev pub block_mark : List ℕ
block_mark = 0x57 ∷ 0x42 ∷ []

abbrev pub state_mark : List ℕ
state_mark = 0x57 ∷ 0x53 ∷ []
