-- 01, "Records" and "When the desk says no": the diff as bytes, its check, the map that it means, and the bytes of a map.
use Rattle.std.specs.Prelude.{ℕ, zero, suc, ◌+◌, ◌*◌, List, [], ◌∷◌, ◌++◌, Bool, false, cond, not, ◌||◌, leb, ltb, eqb, length, get_or, take, drop}
use Rattle.std.proofs.Math.Option.{Option, none, some, map}
use Rattle.paper.specs.Limits.{max_gid, max_blocks, max_address, block_bytes, head_size, record_size, content_at, head_mark, block_mark}
use Rattle.paper.specs.Number.{spelled, field, opens}
use Rattle.paper.specs.Answer.{Said, answer, guard, ◌then◌, CutOff, BadMark, BadHead, TooMany, BadOrder, Tail}
use Rattle.paper.specs.Image.{Map}

-- ---- the head: "57 44, kind (0 log, 1 compared), a zero byte, p (8), q (8), number of blocks n (4)"

pub record Head : Type 0 where
  pub kind : ℕ
  pub spare : ℕ
  pub p : ℕ
  pub q : ℕ
  pub n : ℕ

-- the head that bytes open with
unfoldable pub head_of : List ℕ → Head
head_of d = record { kind = get_or d 2 0; spare = get_or d 3 0; p = field d 4 8; q = field d 12 8; n = field d 20 4 }

unfoldable pub head_bytes : Head → List ℕ
head_bytes h = head_mark ++ h.kind ∷ h.spare ∷ spelled 8 h.p ++ spelled 8 h.q ++ spelled 4 h.n

-- a log head and a compared head from p to q; `written` fills in the count
abbrev pub log_head : ℕ → ℕ → Head
log_head p q = record { kind = 0; spare = 0; p = p; q = q; n = 0 }

abbrev pub compared_head : ℕ → ℕ → Head
compared_head p q = record { kind = 1; spare = 0; p = p; q = q; n = 0 }

abbrev pub is_compared : Head → Bool
is_compared h = eqb h.kind 1

-- BadHead: "kind above 1, spare byte not zero, a gid too large, or p ≥ q"
unfoldable pub bad_head : Head → Bool
bad_head h = ltb 1 h.kind || not (eqb h.spare 0) || ltb max_gid h.p || ltb max_gid h.q || leb h.q h.p

-- the head rules, 3 and then 4; TooMany: "n above 65,536". The entries of a shelf obey them too.
unfoldable pub check_head : Head → Said Head
check_head h = guard (bad_head h) BadHead (guard (ltb max_blocks h.n) TooMany (answer h))

-- ---- the block records: "57 42, address (4), content (512)"

-- the rest of d from record i on; records count from 0
abbrev pub rest : List ℕ → ℕ → List ℕ
rest d i = drop (head_size + record_size * i) d

-- of a rest, the address and the content of the record that it opens with
unfoldable pub address_of : List ℕ → ℕ
address_of r = field r 2 4

unfoldable pub content_of : List ℕ → List ℕ
content_of r = take block_bytes (drop content_at r)

unfoldable pub record_bytes : ℕ → List ℕ → List ℕ
record_bytes a c = block_mark ++ spelled 4 a ++ c

-- One record, "mark before address". `low` is the lowest address still allowed: 0 at first, then one above the one before.
-- BadOrder: "an address above 65,535 or not above the one before". It answers the address.
unfoldable pub check_record : List ℕ → ℕ → Said ℕ
check_record r low =
    guard (not (opens r block_mark)) BadMark
    (guard (ltb max_address (address_of r) || ltb (address_of r) low) BadOrder
    (answer (address_of r)))

-- "then record after record": k records of d from record i on
unfoldable pub check_records : List ℕ → ℕ → ℕ → ℕ → Said (Unit {0})
check_records d i zero low = answer tt
check_records d i (suc k) low = check_record (rest d i) low then λ a. check_records d (suc i) k (suc a)

-- ---- the check: "under 24 bytes, mark, BadHead, TooMany, CutOff, Tail, then record after record"

-- 24 + 518n
abbrev pub diff_size : Head → ℕ
diff_size h = head_size + record_size * h.n

unfoldable pub read_head : List ℕ → Said Head
read_head d =
    guard (ltb (length d) head_size) CutOff
    (guard (not (opens d head_mark)) BadMark
    (check_head (head_of d)))

unfoldable pub check : List ℕ → Said Head
check d =
    read_head d
    then λ h. guard (ltb (length d) (diff_size h)) CutOff
    (guard (ltb (diff_size h) (length d)) Tail
    (check_records d 0 h.n 0 then λ _. answer h))

-- ---- what a diff means

-- the place, among the k records of d from record i on, of the record with address a
unfoldable pub seek : List ℕ → ℕ → ℕ → ℕ → Option ℕ
seek d a i zero = none
seek d a i (suc k) = cond (eqb (address_of (rest d i)) a) (some i) (seek d a (suc i) k)

-- the map of the k records of d from record i on
unfoldable pub named_by : List ℕ → ℕ → ℕ → Map
named_by d i k a = map (λ j. content_of (rest d j)) (seek d a i k)

-- the content that d gives block a, or none
unfoldable pub named : List ℕ → Map
named d = named_by d 0 (head_of d).n

-- Outside: one of k records of d from record i on names a block that an image of m blocks hasn't
unfoldable pub names_outside : List ℕ → ℕ → ℕ → ℕ → Bool
names_outside d i zero m = false
names_outside d i (suc k) m = leb m (address_of (rest d i)) || names_outside d (suc i) k m

-- ---- the one diff that means a map: a head with the map's count, then a record for each address 0, 1, .. 65,535 that is named

abbrev pub record_for : ℕ → Option (List ℕ) → List ℕ
record_for a none = []
record_for a (some c) = record_bytes a c

abbrev pub one_for : Option (List ℕ) → ℕ
one_for none = 0
one_for (some c) = 1

-- the records, and their number, of k addresses from address a on
unfoldable pub records_of : Map → ℕ → ℕ → List ℕ
records_of f a zero = []
records_of f a (suc k) = record_for a (f a) ++ records_of f (suc a) k

unfoldable pub count_of : Map → ℕ → ℕ → ℕ
count_of f a zero = 0
count_of f a (suc k) = one_for (f a) + count_of f (suc a) k

-- the head h, whatever count it has, with the map's own
unfoldable pub counted : Head → Map → Head
counted h f = record { kind = h.kind; spare = h.spare; p = h.p; q = h.q; n = count_of f 0 max_blocks }

unfoldable pub written : Head → Map → List ℕ
written h f = head_bytes (counted h f) ++ records_of f 0 max_blocks
