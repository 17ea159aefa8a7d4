-- A diff and its meaning determine each other: the bytes written for a map pass the check and mean that map,
-- and a diff that passes is the one byte string that its own meaning writes. Both walk over the addresses 0, 1, .. and over the records together:
-- the next record is that of the address exactly where the map names it.
use Prim.Native.Nat.{ℕ, zero, suc, ◌+◌, ◌-◌, ◌*◌, ◌≤◌, ◌<◌}
use mathlib.Core.Path.{◌≡◌, refl, sym, ◌∙◌}
use mathlib.Core.Option.{none, some}
use mathlib.Core.List.{List, [], ◌++◌}
use mathlib.Core.Bool.{true, false}
use lib.ListN.{length, drop, length-append, length-drop, drop_of_length-le}
use lib.Seq.{drop_at, drop-drop}
use native.Mathlib.Numerals.{add-one}
use native.Mathlib.Omega.{arith}
use native.Mathlib.Decide.{ℕ_discrete, dec_lt}
use Rattle.paper.specs.Limits.{max_blocks, block_bytes, head_size, record_size, block_mark}
use Rattle.paper.specs.Number.{Bytes, opens}
use Rattle.paper.specs.Answer.{answer}
use Rattle.paper.specs.Image.{Map}
use Rattle.paper.specs.Diff.{Head, head_bytes, bad_head, rest, address_of, content_of, record_bytes, check_records, check, named_by, named}
use Rattle.paper.specs.Diff.{record_for, one_for, records_of, count_of, counted, written}
use Rattle.paper.proofs.Numbers.{bytes_drop, bytes_append}
use Rattle.paper.proofs.Check.{good_head, Headed, RecordPassed, record_passes, records_sound, Sound, sound, check_answers}
use Rattle.paper.proofs.Names.{NamedBy, named_by_here, named_by_later, named_by_none, unnamed, named_as, seen, Fits, beyond, named_sound, none_named}
use Rattle.paper.proofs.Parts.{head_length, head_is_bytes, head_marked, head_back, head_own, record_length, record_marked, record_is_bytes, address_back, content_back, record_own}

-- ---- one address more

-- The records of k addresses after address a are those of suc k from a on: all of them, or all but the first.
pub data Next (f : Map) (a k : ℕ) : Type 0 where
  skips : f a ≡ none → records_of f a (suc k) ≡ records_of f (suc a) k → count_of f a (suc k) ≡ count_of f (suc a) k → Next f a k
  takes : (c : List ℕ) → f a ≡ some c → records_of f a (suc k) ≡ record_bytes a c ++ records_of f (suc a) k
      → count_of f a (suc k) ≡ suc (count_of f (suc a) k) → Next f a k

-- it is as the map says of a
pub next : (f : Map) (a k : ℕ) → Next f a k
unfolding records_of count_of
next f a k = elim (seen f a) [
  | unnamed e ↦ skips e (rw e) (rw e (omega arith))
  | named_as c e ↦ takes c e (rw e) (rw e (omega arith))
]

-- of n addresses, those from a on are a and those from a + 1 on
pub records_left : (f : Map) (a n : ℕ) → a < n → records_of f a (n - a) ≡ record_for a (f a) ++ records_of f (a + 1) (n - (a + 1))
unfolding records_of
records_left f a n l = let k : n - a ≡ suc (n - (a + 1)) = omega arith in rw (k, add-one)

pub count_left : (f : Map) (a n : ℕ) → a < n → count_of f a (n - a) ≡ one_for (f a) + count_of f (a + 1) (n - (a + 1))
unfolding count_of
count_left f a n l = let k : n - a ≡ suc (n - (a + 1)) = omega arith in rw (k, add-one)

-- no address has no record
pub records_zero : (f : Map) (a : ℕ) → records_of f a 0 ≡ []
unfolding records_of
records_zero f a = refl

-- and counts none
pub count_zero : (f : Map) (a : ℕ) → count_of f a 0 ≡ 0
unfolding count_of
count_zero f a = refl

-- there are no more records than addresses
pub count_le : (f : Map) (a k : ℕ) → count_of f a k ≤ k
count_le f a zero = omega (arith, count_zero f a)
count_le f a (suc k) =
    let later = count_le f (suc a) k in
    elim (next f a k) [
      | skips e r n ↦ omega arith
      | takes c e r n ↦ omega arith
    ]

-- the records have their length
pub records_length : {f : Map} → Fits f → (a k : ℕ) → length (records_of f a k) ≡ record_size * count_of f a k
records_length {f} fits a zero = rw (records_zero f a, count_zero f a)
records_length {f} fits a (suc k) =
    let later = records_length fits (suc a) k in
    elim (next f a k) [
      | skips e r n ↦ rw (r, n) later
      | takes c e r n ↦ rw (r, n, length-append, record_length a c (fits.whole a c e), later) (omega arith)
    ]

-- maps that agree on the addresses have the same records
pub records_same : (f g : Map) (a k : ℕ) → ((b : ℕ) → a ≤ b → b < a + k → f b ≡ g b) → records_of f a k ≡ records_of g a k
unfolding records_of
records_same f g a zero same = refl
records_same f g a (suc k) same =
    rw (same a (omega arith) (omega arith), records_same f g (suc a) k λ b x y. same b (omega arith) (omega arith))

-- and as many
pub count_same : (f g : Map) (a k : ℕ) → ((b : ℕ) → a ≤ b → b < a + k → f b ≡ g b) → count_of f a k ≡ count_of g a k
unfolding count_of
count_same f g a zero same = refl
count_same f g a (suc k) same =
    rw (same a (omega arith) (omega arith), count_same f g (suc a) k λ b x y. same b (omega arith) (omega arith))

-- more addresses, none of them named, have no more records
pub records_beyond : (f : Map) (a n k : ℕ) → ((b : ℕ) → a + n ≤ b → f b ≡ none) → records_of f a (n + k) ≡ records_of f a n
unfolding records_of
records_beyond f a zero zero rest = refl
records_beyond f a zero (suc k) rest =
    let e : 0 + suc k ≡ suc (0 + k) = omega arith in
    rw (e, rest a (omega arith)) (records_beyond f (suc a) 0 k λ b l. rest b (omega arith))
records_beyond f a (suc n) k rest = let e : suc n + k ≡ suc (n + k) = omega arith in rw (e, records_beyond f (suc a) n k λ b l. rest b (omega arith))

-- and count no more
pub count_beyond : (f : Map) (a n k : ℕ) → ((b : ℕ) → a + n ≤ b → f b ≡ none) → count_of f a (n + k) ≡ count_of f a n
unfolding count_of
count_beyond f a zero zero rest = refl
count_beyond f a zero (suc k) rest =
    let e : 0 + suc k ≡ suc (0 + k) = omega arith in
    rw (e, rest a (omega arith)) (omega (arith, count_beyond f (suc a) 0 k λ b l. rest b (omega arith)))
count_beyond f a (suc n) k rest = let e : suc n + k ≡ suc (n + k) = omega arith in rw (e, count_beyond f (suc a) n k λ b l. rest b (omega arith))

-- records of bytes are bytes
pub records_bytes : (f : Map) → ((a : ℕ) (c : List ℕ) → f a ≡ some c → Bytes c) → (a k : ℕ) → Bytes (records_of f a k)
records_bytes f bytes a zero = rw (records_zero f a) λ i. omega arith
records_bytes f bytes a (suc k) =
    let later = records_bytes f bytes (suc a) k in
    elim (next f a k) [
      | skips e r n ↦ rw r later
      | takes c e r n ↦ rw r (bytes_append (record_bytes a c) (records_of f (suc a) k) (record_is_bytes a c (bytes a c e)) later)
    ]

-- ---- a record that stands in a diff

-- from the next record on
pub rest_suc : (d : List ℕ) (i : ℕ) → rest d (suc i) ≡ drop record_size (rest d i)
rest_suc d i =
    let e : head_size + record_size * suc i ≡ head_size + record_size * i + record_size = omega arith in
    rw (e, ← drop-drop record_size (head_size + record_size * i) d)

-- Record i of d is that of block a with content c, and v follows it.
pub record Stands (d : List ℕ) (i a : ℕ) (c v : List ℕ) : Type 0 where
  pub mark : opens (rest d i) block_mark ≡ true
  pub address : address_of (rest d i) ≡ a
  pub content : content_of (rest d i) ≡ c
  pub after : rest d (suc i) ≡ v

-- where its bytes stand, the record does
pub stands : (d : List ℕ) (i a : ℕ) (c v : List ℕ) → rest d i ≡ record_bytes a c ++ v → a < max_blocks → length c ≡ block_bytes → Stands d i a c v
stands d i a c v e small whole = record {
  mark = rw e (record_marked a c v);
  address = rw e (address_back a c v small);
  content = rw e (content_back a c v whole);
  after = rw (rest_suc d i, e) (drop_at (record_bytes a c) v record_size (record_length a c whole));
}

-- ---- what is written is read back

module _ (f : Map) (fits : Fits f) (d : List ℕ) where
  -- the records of a map pass
  pub records_check : (i a k low : ℕ) → rest d i ≡ records_of f a k → low ≤ a → check_records d i (count_of f a k) low ≡ answer tt
  unfolding check_records
  records_check i a zero low e l = rw (count_zero f a)
  records_check i a (suc k) low e l = elim (next f a k) [
    | skips none_here r n ↦ rw n (records_check i (suc a) k low (e ∙ r) (omega arith))
    | takes c here r n ↦
        let s = stands d i a c _ (e ∙ r) (fits.within a c here) (fits.whole a c here) in
        let passed : RecordPassed (rest d i) low = record { mark = s.mark; small = omega (arith, fits.within a c here); above = omega arith } in
        rw (n, record_passes passed, s.address) (records_check (suc i) (suc a) k (suc a) s.after (omega arith))
  ]

  -- they name no lower address
  pub records_above : (i a k b : ℕ) → rest d i ≡ records_of f a k → b < a → named_by d i (count_of f a k) b ≡ none
  records_above i a k b e l =
      let r = records_sound d i (count_of f a k) a (records_check i a k a e (omega arith)) in
      named_by_none d i (count_of f a k) b λ j s. omega (arith, (r.each j s.from s.below).above)

  -- and from there on they name what the map does
  pub records_name : (i a k : ℕ) → a + k ≡ max_blocks → rest d i ≡ records_of f a k → (b : ℕ) → a ≤ b → named_by d i (count_of f a k) b ≡ f b
  records_name i a zero all e b l = rw (count_zero f a, beyond fits b (omega arith)) (named_by_none d i 0 b λ j s. omega arith)
  records_name i a (suc k) all e b l = elim (next f a k) [
    | skips none_here r n ↦ elim (ℕ_discrete a b) [
      | yes same ↦ rw (n, ← same, none_here) (records_above i (suc a) k a (e ∙ r) (omega arith))
      | no other ↦ rw n (records_name i (suc a) k (omega arith) (e ∙ r) b (omega arith))
    ]
    | takes c here r n ↦
        let s = stands d i a c _ (e ∙ r) (fits.within a c here) (fits.whole a c here) in
        let more = count_of f (suc a) k in
        elim (ℕ_discrete a b) [
          | yes same ↦ rw (n, ← same, named_by_here d i more a s.address, s.content, here)
          | no other ↦
              rw (n, named_by_later d i more b λ x. other (sym s.address ∙ x))
              (records_name (suc i) (suc a) k (omega arith) s.after b (omega arith))
        ]
  ]

-- what follows the head that is written
pub written_rest : (h : Head) (f : Map) → rest (written h f) 0 ≡ records_of f 0 max_blocks
unfolding written
written_rest h f = drop_at (head_bytes (counted h f)) (records_of f 0 max_blocks) head_size (head_length (counted h f))

-- what is written has its length
pub written_length : (h : Head) {f : Map} → Fits f → length (written h f) ≡ head_size + record_size * count_of f 0 max_blocks
unfolding written
written_length h {f} fits = rw (length-append, head_length, records_length fits 0 max_blocks)

-- a head stays good with another count
pub counted_good : (h : Head) (f : Map) → bad_head h ≡ false → bad_head (counted h f) ≡ false
unfolding bad_head counted
counted_good h f good = good

-- a head that has the map's count stays as it is
pub counted_own : (h : Head) (f : Map) → count_of f 0 max_blocks ≡ h.n → counted h f ≡ h
unfolding counted
counted_own h f e = λ i. record { kind = h.kind; spare = h.spare; p = h.p; q = h.q; n = e i }

-- what is written is bytes
pub written_bytes : (h : Head) (f : Map) → bad_head h ≡ false → ((a : ℕ) (c : List ℕ) → f a ≡ some c → Bytes c) → Bytes (written h f)
unfolding written
written_bytes h f good bytes =
    bytes_append (head_bytes (counted h f)) (records_of f 0 max_blocks)
    (head_is_bytes (counted h f) (good_head (counted_good h f good)))
    (records_bytes f bytes 0 max_blocks)

-- what is written hangs on the head but its count, and on the map below 65,536
pub written_same : (h g : Head) (f e : Map) → h.kind ≡ g.kind → h.spare ≡ g.spare → h.p ≡ g.p → h.q ≡ g.q
    → ((a : ℕ) → a < max_blocks → f a ≡ e a) → written h f ≡ written g e
unfolding written counted
written_same h g f e kind spare p q same =
    let records = records_same f e 0 max_blocks λ b x y. same b (omega arith) in
    let count = count_same f e 0 max_blocks λ b x y. same b (omega arith) in
    rw (kind, spare, p, q, records, count)

-- the head that is written is read back
pub written_headed : (h : Head) (f : Map) → bad_head h ≡ false → Headed (written h f) (counted h f)
unfolding written counted
written_headed h f good =
    let few = count_le f 0 max_blocks in
    record {
      head = sym (head_back (counted h f) (records_of f 0 max_blocks) (good_head (counted_good h f good)) few);
      room = rw (length-append, head_length) (omega arith);
      mark = head_marked (counted h f) (records_of f 0 max_blocks);
      good = counted_good h f good;
      few = few;
    }

-- what is written passes the check
pub reads_back_check : (h : Head) (f : Map) → bad_head h ≡ false → Fits f → check (written h f) ≡ answer (counted h f)
unfolding counted
reads_back_check h f good fits =
    check_answers (written_headed h f good) (written_length h fits)
    (records_check f fits (written h f) 0 0 max_blocks 0 (written_rest h f) (omega arith))

-- and means the map
pub reads_back_map : (h : Head) (f : Map) → bad_head h ≡ false → Fits f → (a : ℕ) → named (written h f) a ≡ f a
unfolding named counted
reads_back_map h f good fits a =
    rw (← (written_headed h f good).head) (records_name f fits (written h f) 0 0 max_blocks refl (written_rest h f) a (omega arith))

-- ---- a diff is what its meaning writes

-- The walk over the addresses stands at a, and that over the n records of d at i.
pub record Aligned (d : List ℕ) (n a i : ℕ) : Type 0 where
  pub inside : i ≤ n
  pub before : (j : ℕ) → j < i → address_of (rest d j) < a
  pub after : (j : ℕ) → i ≤ j → j < n → a ≤ address_of (rest d j)

-- The records from i on are those of the map for k addresses from a on.
pub record Walked (d : List ℕ) (n a i k : ℕ) : Type 0 where
  pub records : rest d i ≡ records_of (named d) a k
  pub count : i + count_of (named d) a k ≡ n

module _ {d : List ℕ} {h : Head} (s : Sound d h) where
  -- past the last address, the walk is past the last record
  aligned_end : (a i : ℕ) → max_blocks ≤ a → Aligned d h.n a i → i ≡ h.n
  aligned_end a i all al = elim (ℕ_discrete i h.n) [
    | yes e ↦ e
    | no e ↦ absurd (omega (arith, al.after i (omega arith) (omega arith), s.low i (omega arith)))
  ]

  -- past an address that is not named, it stands at the same record
  aligned_skip : (a i : ℕ) → named d a ≡ none → Aligned d h.n a i → Aligned d h.n (suc a) i
  aligned_skip a i e al = record {
    inside = al.inside;
    before = λ j l. omega (arith, al.before j l);
    after = λ j l m. omega (arith, al.after j l m, none_named s a e j m);
  }

  -- at an address that is named, it stands at the record that names it
  aligned_here : {c : List ℕ} (a i : ℕ) → (m : NamedBy d 0 h.n a c) → Aligned d h.n a i → m.place ≡ i
  aligned_here a i m al = elim (dec_lt m.place i) [
    | yes l ↦ absurd (omega (arith, al.before m.place l))
    | no l ↦ elim (dec_lt i m.place) [
      | yes g ↦ absurd (omega (arith, al.after i (omega arith) (omega arith), s.rising i m.place g (omega arith)))
      | no g ↦ omega arith
    ]
  ]

  -- and past it, at the next
  aligned_take : (a i : ℕ) → i < h.n → address_of (rest d i) ≡ a → Aligned d h.n a i → Aligned d h.n (suc a) (suc i)
  aligned_take a i l here al = record {
    inside = l;
    before = λ j m. elim (ℕ_discrete j i) [
      | yes e ↦ rw e (omega arith)
      | no e ↦ omega (arith, al.before j (omega arith))
    ];
    after = λ j g m. omega (arith, s.rising i j g m);
  }

  -- the records of a sound diff of bytes are those of its map, and as many
  pub records_own : Bytes d → (a i k : ℕ) → a + k ≡ max_blocks → Aligned d h.n a i → Walked d h.n a i k
  records_own bytes a i zero all al =
      let e = aligned_end a i (omega arith) al in
      let long = s.long in
      let past : length d ≤ head_size + record_size * i = omega arith in
      record { records = rw (records_zero (named d) a) (drop_of_length-le d past); count = rw (count_zero (named d) a) (omega arith) }
  records_own bytes a i (suc k) all al = elim (next (named d) a k) [
    | skips none_here r n ↦
        let w = records_own bytes (suc a) i k (omega arith) (aligned_skip a i none_here al) in
        record { records = w.records ∙ sym r; count = rw n w.count }
    | takes c here r n ↦
        let m = named_sound s a here in
        let place = aligned_here a i m al in
        let inside : i < h.n = omega arith in
        let address : address_of (rest d i) ≡ a = rw place at m.sought.address in
        let content : c ≡ content_of (rest d i) = rw place at m.content in
        let w = records_own bytes (suc a) (suc i) k (omega arith) (aligned_take a i inside address al) in
        let long = s.long in
        let own = record_own (rest d i) (bytes_drop (head_size + record_size * i) d bytes) (rw length-drop (omega arith)) (s.marks i inside) in
        record { records = rw (r, ← w.records, rest_suc d i, content, ← address) (sym own); count = rw n (omega (arith, w.count)) }
  ]

-- a diff that passes the check is the one byte string that its meaning writes
pub own_bytes : (d : List ℕ) (h : Head) → Bytes d → check d ≡ answer h → d ≡ written h (named d)
unfolding written
own_bytes d h bytes e =
    let s = sound e in
    let long = s.long in
    let w = records_own s bytes 0 0 max_blocks refl (record { inside = omega arith; before = λ j l. absurd (omega arith); after = λ j l m. omega arith }) in
    let n : count_of (named d) 0 max_blocks ≡ h.n = omega (arith, w.count) in
    rw (counted_own h (named d) n, ← w.records, s.head) (sym (head_own d bytes (omega arith) s.mark))

-- two diffs of one head that mean the same are the same bytes
pub same_meaning : (d e : List ℕ) (h : Head) → Bytes d → Bytes e → check d ≡ answer h → check e ≡ answer h
    → ((a : ℕ) → named d a ≡ named e a) → d ≡ e
same_meaning d e h bd be cd ce same =
    own_bytes d h bd cd ∙ written_same h h (named d) (named e) refl refl refl refl (λ a l. same a) ∙ sym (own_bytes e h be ce)
