-- One apply keeps a state true. A byte that the diff names becomes that of H(q). One that it does not name was not written from p to q − 1,
-- so that it is the same in each image from H(b) to H(q); or it is of a later gid, which e still covers.
use Prim.Native.Nat.{ℕ, ◌-◌, ◌/◌, ◌%◌, ◌≤◌, ◌<◌, max, min}
use mathlib.Core.Path.{◌≡◌, sym, ap, ◌∙◌}
use mathlib.Core.Option.{none, some}
use mathlib.Core.List.{List, []}
use mathlib.Core.Bool.{true, false}
use mathlib.Core.Logic.{◌⊎◌, inl, inr}
use native.Mathlib.Omega.{arith}
use native.Mathlib.Decide.{dec_le, dec_lt}
use lib.ListN.{length, get_or, drop_of_length-le}
use lib.Seq.{ext_get_or}
use Rattle.paper.specs.Answer.{answer}
use Rattle.paper.specs.Merge.{merged}
use Rattle.paper.specs.Limits.{max_gid}
use Rattle.paper.specs.Image.{Map, block, byte_after, overlay, same}
use Rattle.paper.specs.Diff.{Head, is_compared, check, named}
use Rattle.paper.specs.State.{State, is_clean}
use Rattle.paper.specs.Volume.{is_pair_while, while_state, done_state}
use Rattle.paper.specs.Compare.{differing}
use Rattle.paper.specs.History.{History, writes_in, logged, true_map, TrueDiff, TrueByte, of_span, of_b, of_t, TrueState, Mixed}
use Rattle.paper.proofs.Bools.{Which, holds, fails, which}
use Rattle.paper.proofs.Images.{overlay_length, overlay_at, block_length, byte_of_block, bytes_of_equal_blocks, same_true}
use Rattle.paper.proofs.Histories.{unwritten, written_inside, logged_merge}
use Rattle.paper.proofs.States.{GoodState, good_back, FitsKind, ordered, Clean, clean_of}
use Rattle.paper.proofs.Decisions.{Why, log, from_clean, from_pair, Accepted, PairFrom, was_clean, same_pair, pair_from, pair_top, while_good, done_good}

-- byte i of x is that of H(u) for some u from lo to hi
pub record AtGid (H : History) (x i lo hi : ℕ) : Type 0 where
  pub gid : ℕ
  pub from : lo ≤ gid
  pub to : gid ≤ hi
  pub byte : x ≡ get_or (H.image gid) i 0

-- whatever the kind, a true byte is of some gid from b to e
pub of_some_gid : {H : History} {s : State} {img : List ℕ} {i : ℕ} → FitsKind s → TrueByte H s img i → AtGid H (get_or img i 0) i s.b s.e
of_some_gid f (of_span k u l m x) = record { gid = u; from = l; to = m; byte = x }
of_some_gid {s = s} f (of_b k x) = let o = ordered s f in record { gid = s.b; from = omega arith; to = omega (arith, o.low, o.high); byte = x }
of_some_gid {s = s} f (of_t k x) = let o = ordered s f in record { gid = s.t; from = o.low; to = o.high; byte = x }

-- before an apply whose While is a pair, a byte is that of H(b) or of H(q)
pub data OfTwo (H : History) (x i b q : ℕ) : Type 0 where
  old : x ≡ get_or (H.image b) i 0 → OfTwo H x i b q
  new : x ≡ get_or (H.image q) i 0 → OfTwo H x i b q

pub of_two : {H : History} {h : Head} {s : State} {img : List ℕ} {i : ℕ} → PairFrom h s → TrueByte H s img i → OfTwo H (get_or img i 0) i s.b h.q
of_two {H} {h} {s} {img} {i} (was_clean y) (of_span k u l m x) =
    let c = clean_of s y in
    let g : u ≡ s.b = omega (arith, c.ends) in
    old (x ∙ ap (λ (v : ℕ). get_or (H.image v) i 0) g)
of_two (was_clean y) (of_b k x) = old x
of_two {s = s} (was_clean y) (of_t k x) = let c = clean_of s y in absurd (omega (arith, c.kind))
of_two (same_pair k q) (of_span k' u l m x) = absurd (omega arith)
of_two (same_pair k q) (of_b k' x) = old x
of_two {H} {i = i} (same_pair k q) (of_t k' x) = new (x ∙ ap (λ (v : ℕ). get_or (H.image v) i 0) (sym q))

-- a log diff's new byte: of some gid from q to the larger of q and e
pub log_byte : (H : History) (p q b e x i : ℕ) → p ≤ b → b ≤ q → q ≤ H.last → AtGid H x i b e
    → AtGid H (byte_after (logged H p q (i / 512)) (i % 512) x) i q (max q e)
unfolding logged
log_byte H p q b e x i l m n g = go (which (writes_in H p (q - p) (i / 512)))
  where
    go : Which (writes_in H p (q - p) (i / 512)) → AtGid H (byte_after (logged H p q (i / 512)) (i % 512) x) i q (max q e)
    go (holds y) = record { gid = q; from = omega arith; to = omega arith; byte = rw y (byte_of_block (H.image q) i) }
    go (fails y) =
        elim (dec_le g.gid q) [
          | yes u ↦ record {
            gid = q;
            from = omega arith;
            to = omega arith;
            byte = rw y (g.byte ∙ bytes_of_equal_blocks _ _ i (unwritten H (q - p) p q (i / 512) (omega arith) n y g.gid (omega (arith, g.from)) u));
          }
          | no u ↦ record { gid = g.gid; from = omega arith; to = omega (arith, g.to); byte = rw y g.byte }
        ]

-- a compared diff's new byte, where the old one is that of H(p) or of H(q): that of H(q)
pub compared_byte : (H : History) (p q x i : ℕ) → OfTwo H x i p q → byte_after (differing (H.image p) (H.image q) (i / 512)) (i % 512) x ≡ get_or (H.image q) i 0
unfolding differing
compared_byte H p q x i o = go (which (same (block (H.image p) (i / 512)) (block (H.image q) (i / 512)))) o
  where
    go : Which (same (block (H.image p) (i / 512)) (block (H.image q) (i / 512))) → OfTwo H x i p q
        → byte_after (differing (H.image p) (H.image q) (i / 512)) (i % 512) x ≡ get_or (H.image q) i 0
    go (fails y) w = rw y (byte_of_block (H.image q) i)
    go (holds y) (old e) = rw y (e ∙ bytes_of_equal_blocks _ _ i (same_true _ _ y))
    go (holds y) (new e) = rw y e

module _ (H : History) (h : Head) (s : State) (a : Accepted h s) (good : GoodState s) (most : h.q ≤ max_gid) (l : h.q ≤ H.last) where
  f : FitsKind s
  f = good.fits

  -- byte i after an accepted apply is of some gid from q to the larger of q and e
  pub new_byte : (img : List ℕ) (i : ℕ) → TrueByte H s img i → AtGid H (byte_after (true_map H h (i / 512)) (i % 512) (get_or img i 0)) i h.q (max h.q s.e)
  unfolding true_map
  new_byte img i t = go a.why
    where
      by_compared : is_compared h ≡ true → h.p ≡ s.b → PairFrom h s → AtGid H (byte_after (true_map H h (i / 512)) (i % 512) (get_or img i 0)) i h.q (max h.q s.e)
      by_compared c p w =
          record { gid = h.q; from = omega arith; to = omega arith; byte = rw (c, p) (compared_byte H s.b h.q (get_or img i 0) i (of_two w t)) }

      go : Why h s → AtGid H (byte_after (true_map H h (i / 512)) (i % 512) (get_or img i 0)) i h.q (max h.q s.e)
      go (log c) = rw c (log_byte H h.p h.q s.b s.e (get_or img i 0) i a.meets (omega (arith, a.ahead)) l (of_some_gid f t))
      go (from_clean c p k) = by_compared c p (was_clean k)
      go (from_pair c p k q) = by_compared c p (same_pair k q)

  module _ (named_map : Map) (names : (b : ℕ) → named_map b ≡ true_map H h b) (img : List ℕ) (t : TrueState H s img) where
    after_byte : (i : ℕ) → i < length img → AtGid H (get_or (overlay img named_map) i 0) i h.q (max h.q s.e)
    after_byte i k = rw (overlay_at img named_map i k, names (i / 512)) (new_byte img i (t.bytes i k))

    -- finished: Done is true of the image
    pub done_true : TrueState H (done_state h s) (overlay img named_map)
    unfolding done_state
    done_true = record {
      legal = good_back _ (done_good h s most good);
      long = overlay_length img named_map ∙ t.long;
      within = omega (arith, t.within);
      bytes = λ i k.
          let g = after_byte i (rw overlay_length at k) in
          of_span (omega arith) g.gid g.from g.to g.byte;
    }

    -- cut: While is true of any mix
    pub while_true : (now : List ℕ) → Mixed img (overlay img named_map) now → TrueState H (while_state h s) now
    unfolding while_state
    while_true now m = record { legal = good_back _ (while_good h s most good a); long = m.long ∙ t.long; within = omega (arith, t.within); bytes = mixed_byte }
      where
        mixed_byte : (i : ℕ) → i < length now → TrueByte H (while_state h s) now i
        mixed_byte i k = go (which (is_pair_while h s)) (m.bytes i k')
          where
            k' : i < length img
            k' = omega (arith, m.long)

            before : AtGid H (get_or img i 0) i s.b s.e
            before = of_some_gid f (t.bytes i k')

            after : AtGid H (get_or (overlay img named_map) i 0) i h.q (max h.q s.e)
            after = after_byte i k'

            two : is_pair_while h s ≡ true → get_or now i 0 ≡ get_or img i 0 → OfTwo H (get_or img i 0) i s.b h.q → TrueByte H (while_state h s) now i
            two y e (old x) = of_b (rw y) (e ∙ x)
            two y e (new x) = of_t (rw y) (e ∙ x)

            go : Which (is_pair_while h s) → (get_or now i 0 ≡ get_or img i 0) ⊎ (get_or now i 0 ≡ get_or (overlay img named_map) i 0) → TrueByte H (while_state h s) now i
            go (fails n) (inl e) = of_span (rw n (omega arith)) before.gid before.from (omega (arith, before.to)) (e ∙ before.byte)
            go (fails n) (inr e) = of_span (rw n (omega arith)) after.gid (omega (arith, after.from, a.ahead)) after.to (e ∙ after.byte)
            go (holds y) (inl e) = two y e (of_two (pair_from h s a y) (t.bytes i k'))
            go (holds y) (inr e) =
                let top = pair_top h s a f (pair_from h s a y) in
                let g : after.gid ≡ h.q = omega (arith, after.from, after.to) in
                of_t (rw y) (e ∙ after.byte ∙ ap (λ (u : ℕ). get_or (H.image u) i 0) g)

-- a state that is clean at g is true of H(g) alone
pub clean_image : (H : History) (s : State) (img : List ℕ) → TrueState H s img → is_clean s ≡ true → s.b ≤ H.last → img ≡ H.image s.b
clean_image H s img t y l =
    ext_get_or 0 img (H.image s.b) (t.long ∙ sym (H.long s.b l)) (λ i k. go i (t.bytes i k))
  where
    c : Clean s
    c = clean_of s y

    go : (i : ℕ) → TrueByte H s img i → get_or img i 0 ≡ get_or (H.image s.b) i 0
    go i (of_span k u m n x) =
        let g : u ≡ s.b = omega (arith, c.ends) in
        x ∙ ap (λ (v : ℕ). get_or (H.image v) i 0) g
    go i (of_b k x) = x
    go i (of_t k x) = absurd (omega (arith, c.kind))

-- The merge of two true log diffs of which the second starts at or before the first's end, and ends at or after it, is true.
pub merged_true : (H : History) (d₀ d₁ d : List ℕ) (h : Head) (t₀ : TrueDiff H d₀) (t₁ : TrueDiff H d₁)
    → is_compared t₀.head ≡ false → is_compared t₁.head ≡ false → t₀.head.p < t₀.head.q
    → t₁.head.p ≤ t₀.head.q → t₀.head.q ≤ t₁.head.q
    → check d ≡ answer h → is_compared h ≡ false → h.p ≡ min t₀.head.p t₁.head.p → h.q ≡ t₁.head.q
    → ((a : ℕ) → named d a ≡ merged (named d₀) (named d₁) a) → TrueDiff H d
unfolding true_map merged
merged_true H d₀ d₁ d h t₀ t₁ c₀ c₁ l₀ l₁ l₂ e c p q m = record { head = h; sound = e; within = rw q t₁.within; names = names }
  where
    names : (a : ℕ) → named d a ≡ true_map H h a
    names a =
        m a
        ∙ rw (t₀.names a, t₁.names a, c₀, c₁, c, p, q)
        (logged_merge H t₀.head.p t₀.head.q t₁.head.p t₁.head.q (omega arith) l₁ l₂ t₁.within a)

-- a true diff names no block outside the history's images
pub true_inside : (H : History) (d : List ℕ) (t : TrueDiff H d) → t.head.p < t.head.q → (a : ℕ) (c : List ℕ) → named d a ≡ some c → a < H.blocks
unfolding true_map logged differing same
true_inside H d t l a c e = go (which (is_compared t.head)) (sym (t.names a) ∙ e)
  where
    h : Head
    h = t.head

    none_some : none ≡ some c → a < H.blocks
    none_some z = let zero_one : ◌≡◌ {A = ℕ} 0 1 = cc in absurd (omega arith)

    by_log : Which (writes_in H h.p (h.q - h.p) a) → logged H h.p h.q a ≡ some c → a < H.blocks
    by_log (holds y) z = written_inside H (h.q - h.p) h.p h.q a (omega arith) t.within y
    by_log (fails y) z = none_some (rw y at z)

    past_end : (g : ℕ) → g ≤ H.last → H.blocks ≤ a → block (H.image g) a ≡ []
    past_end g k m = drop_of_length-le (block (H.image g) a) {i = 0} (rw (block_length, H.long g k) (omega arith))

    by_compared : differing (H.image h.p) (H.image h.q) a ≡ some c → a < H.blocks
    by_compared z =
        elim (dec_lt a H.blocks) [
          | yes k ↦ k
          | no k ↦
              let m : H.blocks ≤ a = omega arith in
              none_some (rw (past_end h.p (omega (arith, t.within)) m, past_end h.q t.within m) at z)
        ]

    go : Which (is_compared t.head) → true_map H t.head a ≡ some c → a < H.blocks
    go (holds y) z = by_compared (rw y at z)
    go (fails y) z = by_log (which (writes_in H h.p (h.q - h.p) a)) (rw y at z)
