-- A mark set in the columns of a set's atoms: one column changed, and what is left to mark after one atom or one part of the set.
use Prim.Native.Nat.{ℕ, ◌+◌, ◌-◌, ◌*◌, ◌/◌, ◌^◌, ◌≤◌, ◌<◌}
use mathlib.Core.Path.{◌≡◌, refl, sym, ap, ap₂, ◌∙◌}
use mathlib.Core.List.{List}
use mathlib.Core.Bool.{Bool, true, false, not, ◌&&◌, ◌||◌, false≢true, and-eq-true_iff}
use native.Mathlib.Omega.{arith}
use borrow.Author.Tests.{eqb-true, eqb-false, ltb-true, ltb-false}
use lib.Arith.{lt_of_le-ne}
use lib.Dec.{eqb, ltb}
use lib.ListN.{length, get_or, take, drop, set, length-set}
use lib.Seq.{take-set-lt, take-set-le, drop-set-lt, drop-set-add, get_or-take, get_or-drop}
use lib.Bits.{bit_or, or_zero_r}
use Rattle.std.proofs.lemmas.Bool.{or_right}
use Rattle.words.specs.Set.{set_of, digit, has, low}
use Rattle.words.proofs.Bitwise.{by_or, two, digit_op, digit_ext}
use Rattle.words.proofs.Packed.{packed_set}
use Rattle.words.proofs.Meaning.{low_lowest, step_visits, has_or, has_none}
use Rattle.rows.specs.Flat.{row}
use Rattle.rows.proofs.Places.{row_length}
use Rattle.rows.proofs.Adding.{earlier}
use Rattle.parity.specs.Entered.{Reaches, mark_if, Entered}

-- ---- one word of one column changed

module _ (stride : ℕ) (index : List ℕ) (a c v : ℕ) (h : c < stride) where
  column_same : row stride (set index (a * stride + c) v) a ≡ set (row stride index a) c v
  column_same = ap (take stride) (drop-set-add (a * stride) index c v) ∙ take-set-lt stride (drop (a * stride) index) c v h

  column_other : (b : ℕ) → (b ≡ a → ⊥) → row stride (set index (a * stride + c) v) b ≡ row stride index b
  column_other b ne = go (ltb b a) refl
    where
      go : (t : Bool) → ltb b a ≡ t → row stride (set index (a * stride + c) v) b ≡ row stride index b
      go true e =
          let far = earlier stride a b (ltb-true b a e) in
          let d = a * stride + c - b * stride in
          let at : a * stride + c ≡ b * stride + d = omega (arith, far) in
          ap (λ (i : ℕ). row stride (set index i v) b) at ∙ ap (take stride) (drop-set-add (b * stride) index d v)
          ∙ take-set-le stride (drop (b * stride) index) d v (omega (arith, far))
      go false e =
          let far = earlier stride b a (lt_of_le-ne (ltb-false b a e) (λ p. ne (sym p))) in
          ap (take stride) (drop-set-lt (b * stride) index (a * stride + c) v (omega (arith, far)))

-- a bit joined to word c of atom a's column is a mark on that column alone
column_marked : (stride : ℕ) (index : List ℕ) (a c bit : ℕ) → c < stride → bit < 2 ^ 64 → a * stride + stride ≤ length index → (b : ℕ)
    → set_of (row stride (set index (a * stride + c) (bit_or (get_or index (a * stride + c) 0) bit)) b) ≡ mark_if (eqb b a) (bit * 2 ^ (c * 64)) (set_of (row stride index b))
column_marked stride index a c bit h fits room b = go (eqb b a) refl
  where
    word : get_or (row stride index a) c 0 ≡ get_or index (a * stride + c) 0
    word = get_or-take stride (drop (a * stride) index) c 0 h ∙ get_or-drop (a * stride) index c 0

    same : set_of (row stride (set index (a * stride + c) (bit_or (get_or index (a * stride + c) 0) bit)) a) ≡ bit_or (set_of (row stride index a)) (bit * 2 ^ (c * 64))
    same =
        let wide : c < length (row stride index a) = omega (arith, row_length stride index a room) in
        ap set_of (column_same stride index a c (bit_or (get_or index (a * stride + c) 0) bit) h)
        ∙ ap (λ (w : ℕ). set_of (set (row stride index a) c (bit_or w bit))) (sym word)
        ∙ packed_set by_or or_zero_r 64 bit fits (row stride index a) c wide

    go : (t : Bool) → eqb b a ≡ t
        → set_of (row stride (set index (a * stride + c) (bit_or (get_or index (a * stride + c) 0) bit)) b) ≡ mark_if t (bit * 2 ^ (c * 64)) (set_of (row stride index b))
    go true e = let is = eqb-true b a e in rw is same
    go false e = ap set_of (column_other stride index a c (bit_or (get_or index (a * stride + c) 0) bit) h b (eqb-false b a e))

-- ---- what is left to mark

-- With the mark on the columns of y, the atoms left, those of index' are those of index with the mark on the columns of x.
pub record Left (stride mark x : ℕ) (index : List ℕ) (y : ℕ) (index' : List ℕ) : Type 0 where
  pub kept : length index' ≡ length index
  pub reaches : Reaches stride y (length index)
  pub columns : (b : ℕ) → b * stride + stride ≤ length index
      → mark_if (has y b) mark (set_of (row stride index' b)) ≡ mark_if (has x b) mark (set_of (row stride index b))

pub left_start : (stride mark x : ℕ) (index : List ℕ) → Reaches stride x (length index) → Left stride mark x index x index
left_start stride mark x index reaches = record { kept = refl; reaches = reaches; columns = λ b h. refl }

pub left_end : {stride mark x : ℕ} {index : List ℕ} {y : ℕ} {index' : List ℕ} → y ≡ 0 → Left stride mark x index y index' → Entered stride mark x index index'
left_end {stride} {mark} {x} {index} {y} {index'} none so = record {
  columns = λ b h. ap (λ (t : Bool). mark_if t mark (set_of (row stride index' b))) (sym (ap (λ (z : ℕ). has z b) none ∙ has_none b)) ∙ so.columns b h;
}

-- one atom is marked
visited : (p q : Bool) (mark column : ℕ) → (q ≡ true → p ≡ true) → mark_if (p && not q) mark (mark_if q mark column) ≡ mark_if p mark column
visited true true mark column h = refl
visited true false mark column h = refl
visited false true mark column h = absurd (false≢true (h refl))
visited false false mark column h = refl

pub lowest_room : {stride mark x : ℕ} {index : List ℕ} {y : ℕ} {index' : List ℕ} {a : ℕ} → Left stride mark x index y index' → 0 < y → low y ≡ a → a * stride + stride ≤ length index'
lowest_room {y = y} {a = a} so some lowest = rw so.kept (so.reaches a (rw (sym lowest) (low_lowest y some).0))

module _ {stride x y a : ℕ} {index index' : List ℕ} (bit c : ℕ) (h : c < stride) (fits : bit < 2 ^ 64)
    (so : Left stride (bit * 2 ^ (c * 64)) x index y index') (some : 0 < y) (lowest : low y ≡ a) where
  pub left_bit : {y' : ℕ} → y' ≡ y - 2 ^ a
      → Left stride (bit * 2 ^ (c * 64)) x index y' (set index' (a * stride + c) (bit_or (get_or index' (a * stride + c) 0) bit))
  left_bit {y'} is = record {
    kept = length-set index' (a * stride + c) _ ∙ so.kept;
    reaches = λ b e. so.reaches b ((and-eq-true_iff (has y b) (not (eqb b a))).0 (sym (visits b) ∙ e)).0;
    columns = λ b r.
        let mark = bit * 2 ^ (c * 64) in
        let old = set_of (row stride index' b) in
        let room = lowest_room so some lowest in
        ap₂ (λ (t : Bool) (s : ℕ). mark_if t mark s) (visits b) (column_marked stride index' a c bit h fits room b)
        ∙ visited (has y b) (eqb b a) mark old (λ e. ap (has y) (eqb-true b a e ∙ sym lowest) ∙ (low_lowest y some).0)
        ∙ so.columns b r;
  }
    where
      visits : (b : ℕ) → has y' b ≡ (has y b && not (eqb b a))
      visits b = ap (λ (z : ℕ). has z b) (is ∙ ap (λ (k : ℕ). y - 2 ^ k) (sym lowest)) ∙ step_visits y b some ∙ ap (λ (k : ℕ). has y b && not (eqb b k)) lowest

-- all atoms of z are marked
or_twice : (x m : ℕ) → bit_or (bit_or x m) m ≡ bit_or x m
or_twice x m =
    digit_ext (bit_or (bit_or x m) m) (bit_or x m)
    (λ a. digit_op by_or (bit_or x m) m a ∙ ap (λ (d : ℕ). bit_or d (digit m a)) (digit_op by_or x m a)
    ∙ two (λ (p q : ℕ). bit_or (bit_or p q) q ≡ bit_or p q) refl refl refl refl (x / 2 ^ a) (m / 2 ^ a) ∙ sym (digit_op by_or x m a))

joined : (p q : Bool) (mark column : ℕ) → mark_if p mark (mark_if q mark column) ≡ mark_if (p || q) mark column
joined true true mark column = or_twice column mark
joined true false mark column = refl
joined false q mark column = refl

module _ {stride mark x y : ℕ} {index index' : List ℕ} (so : Left stride mark x index y index') (y' z : ℕ) (is : y ≡ bit_or y' z) where
  either : (b : ℕ) → has y b ≡ (has y' b || has z b)
  either b = ap (λ (k : ℕ). has k b) is ∙ has_or y' z b

  pub part_reaches : Reaches stride z (length index')
  part_reaches b e = rw so.kept (so.reaches b (either b ∙ or_right (has y' b) (has z b) e))

  pub left_part : {index'' : List ℕ} → length index'' ≡ length index' → Entered stride mark z index' index'' → Left stride mark x index y' index''
  left_part kept part = record {
    kept = kept ∙ so.kept;
    reaches = λ b e. so.reaches b (either b ∙ ap (λ (t : Bool). t || has z b) e);
    columns = λ b r.
        let old = set_of (row stride index' b) in
        ap (mark_if (has y' b) mark) (part.columns b (rw so.kept r)) ∙ joined (has y' b) (has z b) mark old
        ∙ ap (λ (t : Bool). mark_if t mark old) (sym (either b)) ∙ so.columns b r;
  }
