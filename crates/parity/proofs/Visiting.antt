-- The atoms of a word, and the words of a row, visited one after another: the turns of `enter_word` and `enter_row`.
use Prim.Native.Nat.{ℕ, ◌+◌, ◌-◌, ◌*◌, ◌^◌, ◌≤◌, ◌<◌}
use mathlib.Core.Path.{◌≡◌, sym, ap, ap₂, ◌∙◌}
use mathlib.Core.List.{List}
use native.Mathlib.Nat.{add_comm, mul_comm, mul_assoc, mul-sub, mul-one, add-mul, suc-mul, zero-mul, mod-eq_of_lt, mul-le-mul_right, le-mul_of_pos_right}
use native.Mathlib.Numerals.{add-one}
use native.Mathlib.Omega.{arith}
use lib.ListN.{length, get_or, drop, set}
use lib.Bits.{bit_or, or_shifted}
use lib.Count.{ones, ones_cat, ones-le}
use lib.Pow.{pow_pos, pow-add, shl_lt}
use Rattle.std.specs.Prelude.{Some}
use Rattle.words.specs.Set.{set_of, low}
use Rattle.words.proofs.Packed.{left_cons, left_none}
use Rattle.words.specs.Calls.{Visits}
use Rattle.words.specs.declared.SetBits.{SetBits}
use Rattle.words.proofs.Lowest.{low_form, low_is}
use Rattle.words.proofs.Meaning.{visit_some}
use Rattle.parity.specs.Entered.{Reaches, Entered}
use Rattle.parity.proofs.Marking.{Left, left_start, left_end, lowest_room, left_bit, part_reaches, left_part}

-- ---- the atoms of a word whose first atom is s

module _ (w s : ℕ) (some : 0 < w) where
  word_low : low (w * 2 ^ s) ≡ s + low w
  word_low =
      let f = low_form w some in
      low_is (w * 2 ^ s) (s + low w) (record {
        half = f.half;
        is =
            ap (λ (n : ℕ). n * 2 ^ s) f.is ∙ mul_assoc (f.half * 2 + 1) (2 ^ low w) (2 ^ s)
            ∙ ap (λ (n : ℕ). (f.half * 2 + 1) * n) (sym (pow-add 2 (low w) s) ∙ ap (λ (n : ℕ). 2 ^ n) (add_comm (low w) s));
      })

  word_next : (w - 2 ^ low w) * 2 ^ s ≡ w * 2 ^ s - 2 ^ (s + low w)
  word_next = mul_comm (w - 2 ^ low w) (2 ^ s) ∙ mul-sub (2 ^ s) w (2 ^ low w) ∙ ap₂ ◌-◌ (mul_comm (2 ^ s) w) (sym (pow-add 2 s (low w)))

  positive : 0 < w * 2 ^ s
  positive = omega (arith, pow_pos s, mul-le-mul_right (2 ^ s) some)

-- what a turn of `enter_word` needs: the lowest atom's place lies within the index, and is small
pub record Within (stride atom : ℕ) (index : List ℕ) : Type 0 where
  pub room : atom * stride + stride ≤ length index
  pub small : atom ≤ atom * stride

module _ {stride x : ℕ} {index index' : List ℕ} (bit c s : ℕ) (bits bits' : SetBits) (atom : ℕ) (wide : c < stride)
    (so : Left stride (bit * 2 ^ (c * 64)) x index (bits.remaining * 2 ^ s) index') (visit : Visits bits (Some atom) bits') where
  pub bit_within : Within stride (s + atom) index'
  bit_within =
      let v = visit_some bits bits' atom visit in
      rw v.1 record {
        room = lowest_room so (positive bits.remaining s v.0) (word_low bits.remaining s v.0);
        small = le-mul_of_pos_right (s + low bits.remaining) (omega arith);
      }

  pub bit_next : bit < 2 ^ 64
      → Left stride (bit * 2 ^ (c * 64)) x index (bits'.remaining * 2 ^ s) (set index' ((s + atom) * stride + c) (bit_or (get_or index' ((s + atom) * stride + c) 0) bit))
  bit_next fits =
      let v = visit_some bits bits' atom visit in
      rw v.1 (left_bit bit c wide fits so (positive bits.remaining s v.0) (word_low bits.remaining s v.0) (ap (λ (n : ℕ). n * 2 ^ s) v.2 ∙ word_next bits.remaining s v.0))

-- ---- the words of a row

-- the words from place i on, at their places
pub words_from : List ℕ → ℕ → ℕ
words_from ws i = set_of (drop i ws) * 2 ^ (i * 64)

split_words : (k N w i : ℕ) → w < 2 ^ k → (N * 2 ^ k + w) * 2 ^ (i * k) ≡ bit_or (N * 2 ^ ((i + 1) * k)) (w * 2 ^ (i * k))
split_words k N w i fits =
    let s = i * k in
    let up : k + s ≡ (i + 1) * k = omega (arith, suc-mul i k, ap (λ (n : ℕ). n * k) (add-one i)) in
    add-mul (N * 2 ^ k) w (2 ^ s) ∙ ap (λ (n : ℕ). n + w * 2 ^ s) (mul_assoc N (2 ^ k) (2 ^ s) ∙ ap (λ (n : ℕ). N * n) (sym (pow-add 2 k s)))
    ∙ sym (or_shifted N (k + s) (w * 2 ^ s) (shl_lt k s fits)) ∙ ap (λ (n : ℕ). bit_or (N * 2 ^ n) (w * 2 ^ s)) up

module _ (ws : List ℕ) (i : ℕ) (h : i < length ws) (fits : get_or ws i 0 < 2 ^ 64) where
  cons : set_of (drop i ws) ≡ set_of (drop (i + 1) ws) * 2 ^ 64 + get_or ws i 0
  cons = left_cons 64 ws i h ∙ ap (λ (n : ℕ). set_of (drop (i + 1) ws) * 2 ^ 64 + n) (mod-eq_of_lt fits)

  words_next : words_from ws i ≡ bit_or (words_from ws (i + 1)) (get_or ws i 0 * 2 ^ (i * 64))
  unfolding words_from
  words_next = ap (λ (n : ℕ). n * 2 ^ (i * 64)) cons ∙ split_words 64 (set_of (drop (i + 1) ws)) (get_or ws i 0) i fits

  ones_next : ones (set_of (drop i ws)) ≡ ones (set_of (drop (i + 1) ws)) + ones (get_or ws i 0)
  ones_next = ap ones cons ∙ ones_cat 64 (set_of (drop (i + 1) ws)) (get_or ws i 0) fits

-- after i turns of `enter_row`: the words from place i on are left to mark and to count
pub record Entering (stride mark : ℕ) (ws index index' : List ℕ) (count i : ℕ) : Type 0 where
  pub few : count ≤ i * 64
  pub counted : count + ones (set_of (drop i ws)) ≡ ones (set_of ws)
  pub left : Left stride mark (set_of ws) index (words_from ws i) index'

pub entering_start : {stride mark : ℕ} {ws index : List ℕ} → Reaches stride (set_of ws) (length index) → Entering stride mark ws index index 0 0
unfolding words_from
entering_start {stride} {mark} {ws} {index} reaches = record {
  few = omega arith;
  counted = omega arith;
  left = rw mul-one (left_start stride mark (set_of ws) index reaches);
}

module _ {stride mark : ℕ} {ws index index' : List ℕ} {count i : ℕ} (h : i < length ws) (fits : get_or ws i 0 < 2 ^ 64)
    (so : Entering stride mark ws index index' count i) where
  pub word_reaches : Reaches stride (get_or ws i 0 * 2 ^ (i * 64)) (length index')
  word_reaches = part_reaches so.left (words_from ws (i + 1)) (get_or ws i 0 * 2 ^ (i * 64)) (words_next ws i h fits)

  pub entering_next : {index'' : List ℕ} → length index'' ≡ length index' → Entered stride mark (get_or ws i 0 * 2 ^ (i * 64)) index' index''
      → Entering stride mark ws index index'' (count + ones (get_or ws i 0)) (i + 1)
  entering_next kept part = record {
    few = omega (arith, so.few, ones-le 64 (get_or ws i 0) fits);
    counted = omega (arith, so.counted, ones_next ws i h fits);
    left = left_part so.left (words_from ws (i + 1)) (get_or ws i 0 * 2 ^ (i * 64)) (words_next ws i h fits) kept part;
  }

module _ {stride mark : ℕ} {ws index index' : List ℕ} {count i : ℕ} (done : length ws ≤ i) (so : Entering stride mark ws index index' count i) where
  pub entering_count : count ≡ ones (set_of ws)
  unfolding ones
  entering_count = let none : ones (set_of (drop i ws)) ≡ 0 = ap ones (left_none 64 ws i done) in omega (arith, so.counted)

  pub entering_end : Entered stride mark (set_of ws) index index'
  unfolding words_from
  entering_end = left_end (ap (λ (n : ℕ). n * 2 ^ (i * 64)) (left_none 64 ws i done) ∙ zero-mul (2 ^ (i * 64))) so.left
