-- Columns of an index as words, as sets and as lists, and what one basis row more does to them and to their count.
use Prim.Native.Nat.{ℕ, zero, suc, ◌+◌, ◌*◌, ◌^◌, ◌≤◌, ◌<◌}
use mathlib.Core.Path.{◌≡◌, refl, sym, ap, ap₂, ◌∙◌}
use mathlib.Core.List.{List, [], ◌∷◌, ◌++◌, map-append}
use mathlib.Core.Bool.{Bool, true, false, cond}
use native.Mathlib.Nat.{pow-suc, one-mul, zero-mul, suc-mul, mod-eq_of_lt}
use native.Mathlib.Omega.{arith}
use borrow.Author.Tests.{ltb-true, ltb-false}
use lib.Dec.{ltb}
use lib.ListN.{length, get_or, take, drop, replicate, length-take, get_or-eq_default}
use lib.Seq.{take-add, get_or-take, get_or-drop}
use lib.Bits.{bit_or, or_shifted_r}
use lib.Pow.{pow_pos}
use Rattle.std.specs.List.{All}
use Rattle.std.proofs.lemmas.List.Elements.{All-head, All-tail, All-take, All-drop, All-replicate}
use Rattle.words.specs.Set.{packed, set_of, has}
use Rattle.words.specs.Promises.{atoms_below}
use Rattle.rows.specs.Row.{Row, has_atom}
use Rattle.rows.specs.Flat.{row, mask_of, unpack}
use Rattle.rows.proofs.Digits.{mask_lt, unpack_packed}
use Rattle.rows.proofs.Places.{row_length}
use Rattle.index.specs.Index.{size, column_of, index_of, incidences_of}
use Rattle.parity.specs.Entered.{mark_if}

-- ---- one bit more

mask_zero : (l : List Bool) → mask_of (l ++ (false ∷ [])) ≡ mask_of l
unfolding mask_of
mask_zero [] = refl
mask_zero (b ∷ l) = ap (λ (n : ℕ). n * 2 + cond b 1 0) (mask_zero l)

mask_one : (l : List Bool) → mask_of (l ++ (true ∷ [])) ≡ 2 ^ length l + mask_of l
unfolding mask_of
mask_one [] = refl
mask_one (b ∷ l) = omega (arith, mask_one l, pow-suc 2 (length l))

pub mask_snoc : (l : List Bool) (b : Bool) → mask_of (l ++ (b ∷ [])) ≡ mark_if b (2 ^ length l) (mask_of l)
mask_snoc l false = mask_zero l
mask_snoc l true =
    let k = length l in
    mask_one l ∙ ap (λ (n : ℕ). n + mask_of l) (sym (one-mul (2 ^ k))) ∙ sym (or_shifted_r 1 k (mask_of l) (mask_lt l)) ∙ ap (bit_or (mask_of l)) (one-mul (2 ^ k))

size_snoc : (l : List Bool) (b : Bool) → size (l ++ (b ∷ [])) ≡ size l + cond b 1 0
size_snoc [] true = refl
size_snoc [] false = refl
size_snoc (true ∷ l) b = omega (arith, size_snoc l b)
size_snoc (false ∷ l) b = size_snoc l b

-- ---- the count of a row's atoms below k

pub incidences_none : (k : ℕ) → incidences_of [] k ≡ 0
unfolding incidences_of
incidences_none zero = refl
incidences_none (suc k) = omega (arith, incidences_none k)

pub incidences_snoc : (rs : List Row) (r : Row) (x k : ℕ) → ((a : ℕ) → a < k → has_atom r a ≡ has x a) → incidences_of (rs ++ (r ∷ [])) k ≡ incidences_of rs k + atoms_below k x
unfolding incidences_of
incidences_snoc rs r x zero h = refl
incidences_snoc rs r x (suc k) h =
    let ih = incidences_snoc rs r x k (λ a l. h a (omega arith)) in
    let last : size (column_of (rs ++ (r ∷ [])) k) ≡ size (column_of rs k) + cond (has x k) 1 0 =
    ap size (map-append (λ (s : Row). has_atom s k) rs (r ∷ [])) ∙ size_snoc (column_of rs k) (has_atom r k) ∙ ap (λ (t : Bool). size (column_of rs k) + cond t 1 0) (h k (omega arith)) in
    omega (arith, ih, last)

-- ---- a column's words

-- what holds of 0 and of every word holds of a column's words
column_all : (P : ℕ → Type 0) → P 0 → (ws : List ℕ) → ((i : ℕ) → P (get_or ws i 0)) → (w a i : ℕ) → P (get_or (row w ws a) i 0)
column_all P none ws all w a i = go (ltb i w) refl
  where
    go : (t : Bool) → ltb i w ≡ t → P (get_or (row w ws a) i 0)
    go true e = rw (get_or-take w (drop (a * w) ws) i 0 (ltb-true i w e), get_or-drop (a * w) ws i 0) (all (a * w + i))
    go false e =
        let past : length (row w ws a) ≤ i = simp length-take (omega (arith, ltb-false i w e)) in
        rw (get_or-eq_default (row w ws a) 0 past) none

abbrev Zero : ℕ → Type 0
Zero w = w ≡ 0

packed_none : (k : ℕ) (ws : List ℕ) → All Zero ws → packed k ws ≡ 0
unfolding packed
packed_none k [] h = refl
packed_none k (w ∷ ws) h = rw (packed_none k ws (All-tail Zero w ws h), All-head Zero w ws h, mod-eq_of_lt (pow_pos k)) (omega arith)

pub column_none : (m w a : ℕ) → set_of (row w (replicate m 0) a) ≡ 0
column_none m w a = packed_none 64 _ (All-take Zero w _ (All-drop Zero (a * w) _ (All-replicate Zero m 0 refl)))

module _ (w : ℕ) (rs : List Row) (index : List ℕ) (fit : (i : ℕ) → get_or index i 0 < 2 ^ 64) where
  pub columns_words : (n : ℕ) → n * w ≤ length index → ((a : ℕ) → a < n → set_of (row w index a) ≡ mask_of (column_of rs a)) → take (n * w) index ≡ index_of w rs n
  unfolding index_of
  columns_words zero room is = ap (λ (k : ℕ). take k index) (zero-mul w)
  columns_words (suc n) room is =
      let there : n * w + w ≤ length index = omega (arith, suc-mul n w) in
      let all : (i : ℕ) → get_or (row w index n) i 0 < 2 ^ 64 = column_all (λ (x : ℕ). x < 2 ^ 64) (pow_pos 64) index fit w n in
      let last : row w index n ≡ unpack 64 w (mask_of (column_of rs n)) =
      sym (unpack_packed 64 (row w index n) all) ∙ ap₂ (unpack 64) (row_length w index n there) (is n (omega arith)) in
      ap (λ (k : ℕ). take k index) (suc-mul n w) ∙ take-add (n * w) w index
      ∙ ap₂ ◌++◌ (columns_words n (omega arith) (λ a l. is a (omega arith))) last
