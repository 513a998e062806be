-- A set that has an atom from n on has it in its last words: what a bound on a row or a column is read off.
use Prim.Native.Nat.{ℕ, zero, suc, ◌+◌, ◌*◌, ◌/◌, ◌%◌, ◌^◌, ◌≤◌, ◌<◌}
use mathlib.Core.Path.{◌≡◌, refl, sym, ap, ◌∙◌}
use mathlib.Core.List.{List, [], ◌∷◌}
use mathlib.Core.Bool.{Bool, true, false, not}
use native.Mathlib.Nat.{mod-lt, mod-eq_of_lt, div-one, div-eq_of_lt, zero-div, zero-mul, one-mul, suc-mul, add_comm, le-div_iff_mul-le}
use native.Mathlib.Omega.{arith}
use borrow.Author.Tests.{eq-eqb, ne_eqb, leb-true, leb-false}
use lib.ListN.{length, get_or, drop}
use lib.Seq.{get_or-take, get_or-drop}
use lib.Dec.{leb, eqb}
use lib.Pow.{pow_pos, shr-shr, high}
use Rattle.words.specs.Set.{packed, set_of}
use Rattle.words.proofs.Packed.{left_cons, left_none}
use Rattle.rows.specs.Flat.{row}
use Rattle.rows.proofs.Places.{row_length}

-- ---- words of any width k

-- a set without its first i words
pub packed_shr : (k : ℕ) (ws : List ℕ) (i : ℕ) → packed k ws / 2 ^ (i * k) ≡ packed k (drop i ws)
unfolding packed
packed_shr k [] i = zero-div _ ∙ sym (left_none k [] i (omega arith))
packed_shr k (w ∷ ws) zero = ap (λ (n : ℕ). packed k (w ∷ ws) / 2 ^ n) (zero-mul k) ∙ div-one _
packed_shr k (w ∷ ws) (suc i) =
    let x = packed k (w ∷ ws) in
    ap (λ (n : ℕ). x / 2 ^ n) (suc-mul i k ∙ add_comm (i * k) k) ∙ sym (shr-shr x k (i * k))
    ∙ ap (λ (n : ℕ). n / 2 ^ (i * k)) (high (packed k ws) k (mod-lt w (pow_pos k))) ∙ packed_shr k ws i

above_div : (n x : ℕ) → leb (2 ^ n) x ≡ not (eqb (x / 2 ^ n) 0)
above_div n x = go (leb (2 ^ n) x) refl
  where
    go : (t : Bool) → leb (2 ^ n) x ≡ t → t ≡ not (eqb (x / 2 ^ n) 0)
    go true e =
        let one : 1 * 2 ^ n ≤ x = omega (arith, one-mul (2 ^ n), leb-true (2 ^ n) x e) in
        let some : 1 ≤ x / 2 ^ n = (le-div_iff_mul-le (pow_pos n)).1 one in
        sym (ap not (ne_eqb (x / 2 ^ n) 0 (λ z. omega arith)))
    go false e = sym (ap not (eq-eqb (x / 2 ^ n) 0 (div-eq_of_lt (leb-false (2 ^ n) x e))))

-- from atom u of word i on
pub above_from : (k : ℕ) (ws : List ℕ) (i u : ℕ) → leb (2 ^ (i * k + u)) (packed k ws) ≡ not (eqb (packed k (drop i ws) / 2 ^ u) 0)
above_from k ws i u =
    above_div (i * k + u) (packed k ws)
    ∙ ap (λ (q : ℕ). not (eqb q 0)) (sym (shr-shr (packed k ws) (i * k) u) ∙ ap (λ (q : ℕ). q / 2 ^ u) (packed_shr k ws i))

-- ---- a row of w words that lies within

module _ (w : ℕ) (ws : List ℕ) (r : ℕ) (within : r * w + w ≤ length ws) where
  -- its words from place i on
  pub row_from : (i : ℕ) → i < w → get_or ws (r * w + i) 0 < 2 ^ 64 → set_of (drop i (row w ws r)) ≡ set_of (drop (i + 1) (row w ws r)) * 2 ^ 64 + get_or ws (r * w + i) 0
  row_from i h fits =
      let there : i < length (row w ws r) = omega (arith, row_length w ws r within) in
      let word = get_or-take w (drop (r * w) ws) i 0 h ∙ get_or-drop (r * w) ws i 0 in
      left_cons 64 (row w ws r) i there
      ∙ ap (λ (x : ℕ). set_of (drop (i + 1) (row w ws r)) * 2 ^ 64 + x) (ap (λ (x : ℕ). x % 2 ^ 64) word ∙ mod-eq_of_lt fits)

  pub row_past : (i : ℕ) → w ≤ i → set_of (drop i (row w ws r)) ≡ 0
  row_past i h = left_none 64 (row w ws r) i (omega (arith, row_length w ws r within))

  -- a row of full words only
  pub none_above : (n : ℕ) → n ≡ w * 64 → leb (2 ^ n) (set_of (row w ws r)) ≡ false
  none_above n e =
      let at : n ≡ w * 64 + 0 = omega arith in
      ap (λ (x : ℕ). leb (2 ^ x) (set_of (row w ws r))) at ∙ above_from 64 (row w ws r) w 0
      ∙ ap (λ (q : ℕ). not (eqb q 0)) (ap (λ (x : ℕ). x / 2 ^ 0) (row_past w (omega arith)) ∙ zero-div (2 ^ 0))

  -- a row whose last word is used up to u
  pub last_above : (n i u : ℕ) → n ≡ i * 64 + u → w ≡ i + 1 → get_or ws (r * w + i) 0 < 2 ^ 64
      → leb (2 ^ n) (set_of (row w ws r)) ≡ not (eqb (get_or ws (r * w + i) 0 / 2 ^ u) 0)
  last_above n i u e l fits =
      let word : set_of (drop i (row w ws r)) ≡ get_or ws (r * w + i) 0 = omega (arith, row_from i (omega arith) fits, row_past (i + 1) (omega arith)) in
      ap (λ (x : ℕ). leb (2 ^ x) (set_of (row w ws r))) e ∙ above_from 64 (row w ws r) i u
      ∙ ap (λ (x : ℕ). not (eqb (x / 2 ^ u) 0)) word
