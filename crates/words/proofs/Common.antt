-- What a set has in common with another of at least as many words: found word by word, and a mask's words past a row's.
use Prim.Native.Nat.{ℕ, zero, suc, ◌+◌, ◌*◌, ◌%◌, ◌^◌, ◌≤◌, ◌<◌}
use mathlib.Core.Path.{◌≡◌, refl, sym, ap, ◌∙◌}
use mathlib.Core.List.{List, [], ◌∷◌, zip_with}
use native.Mathlib.Nat.{zero-mul, lt_of_le_of_lt}
use native.Mathlib.Omega.{arith}
use lib.ListN.{length, get_or, take}
use lib.Bits.{bit_and, and_le_l}
use lib.Count.{count_trailing_zeros}
use Rattle.words.specs.Set.{packed, low}
use Rattle.words.proofs.Bitwise.{by_and, join_words}
use Rattle.words.proofs.Packed.{left_none}
use Rattle.words.proofs.Scan.{From, from_next, first_at, first_some}

-- words past the shorter set's have nothing in common with it
pub and_take : (k : ℕ) (l r : List ℕ) → bit_and (packed k l) (packed k (take (length l) r)) ≡ bit_and (packed k l) (packed k r)
unfolding packed
and_take k [] r = refl
and_take k (x ∷ l) [] = refl
and_take k (x ∷ l) (y ∷ r) =
    join_words by_and k (packed k l) (packed k (take (length l) r)) x y ∙ ap (λ (n : ℕ). n * 2 ^ k + bit_and x y % 2 ^ k) (and_take k l r)
    ∙ sym (join_words by_and k (packed k l) (packed k r) x y)

abbrev pub common : List ℕ → List ℕ → List ℕ
common l r = zip_with bit_and l r

pub common_length : (l r : List ℕ) → length l ≤ length r → length (common l r) ≡ length l
unfolding zip_with
common_length [] r h = refl
common_length (x ∷ l) [] h = let z : ⊥ = omega arith in absurd z
common_length (x ∷ l) (y ∷ r) h = ap suc (common_length l r (omega arith))

pub common_at : (l r : List ℕ) (i : ℕ) → length l ≤ length r → i < length l → get_or (common l r) i 0 ≡ bit_and (get_or l i 0) (get_or r i 0)
unfolding zip_with
common_at [] r i h b = let z : ⊥ = omega arith in absurd z
common_at (x ∷ l) [] i h b = let z : ⊥ = omega arith in absurd z
common_at (x ∷ l) (y ∷ r) zero h b = refl
common_at (x ∷ l) (y ∷ r) (suc i) h b = common_at l r i (omega arith) (omega arith)

pub common_set : (k : ℕ) (l r : List ℕ) → length l ≤ length r → packed k (common l r) ≡ bit_and (packed k l) (packed k r)
unfolding packed zip_with
common_set k [] r h = refl
common_set k (x ∷ l) [] h = let z : ⊥ = omega arith in absurd z
common_set k (x ∷ l) (y ∷ r) h =
    let e : length l ≤ length r = omega arith in
    ap (λ (n : ℕ). n * 2 ^ k + bit_and x y % 2 ^ k) (common_set k l r e) ∙ sym (join_words by_and k (packed k l) (packed k r) x y)

module _ (k : ℕ) (l r : List ℕ) (wide : length l ≤ length r) (i : ℕ) (from : From k (common l r) i) where
  module _ (h : i < length l) where
    inside : i < length (common l r)
    inside = omega (arith, common_length l r wide)

    pub common_next : bit_and (get_or l i 0) (get_or r i 0) ≡ 0 → From k (common l r) (i + 1)
    common_next e = from_next k (common l r) i inside from (common_at l r i wide h ∙ e)

    pub common_some : 0 < bit_and (get_or l i 0) (get_or r i 0) → get_or l i 0 < 2 ^ k → bit_and (packed k l) (packed k r) ≡ 0 → ⊥
    common_some some fits none =
        let e = common_at l r i wide h in
        let lt : bit_and (get_or l i 0) (get_or r i 0) < 2 ^ k = lt_of_le_of_lt (and_le_l (get_or l i 0) (get_or r i 0)) fits in
        first_some k (common l r) i inside from (rw e some) (rw e lt) (common_set k l r wide ∙ none)

    pub common_first : 0 < bit_and (get_or l i 0) (get_or r i 0) → get_or l i 0 < 2 ^ k
        → i * k + count_trailing_zeros k (bit_and (get_or l i 0) (get_or r i 0)) ≡ low (bit_and (packed k l) (packed k r))
    common_first some fits =
        let e = common_at l r i wide h in
        let lt : bit_and (get_or l i 0) (get_or r i 0) < 2 ^ k = lt_of_le_of_lt (and_le_l (get_or l i 0) (get_or r i 0)) fits in
        ap (λ (w : ℕ). i * k + count_trailing_zeros k w) (sym e)
        ∙ sym (first_at k (common l r) i inside from (rw e some) (rw e lt)) ∙ ap low (common_set k l r wide)

  pub common_empty : length l ≤ i → bit_and (packed k l) (packed k r) ≡ 0
  common_empty h =
      let past : length (common l r) ≤ i = omega (arith, common_length l r wide) in
      sym (common_set k l r wide) ∙ from ∙ ap (λ (n : ℕ). n * 2 ^ (i * k)) (left_none k (common l r) i past) ∙ zero-mul _
