-- The first word that is not empty holds the lowest atom: the turns of `first`.
use Prim.Native.Nat.{ℕ, ◌+◌, ◌*◌, ◌%◌, ◌^◌, ◌≤◌, ◌<◌}
use mathlib.Core.Path.{◌≡◌, sym, ap, ◌∙◌}
use mathlib.Core.List.{List}
use native.Mathlib.Nat.{mod-eq_of_lt, mul_assoc, mul_comm, suc-mul, add-zero, mul-le-mul_right}
use native.Mathlib.Numerals.{add-one}
use native.Mathlib.Omega.{arith}
use lib.ListN.{length, get_or, drop}
use lib.Count.{count_trailing_zeros}
use lib.Pow.{pow_pos, pow-add}
use Rattle.words.specs.Set.{packed, low}
use Rattle.words.proofs.Packed.{left_cons}
use Rattle.words.proofs.Lowest.{low_words}

-- the words below place i are empty
abbrev pub From : ℕ → List ℕ → ℕ → Type 0
From k ws i = packed k ws ≡ packed k (drop i ws) * 2 ^ (i * k)

module _ (k : ℕ) (ws : List ℕ) (i : ℕ) (h : i < length ws) (from : From k ws i) where
  pub from_next : get_or ws i 0 ≡ 0 → From k ws (i + 1)
  from_next e =
      let rest = packed k (drop (i + 1) ws) in
      let none : rest * 2 ^ k + 0 % 2 ^ k ≡ rest * 2 ^ k = ap (λ (n : ℕ). rest * 2 ^ k + n) (mod-eq_of_lt (pow_pos k)) ∙ add-zero _ in
      let up : 2 ^ k * 2 ^ (i * k) ≡ 2 ^ ((i + 1) * k) = mul_comm (2 ^ k) (2 ^ (i * k)) ∙ sym (pow-add 2 (i * k) k) ∙ ap (λ (n : ℕ). 2 ^ n) (sym (suc-mul i k) ∙ ap (λ (n : ℕ). n * k) (sym (add-one i))) in
      from ∙ ap (λ (n : ℕ). n * 2 ^ (i * k)) (left_cons k ws i h ∙ ap (λ (n : ℕ). rest * 2 ^ k + n % 2 ^ k) e ∙ none)
      ∙ mul_assoc rest (2 ^ k) (2 ^ (i * k)) ∙ ap (λ (n : ℕ). rest * n) up

  module _ (some : 0 < get_or ws i 0) (fits : get_or ws i 0 < 2 ^ k) where
    whole : packed k ws ≡ (packed k (drop (i + 1) ws) * 2 ^ k + get_or ws i 0) * 2 ^ (i * k)
    whole =
        from ∙ ap (λ (n : ℕ). n * 2 ^ (i * k))
        (left_cons k ws i h ∙ ap (λ (n : ℕ). packed k (drop (i + 1) ws) * 2 ^ k + n) (mod-eq_of_lt fits))

    pub first_at : low (packed k ws) ≡ i * k + count_trailing_zeros k (get_or ws i 0)
    first_at = ap low whole ∙ low_words k (packed k (drop (i + 1) ws)) (get_or ws i 0) (i * k) some fits

    pub first_some : packed k ws ≡ 0 → ⊥
    first_some e =
        let x = packed k (drop (i + 1) ws) * 2 ^ k + get_or ws i 0 in
        let one : 1 ≤ x = omega arith in
        omega (arith, whole, pow_pos (i * k), mul-le-mul_right (2 ^ (i * k)) one)
