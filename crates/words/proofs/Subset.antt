-- One set lies in another where each of its words does.
use Prim.Native.Nat.{ℕ, suc, ◌+◌, ◌*◌, ◌/◌, ◌%◌, ◌^◌, ◌<◌}
use mathlib.Core.Path.{◌≡◌, refl, sym, ap, ap₂, ◌∙◌}
use mathlib.Core.List.{List, [], ◌∷◌}
use mathlib.Core.Bool.{Bool, true, false, ◌&&◌}
use native.Mathlib.Nat.{mod-lt, mod-eq_of_lt, lt_of_le_of_lt}
use borrow.Author.Tests.{eq-eqb, ne_eqb, eqb-true, eqb-false}
use lib.ListN.{length, get_or}
use Rattle.std.specs.List.{list_all, zip}
use native.Mathlib.Omega.{arith}
use lib.Dec.{eqb}
use lib.Bits.{bit_and, and_le_l}
use lib.Pow.{pow_pos, high, low}
use Rattle.words.specs.Set.{packed, subset}
use Rattle.words.proofs.Bitwise.{by_and, join_words}

pub eqb_iff : (a b c d : ℕ) → (a ≡ b → c ≡ d) → (c ≡ d → a ≡ b) → eqb a b ≡ eqb c d
eqb_iff a b c d f g = go (eqb c d) refl
  where
    go : (t : Bool) → eqb c d ≡ t → eqb a b ≡ t
    go true e = eq-eqb a b (g (eqb-true c d e))
    go false e = ne_eqb a b (λ p. eqb-false c d e (f p))

-- one word more on either side
subset_more : (k a b x y : ℕ) → x < 2 ^ k → subset (a * 2 ^ k + x % 2 ^ k) (b * 2 ^ k + y % 2 ^ k) ≡ (eqb (bit_and x y) x && subset a b)
subset_more k a b x y lt = go (eqb (bit_and x y) x) refl
  where
    both : ℕ
    both = bit_and a b * 2 ^ k + bit_and x y % 2 ^ k

    joined : subset (a * 2 ^ k + x % 2 ^ k) (b * 2 ^ k + y % 2 ^ k) ≡ eqb both (a * 2 ^ k + x % 2 ^ k)
    joined = ap (λ (n : ℕ). eqb n (a * 2 ^ k + x % 2 ^ k)) (join_words by_and k a b x y)

    low_is : (n m : ℕ) → (n * 2 ^ k + m % 2 ^ k) % 2 ^ k ≡ m % 2 ^ k
    low_is n m = low n k (mod-lt m (pow_pos k))

    high_is : (n m : ℕ) → (n * 2 ^ k + m % 2 ^ k) / 2 ^ k ≡ n
    high_is n m = high n k (mod-lt m (pow_pos k))

    go : (t : Bool) → eqb (bit_and x y) x ≡ t → subset (a * 2 ^ k + x % 2 ^ k) (b * 2 ^ k + y % 2 ^ k) ≡ (t && subset a b)
    go true e =
        let same = ap (λ (n : ℕ). n % 2 ^ k) (eqb-true (bit_and x y) x e) in
        joined
        ∙ eqb_iff both (a * 2 ^ k + x % 2 ^ k) (bit_and a b) a
        (λ p. sym (high_is (bit_and a b) (bit_and x y)) ∙ ap (λ (n : ℕ). n / 2 ^ k) p ∙ high_is a x)
        (λ p. ap₂ (λ (n m : ℕ). n * 2 ^ k + m) p same)
    go false e =
        joined
        ∙ ne_eqb both (a * 2 ^ k + x % 2 ^ k)
        (λ p. eqb-false (bit_and x y) x e
        (sym (mod-eq_of_lt (lt_of_le_of_lt (and_le_l x y) lt)) ∙ sym (low_is (bit_and a b) (bit_and x y))
        ∙ ap (λ (n : ℕ). n % 2 ^ k) p ∙ low_is a x ∙ mod-eq_of_lt lt))

-- what `is_subset_of` asks of two words
abbrev pub kept : ℕ × ℕ → Bool
kept p = eqb (bit_and p.0 p.1) p.0

pub all_kept : (k : ℕ) (l r : List ℕ) → length l ≡ length r → ((i : ℕ) → get_or l i 0 < 2 ^ k) → list_all kept (zip l r) ≡ subset (packed k l) (packed k r)
unfolding packed
all_kept k [] [] h fits = refl
all_kept k [] (y ∷ r) h fits = let z : ⊥ = omega arith in absurd z
all_kept k (x ∷ l) [] h fits = let z : ⊥ = omega arith in absurd z
all_kept k (x ∷ l) (y ∷ r) h fits =
    ap (λ (t : Bool). eqb (bit_and x y) x && t) (all_kept k l r (omega arith) (λ i. fits (suc i)))
    ∙ sym (subset_more k (packed k l) (packed k r) x y (fits 0))
