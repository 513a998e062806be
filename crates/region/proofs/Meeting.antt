-- Two masks have an atom in common just where two of their words have.
use Prim.Native.Nat.{ℕ, zero, suc, ◌+◌, ◌*◌, ◌%◌, ◌^◌, ◌<◌}
use mathlib.Core.Path.{◌≡◌, refl, sym, ap, ◌∙◌}
use mathlib.Core.List.{List, [], ◌∷◌}
use mathlib.Core.Bool.{Bool, not, ◌||◌, or-false, or-true}
use native.Mathlib.Nat.{mod-eq_of_lt, lt_of_le_of_lt, suc-mul}
use native.Mathlib.Omega.{arith}
use borrow.Author.Tests.{ne_eqb}
use lib.ListN.{get_or}
use lib.Bits.{bit_and, and_le_l, and_zero_r}
use lib.Dec.{eqb}
use lib.Pow.{pow_pos}
use Rattle.std.specs.List.{list_any, zip}
use Rattle.words.specs.Set.{packed}
use Rattle.words.proofs.Bitwise.{by_and, join_words}

abbrev pub meets : ℕ × ℕ → Bool
meets p = not (eqb (bit_and p.0 p.1) 0)

sum_some : (k a w : ℕ) → (not (eqb w 0) || not (eqb a 0)) ≡ not (eqb (a * 2 ^ k + w) 0)
sum_some k zero w = let e : 0 * 2 ^ k + w ≡ w = omega arith in or-false (not (eqb w 0)) ∙ sym (ap (λ (n : ℕ). not (eqb n 0)) e)
sum_some k (suc a) w =
    ap (λ (t : Bool). not (eqb w 0) || not t) (ne_eqb (suc a) 0 (λ z. omega arith)) ∙ or-true (not (eqb w 0)) ∙ sym (ap not (ne_eqb (suc a * 2 ^ k + w) 0 (λ z. omega (arith, z, pow_pos k, suc-mul a (2 ^ k)))))

pub any_meets : (k : ℕ) (l r : List ℕ) → ((i : ℕ) → get_or l i 0 < 2 ^ k)
    → list_any meets (zip l r) ≡ not (eqb (bit_and (packed k l) (packed k r)) 0)
unfolding packed
any_meets k [] r fits = refl
any_meets k (x ∷ l) [] fits = sym (ap (λ n. not (eqb n 0)) (and_zero_r _))
any_meets k (x ∷ l) (y ∷ r) fits =
    let small : bit_and x y % 2 ^ k ≡ bit_and x y = mod-eq_of_lt (lt_of_le_of_lt (and_le_l x y) (fits 0)) in
    ap (λ (t : Bool). meets (x, y) || t) (any_meets k l r (λ i. fits (suc i)))
    ∙ sum_some k (bit_and (packed k l) (packed k r)) (bit_and x y)
    ∙ ap (λ (n : ℕ). not (eqb (bit_and (packed k l) (packed k r) * 2 ^ k + n) 0)) (sym small)
    ∙ sym (ap (λ (n : ℕ). not (eqb n 0)) (join_words by_and k (packed k l) (packed k r) x y))
