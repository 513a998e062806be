-- What the union of the words at one place of each part tells of them: whether one of them has a bit from u on.
use Prim.Native.Nat.{ℕ, zero, suc, ◌+◌, ◌*◌, ◌/◌, ◌^◌, ◌≤◌, ◌<◌}
use mathlib.Core.Path.{◌≡◌, refl, sym, ap, ap₂, ◌∙◌}
use mathlib.Core.List.{List}
use mathlib.Core.Bool.{Bool, true, false, not, ◌||◌}
use native.Mathlib.Nat.{zero-div}
use native.Mathlib.Omega.{arith}
use borrow.Author.Tests.{eq-eqb, ne_eqb, eqb-true, eqb-false, ltb-true, ltb-false}
use lib.ListN.{get_or}
use lib.Dec.{eqb, ltb}
use lib.Bits.{bit_or, or_zero_l, or_shr}
use Rattle.std.proofs.lemmas.Nat.{le_or_l}
use Rattle.rows.specs.Calls.{union_of}
use Rattle.fit.proofs.Among.{among}

abbrev pub above : ℕ → ℕ → Bool
above u x = not (eqb (x / 2 ^ u) 0)

some_or : (a b : ℕ) → not (eqb (bit_or a b) 0) ≡ (not (eqb a 0) || not (eqb b 0))
some_or a b = go (eqb a 0) refl
  where
    go : (t : Bool) → eqb a 0 ≡ t → not (eqb (bit_or a b) 0) ≡ (not t || not (eqb b 0))
    go true e = ap (λ (x : ℕ). not (eqb (bit_or x b) 0)) (eqb-true a 0 e) ∙ ap (λ (x : ℕ). not (eqb x 0)) (or_zero_l b)
    go false e = ap not (ne_eqb (bit_or a b) 0 (λ z. eqb-false a 0 e (omega (arith, le_or_l a b))))

above_or : (u x y : ℕ) → above u (bit_or x y) ≡ (above u x || above u y)
above_or u x y = ap (λ (z : ℕ). not (eqb z 0)) (or_shr x y u) ∙ some_or (x / 2 ^ u) (y / 2 ^ u)

-- a byte above 1
pub past_one_or : (x y : ℕ) → ltb 1 (bit_or x y) ≡ (ltb 1 x || ltb 1 y)
past_one_or x y = past (bit_or x y) ∙ above_or 1 x y ∙ ap₂ ◌||◌ (sym (past x)) (sym (past y))
  where
    past : (z : ℕ) → ltb 1 z ≡ above 1 z
    past z = go (ltb 1 z) refl
      where
        go : (t : Bool) → ltb 1 z ≡ t → t ≡ above 1 z
        go true e = let h : 1 < z = ltb-true 1 z e in sym (ap not (ne_eqb (z / 2) 0 (λ (n : z / 2 ≡ 0). omega arith)))
        go false e = let h : z ≤ 1 = ltb-false 1 z e in sym (ap not (eq-eqb (z / 2) 0 (omega arith)))

pub above_union : (u w i : ℕ) (ws : List ℕ) (m : ℕ) → above u (union_of w i ws m) ≡ among (λ (j : ℕ). above u (get_or ws (j * w + i) 0)) m
unfolding union_of
above_union u w i ws zero = ap (λ (z : ℕ). not (eqb z 0)) (zero-div (2 ^ u))
above_union u w i ws (suc m) = above_or u (union_of w i ws m) (get_or ws (m * w + i) 0) ∙ ap (λ t. t || above u (get_or ws (m * w + i) 0)) (above_union u w i ws m)
