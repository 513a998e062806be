-- Parity. A row's constant is as one more atom, always true: the row is met exactly when the overlap with that atom is even.
use Prim.Native.Nat.{ℕ, suc, ◌+◌, ◌%◌}
use mathlib.Core.Path.{◌≡◌, refl, ap, ◌∙◌}
use mathlib.Core.List.{◌∷◌}
use mathlib.Core.Bool.{Bool, true, false, not, cond, ◌&&◌, beq}
use native.Mathlib.Nat.{suc-mod, add-zero}
use native.Mathlib.Numerals.{add-one}
use native.Mathlib.Omega.{arith}
use lib.Dec.{eqb}
use Rattle.words.specs.Set.{odd}
use Rattle.words.proofs.Bitwise.{one, two}
use Rattle.rows.specs.Row.{Row, Assignment, overlap, meets}

pub odd_suc : (n : ℕ) → odd (suc n) ≡ not (odd n)
odd_suc n = ap (λ (d : ℕ). eqb d 1) (suc-mod n 2) ∙ one (λ d. eqb (suc d % 2) 1 ≡ not (eqb d 1)) refl refl n

pub odd_beq : (m n : ℕ) → beq (odd m) (odd n) ≡ odd (suc (m + n))
odd_beq m n =
    let e : suc (m % 2 + n % 2) % 2 ≡ suc (m + n) % 2 = omega arith in
    two (λ p q. beq (eqb p 1) (eqb q 1) ≡ odd (suc (p + q))) refl refl refl refl m n ∙ ap (λ (d : ℕ). eqb d 1) e

odd_is : (m : ℕ) (c : Bool) → beq (odd m) c ≡ odd (suc (cond (c && true) (suc m) m))
odd_is m true = odd_beq m 1 ∙ ap (λ (k : ℕ). odd (suc k)) (add-one m)
odd_is m false = odd_beq m 0 ∙ ap (λ (k : ℕ). odd (suc k)) (add-zero m)

pub meets_odd : (r : Row) (x : Assignment) → meets r x ≡ odd (suc (overlap (r.constant ∷ r.atoms) (true ∷ x)))
meets_odd r x = odd_is (overlap r.atoms x) r.constant
