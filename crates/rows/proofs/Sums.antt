-- The sum of two rows is met exactly when both are or neither is: an atom of both counts twice.
use Prim.Native.Nat.{ℕ, suc, ◌+◌, ◌%◌}
use mathlib.Core.Path.{◌≡◌, refl, sym, ap, ap₂, ◌∙◌}
use mathlib.Core.List.{List, [], ◌∷◌}
use mathlib.Core.Bool.{Bool, true, false, xor, cond, ◌&&◌, beq}
use native.Mathlib.Omega.{arith}
use lib.Dec.{eqb}
use Rattle.rows.specs.Row.{overlap, plus, add}
use Rattle.rows.specs.Promises.{SumMet}
use Rattle.rows.proofs.Odd.{odd_beq, meets_odd}

-- one atom more
atom_plus : (a b v : Bool) (k m n : ℕ) → k % 2 ≡ (m + n) % 2
    → cond (xor a b && v) (suc k) k % 2 ≡ (cond (a && v) (suc m) m + cond (b && v) (suc n) n) % 2
unfolding xor
atom_plus false false v k m n h = h
atom_plus false true false k m n h = h
atom_plus false true true k m n h = omega arith
atom_plus true false false k m n h = h
atom_plus true false true k m n h = omega arith
atom_plus true true false k m n h = h
atom_plus true true true k m n h = omega arith

pub overlap_plus : (r s x : List Bool) → overlap (plus r s) x % 2 ≡ (overlap r x + overlap s x) % 2
overlap_plus [] s x = omega arith
overlap_plus (a ∷ r) [] x = omega arith
overlap_plus (a ∷ r) (b ∷ s) [] = refl
overlap_plus (a ∷ r) (b ∷ s) (v ∷ x) = atom_plus a b v _ _ _ (overlap_plus r s x)

pub sum_met : SumMet
sum_met r s x =
    let p = r.constant ∷ r.atoms in
    let q = s.constant ∷ s.atoms in
    let m = suc (overlap p (true ∷ x)) in
    let n = suc (overlap q (true ∷ x)) in
    let e : suc (overlap (plus p q) (true ∷ x)) % 2 ≡ suc (m + n) % 2 = omega (arith, overlap_plus p q (true ∷ x)) in
    meets_odd (add r s) x ∙ ap (λ (d : ℕ). eqb d 1) e ∙ sym (odd_beq m n) ∙ sym (ap₂ beq (meets_odd r x) (meets_odd s x))
