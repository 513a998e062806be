-- A constant as a Bool and as a number.
use Prim.Native.Nat.{ℕ, zero, suc, ◌<◌}
use mathlib.Core.Path.{◌≡◌, refl}
use mathlib.Core.Bool.{Bool, true, false, cond}
use native.Mathlib.Omega.{arith}
use lib.Dec.{eqb}

pub bool_back : (b : Bool) → eqb (cond b 1 0) 1 ≡ b
bool_back true = refl
bool_back false = refl

pub number_back : (c : ℕ) → c < 2 → cond (eqb c 1) 1 0 ≡ c
number_back zero h = refl
number_back (suc zero) h = refl
number_back (suc (suc c)) h = let z : ⊥ = omega arith in absurd z
