-- What holds of either of two answers holds of the one that is chosen.
use mathlib.Core.Path.{◌≡◌, refl}
use mathlib.Core.Bool.{Bool, true, false, cond}
use Rattle.std.specs.Prelude.{Result, Ok, Err}
use Rattle.refusal.specs.Refusal.{answered}
use Rattle.refusal.specs.declared.Refusal.{Refusal}

pub chosen : {A : Type 0} (P : A → Type 0) (t : Bool) {x y : A} → P x → P y → P (cond t x y)
chosen P true a b = a
chosen P false a b = b

-- a call's answer, where it is not refused, and its refusals
pub of_answered : {A : Type 0} (P : Result A Refusal → Type 0) (check : Result Unit Refusal) {x : A} → (check ≡ Ok tt → P (Ok x)) → ((e : Refusal) → P (Err e))
    → P (answered check x)
of_answered P (Ok done) a b = a refl
of_answered P (Err e) a b = b e
