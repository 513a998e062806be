-- Checks one after another: where nothing is at fault, each found nothing.
use Rattle.std.proofs.Common.{◌≡◌, ℕ, Bool, true, false, Result, Ok, Err, refl}
use Rattle.record.specs.Fault.{unless, ◌>>=◌, ◌>>◌}
use Rattle.record.specs.declared.Fault.{Fault}
use Rattle.record.specs.declared.FaultKind.{FaultKind}

module _ {B : Type 0} where
  pub passes : (c : Result (Unit {0}) Fault) (r : Result B Fault) (b : B) → (c >> r) ≡ Ok b → (c ≡ Ok tt) × (r ≡ Ok b)
  passes (Ok u) r b e = (refl, e)
  passes (Err f) r b e = absurd (cc)

  pub gives : {A : Type 0} (r : Result A Fault) (f : A → Result B Fault) (b : B) → (r >>= f) ≡ Ok b → (a : A) × (r ≡ Ok a) × (f a ≡ Ok b)
  gives (Ok a) f b e = (a, refl, e)
  gives (Err x) f b e = absurd (cc)

pub holds : (t : Bool) (kind : FaultKind) (o : ℕ) → unless t kind o ≡ Ok tt → t ≡ true
holds true kind o e = refl
holds false kind o e = absurd (cc)

pub same_value : {A : Type 0} (a b : A) → ◌≡◌ {A = Result A Fault} (Ok a) (Ok b) → a ≡ b
same_value a b e = cc
