-- What the forced lists hold when an inspection is lent them has no part in its answer.
use Prim.Native.Nat.{ℕ}
use mathlib.Core.Path.{◌≡◌, refl, ap, ap₂, ◌∙◌}
use mathlib.Core.List.{List}
use mathlib.Core.Bool.{Bool, true, false, cond}
use lib.ListN.{length}
use lib.Dec.{eqb}
use Rattle.std.specs.Prelude.{Result}
use Rattle.refusal.specs.Refusal.{answered}
use Rattle.refusal.specs.declared.Refusal.{Refusal}
use Rattle.parity.specs.declared.System.{System}
use Rattle.region.specs.declared.Region.{Region}
use Rattle.snapshot.specs.declared.Snapshot.{Snapshot}
use Rattle.inspect.specs.declared.Inspected.{Inspected}
use Rattle.inspect.specs.Inspect.{Filled, outcome, inspect_check, inspected, inspect_of}

-- by case: no result has the lists in it
same_result : (t z : Bool) → (refuted unchanged done : Inspected) (us us' us'' vs vs' vs'' bs bs' bs'' ws ws' ws'' : List ℕ)
    → (cond t (outcome refuted us vs) (cond z (outcome unchanged us' vs') (outcome done us'' vs''))).result
    ≡ (cond t (outcome refuted bs ws) (cond z (outcome unchanged bs' ws') (outcome done bs'' ws''))).result
same_result true z refuted unchanged done us us' us'' vs vs' vs'' bs bs' bs'' ws ws' ws'' = refl
same_result false true refuted unchanged done us us' us'' vs vs' vs'' bs bs' bs'' ws ws' ws'' = refl
same_result false false refuted unchanged done us us' us'' vs vs' vs'' bs bs' bs'' ws ws' ws'' = refl

module _ (s : System) (l : Filled) (r : Region) (known : Snapshot) where
  abbrev answer : List ℕ → List ℕ → Result Inspected Refusal
  answer us vs = (inspect_of s l r known us vs).result

  pub any_lists : (atoms atoms' values values' : List ℕ) → length atoms ≡ length atoms' → length values ≡ length values' → answer atoms values ≡ answer atoms' values'
  unfolding inspect_of
  any_lists atoms atoms' values values' e f =
      ap₂ (λ (a v : ℕ). answered (inspect_check s l r known a v) (inspected s l r known atoms values).result) e f
      ∙ ap (answered (inspect_check s l r known (length atoms') (length values'))) (same_result s.refuted (eqb s.rank 0) _ _ _ _ _ _ _ _ _ _ _ _ _ _ _)
