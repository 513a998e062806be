-- What is asked of the rows, the region and the basis that are lent, in order: 10, 9, 11, then 10, 11 and 12 of the region, then "13: .. a basis
-- entry below the rank naming no row", of the entries that there are.
use Rattle.std.specs.Prelude.{min, List, [], ◌∷◌, ℕ, length, Result}
use Rattle.rows.specs.Flat.{width_of}
use Rattle.refusal.specs.Refusal.{checked}
use Rattle.refusal.specs.declared.Refusal.{Refusal}
use Rattle.refusal.specs.declared.Refusal.TheVariants.{Short, Overfull, Stray, Basis}
use Rattle.fit.specs.Rows.{overfull, short, strays, misnames}
use Rattle.parity.specs.declared.System.{System}
use Rattle.region.specs.Calls.{region_checks}
use Rattle.region.specs.declared.Region.{Region}

unfoldable pub lent_check : System → List ℕ → List ℕ → List ℕ → Region → Result Unit Refusal
lent_check s ws cs ps r =
    checked (
    (Overfull, overfull s.atoms s.rows) ∷
    (Short, short s.atoms s.rows ws cs) ∷
    (Stray, strays s.atoms (width_of s.atoms) ws cs s.rows) ∷
    region_checks r ((Basis, misnames s.rows ps (min s.rank (length ps))) ∷ []))
