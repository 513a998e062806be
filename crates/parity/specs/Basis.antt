-- The basis rows, and the units among them. Here rows stand in basis order, so that place j is ordinal j.
use Rattle.std.specs.Prelude.{ℕ, List, [], ◌∷◌, map, cond, take, eqb}
use Rattle.rows.specs.Row.{Row}
use Rattle.rows.specs.Flat.{width_of, row_at}
use Rattle.echelon.specs.Forward.{low}
use Rattle.index.specs.Index.{size}
use Rattle.parity.specs.declared.basis.Basis.{Basis}

-- The rows over n atoms that the entries of a basis name.
abbrev pub basis_of : ℕ → List ℕ → List ℕ → List ℕ → List Row
basis_of n ws cs entries = map (row_at n (width_of n) ws cs) entries

-- Those that a basis lent as one value names.
abbrev pub rows_of : Basis → List Row
rows_of b = basis_of b.atoms b.rows.now b.constants.now (take b.rank b.entries.now)

-- "units are the basis rows of one atom, in basis order"
abbrev pub units_of : List Row → List Row
units_of [] = []
units_of (r ∷ rs) = cond (eqb (size r.atoms) 1) (r ∷ units_of rs) (units_of rs)

abbrev pub unit_atoms_of : List Row → List ℕ
unit_atoms_of rs = map (λ (r : Row). low r.atoms) (units_of rs)

abbrev pub unit_values_of : List Row → List ℕ
unit_values_of rs = map (λ (r : Row). cond r.constant 1 0) (units_of rs)
