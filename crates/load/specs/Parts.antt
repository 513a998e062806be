-- What a file hands in: the rows and tables of its records, in order.
use Rattle.std.specs.Prelude.{ℕ, List, [], ◌∷◌, ◌++◌, map, Bool, false, cond, ◌||◌, eqb}
use Rattle.rows.specs.Row.{Row}
use Rattle.embed.specs.Parts.{Part, row, table}
use Rattle.format.specs.Bytes.{list_from}
use Rattle.format.specs.Format.{kind_at, constant_at, row_atoms, table_atoms, table_at}
use Rattle.format.specs.Starts.{starts}

abbrev pub among : ℕ → List ℕ → Bool
among a [] = false
among a (b ∷ atoms) = eqb a b || among a atoms

-- The set of the atoms named: of each atom below n, whether it is among them. "An atom named twice or more counts once."
unfoldable pub set_named : ℕ → List ℕ → List Bool
set_named n atoms = map (λ (a : ℕ). among a atoms) (list_from (λ (a : ℕ). a) 0 n)

-- "2, a row: constant byte, then atoms."
abbrev pub row_in : List ℕ → ℕ → ℕ → Row
row_in file n o = record { atoms = set_named n (row_atoms file o); constant = eqb (constant_at file o) 1 }

-- The record at o of a file of n atoms, by its kind: a row, "3, a table: byte k, k atoms strictly rising, then .. words", or neither.
unfoldable pub parts_at : List ℕ → ℕ → ℕ → List Part
parts_at file n o =
    cond (eqb (kind_at file o) 2) (row (row_in file n o) ∷ [])
    (cond (eqb (kind_at file o) 3) (table (table_atoms file o) (table_at file o) ∷ []) [])

unfoldable pub parts_from : List ℕ → ℕ → List ℕ → List Part
parts_from file n [] = []
parts_from file n (o ∷ os) = parts_at file n o ++ parts_from file n os

-- Those of all records of a file of n atoms.
abbrev pub parts_of : List ℕ → ℕ → List Part
parts_of file n = parts_from file n (starts file 0)
