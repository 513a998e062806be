-- The theorems of `records`, as statements: what a file without a fault is. src/promises.rt holds each.
use Rattle.std.specs.Prelude.{ℕ, ◌+◌, ◌≤◌, ◌<◌, ◌≡◌, List, [], ◌∷◌, true, Ok}
use Rattle.hull.specs.Propose as hull
use Rattle.embed.specs.Embed.{Rising}
use Rattle.fit.specs.Rows.{limit}
use Rattle.format.specs.Format.{kind_at, constant_at, row_atoms, k_at, table_atoms, decided_at, value_at}
use Rattle.format.specs.Starts.{starts}
use Rattle.records.specs.Rows.{hull_at, rows_at}
use Rattle.records.specs.Check.{check_of}
use Rattle.records.specs.declared.Checked.{Checked}

abbrev pub AllBelow : ℕ → List ℕ → Type 0
AllBelow n [] = Unit {0}
AllBelow n (a ∷ atoms) = (a < n) × AllBelow n atoms

-- The record at o of a file of n atoms, by its kind: "2, a row: constant byte, then atoms", "3, a table: byte k, k atoms strictly rising", and
-- exact, "4, a decision: atom, value byte 0 or 1."
pub record RecordFit (file : List ℕ) (n o : ℕ) : Type 0 where
  pub row : kind_at file o ≡ 2 → (constant_at file o ≤ 1) × AllBelow n (row_atoms file o)
  pub table : kind_at file o ≡ 3 → (k_at file o ≤ hull.limit) × Rising 0 n (table_atoms file o) × ((hull_at file o).exact ≡ true)
  pub decision : kind_at file o ≡ 4 → (decided_at file o < n) × (value_at file o ≤ 1)

abbrev pub RecordsFit : List ℕ → ℕ → List ℕ → Type 0
RecordsFit file n [] = Unit {0}
RecordsFit file n (o ∷ os) = RecordFit file n o × RecordsFit file n os

-- Every record of a file that is taken is fit.
abbrev pub FileFit : Type 0
FileFit = (file : List ℕ) (c : Checked) → check_of file ≡ Ok c → RecordsFit file c.atoms (starts file 0)

-- "n is 0 to 512, rows 0 to 512"
abbrev pub FileWithin : Type 0
FileWithin = (file : List ℕ) (c : Checked) → check_of file ≡ Ok c → (c.atoms ≤ limit) × (c.rows ≤ limit)

-- The rows of a file that is taken are those that its records bring.
abbrev pub rows_in : List ℕ → List ℕ → ℕ
rows_in file [] = 0
rows_in file (o ∷ os) = rows_at file o + rows_in file os

abbrev pub RowsCounted : Type 0
RowsCounted = (file : List ℕ) (c : Checked) → check_of file ≡ Ok c → c.rows ≡ rows_in file (starts file 0)
