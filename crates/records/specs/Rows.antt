-- The rows that a record brings, and their checks: a table exact (6), and not too many rows (7).
use Rattle.std.specs.Prelude.{ℕ, ◌+◌, List, Bool, true, cond, length, eqb, leb, Result, Ok}
use Rattle.hull.specs.Equations.{Hulled, hull_of}
use Rattle.fit.specs.Rows.{limit}
use Rattle.format.specs.Format.{kind_at, k_at, table_at}
use Rattle.record.specs.Fault.{unless, ◌>>◌}
use Rattle.record.specs.declared.Fault.{Fault}
use Rattle.record.specs.declared.FaultKind.TheVariants.{Inexact, Rows}

-- "A table becomes its hull's equations, in its place."
abbrev pub hull_at : List ℕ → ℕ → Hulled
hull_at file o = hull_of (k_at file o) (table_at file o)

unfoldable pub exact_at : List ℕ → ℕ → Bool
exact_at file o = cond (eqb (kind_at file o) 3) (hull_at file o).exact true

unfoldable pub rows_at : List ℕ → ℕ → ℕ
rows_at file o = cond (eqb (kind_at file o) 2) 1 (cond (eqb (kind_at file o) 3) (length (hull_at file o).rows) 0)

-- "6: a table not exact": else the rows that the record brings.
abbrev pub brought : List ℕ → ℕ → Result ℕ Fault
brought file o = unless (exact_at file o) Inexact o >> Ok (rows_at file o)

-- "7: rows above 512": else those before, and more.
abbrev pub rows_after : ℕ → ℕ → ℕ → Result ℕ Fault
rows_after rows more o = unless (leb (rows + more) limit) Rows o >> Ok (rows + more)
