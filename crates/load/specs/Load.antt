-- What `load` answers and leaves in the memory lent to it, for fit and unfit files.
use Rattle.std.specs.Prelude.{ℕ, ◌*◌, List, ◌++◌, reverse, cond, drop, Result, Ok, Err}
use Rattle.rows.specs.Row.{Row}
use Rattle.rows.specs.Flat.{width_of}
use Rattle.fit.specs.Rows.{short}
use Rattle.echelon.specs.Eliminate.{words_of, constants_of}
use Rattle.embed.specs.Parts.{all_rows}
use Rattle.record.specs.declared.Fault.{Fault}
use Rattle.records.specs.Check.{check_of}
use Rattle.records.specs.declared.Checked.{Checked}
use Rattle.load.specs.Parts.{parts_of}
use Rattle.load.specs.declared.LoadError.{LoadError}
use Rattle.load.specs.declared.LoadError.TheVariants.{Unfit, Short}

-- The rows of a file of n atoms, "A table becomes its hull's equations, in its place"; like every list of rows that stand in memory, the last first.
abbrev pub file_rows : List ℕ → ℕ → List Row
file_rows file n = reverse (all_rows n (parts_of file n))

-- The result, and what the lent rows and constants hold.
pub record Outcome : Type 0 where
  pub result : Result Checked LoadError
  pub rows : List ℕ
  pub constants : List ℕ

abbrev pub outcome : Result Checked LoadError → List ℕ → List ℕ → Outcome
outcome r ws cs = record { result = r; rows = ws; constants = cs }

-- The rows in their words and constants: "words and entries past those named are untouched".
abbrev pub filled : List ℕ → Checked → List ℕ → List ℕ → Outcome
filled file c ws cs =
    let w = width_of c.atoms in
    outcome (Ok c) (words_of w (file_rows file c.atoms) ++ drop (c.rows * w) ws) (constants_of (file_rows file c.atoms) ++ drop c.rows cs)

-- A file that is refused, memory that is too short, or the rows; where it is refused all lent memory stands.
-- "9: a lent buffer too short. For m rows: m·W row words, m constants"
abbrev pub loaded : List ℕ → Result Checked Fault → List ℕ → List ℕ → Outcome
loaded file (Err fault) ws cs = outcome (Err (Unfit fault)) ws cs
loaded file (Ok c) ws cs = cond (short c.atoms c.rows ws cs) (outcome (Err Short) ws cs) (filled file c ws cs)

unfoldable pub load_of : List ℕ → List ℕ → List ℕ → Outcome
load_of file = loaded file (check_of file)
