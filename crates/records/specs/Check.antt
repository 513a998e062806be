-- The check of a whole file: "Checks go by rising number within a group, record by record."
use Rattle.std.specs.Prelude.{ℕ, List, [], ◌∷◌, length, leb, Some, None, Result, Ok}
use Rattle.format.specs.declared.Kind.{Kind}
use Rattle.format.specs.declared.Kind.TheVariants.{Atoms}
use Rattle.format.specs.Kind.{kind_of}
use Rattle.format.specs.Format.{kind_at, count_at}
use Rattle.format.specs.Starts.{starts}
use Rattle.record.specs.Fault.{unless, ◌>>=◌, ◌>>◌}
use Rattle.record.specs.Form.{length_check, group_of, kind_check, size_check}
use Rattle.record.specs.Fields.{range_check, rising_check}
use Rattle.records.specs.Rows.{brought, rows_after}
use Rattle.record.specs.declared.Fault.{Fault}
use Rattle.record.specs.declared.FaultKind.TheVariants.{Order, TooLong}
use Rattle.records.specs.declared.Seen.{Seen}
use Rattle.records.specs.declared.Checked.{Checked}

abbrev pub nothing_seen : Seen
nothing_seen = record { group = None; atoms = 0; rows = 0 }

-- The atom count, once a record of a kind is seen.
abbrev pub atoms_after : List ℕ → Kind → ℕ → ℕ → ℕ
atoms_after file Atoms atoms o = count_at file o
atoms_after file kind atoms o = atoms

-- The checks of the record at o after what was seen before it, in their order; and what is seen with it: its group, the atom count, and the
-- rows with those that it brings.
unfoldable pub step_of : List ℕ → Seen → ℕ → Result Seen Fault
step_of file seen o = do
  length_check file o
  kind ← kind_check seen.group (kind_of (kind_at file o)) o
  size_check file kind o
  range_check file kind seen.atoms o
  rising_check file kind o
  more ← brought file o
  rows ← rows_after seen.rows more o
  Ok (record { group = Some (group_of kind); atoms = atoms_after file kind seen.atoms o; rows = rows })

-- The records at some offsets, after what was seen.
unfoldable pub check_from : List ℕ → Seen → List ℕ → Result Checked Fault
check_from file seen [] = Ok (record { atoms = seen.atoms; rows = seen.rows })
check_from file seen (o ∷ os) = step_of file seen o >>= (λ next. check_from file next os)

-- "a file up to 65,536 bytes"
abbrev pub file_limit : ℕ
file_limit = 65536

-- A file: its first fault, or its atoms and rows. "8, before all others: over 65,536 bytes" (at 65536); "2: .. an empty file, at 0".
unfoldable pub check_of : List ℕ → Result Checked Fault
check_of file = do
  unless (leb (length file) file_limit) TooLong file_limit
  unless (leb 1 (length file)) Order 0
  check_from file nothing_seen (starts file 0)
