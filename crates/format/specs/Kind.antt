-- The kinds of records, and the numbers by which document 01 names them.
use Rattle.std.specs.Prelude.{ℕ, Result, Ok, Err, eqb, if◌then◌else◌}
use Rattle.format.specs.declared.Kind.{Kind}
use Rattle.format.specs.declared.Kind.TheVariants.{Atoms, Row, Table, Decide, Inspect, Probe}
use Rattle.format.specs.declared.UnknownKind.{UnknownKind}

-- "1: atom count", "2, a row", "3, a table", "4, a decision", "5, inspect; 6, probe"
abbrev pub kind_number : Kind → ℕ
kind_number Atoms = 1
kind_number Row = 2
kind_number Table = 3
kind_number Decide = 4
kind_number Inspect = 5
kind_number Probe = 6

-- The kind that a number names: no other number names one.
abbrev pub kind_of : ℕ → Result Kind UnknownKind
kind_of number =
    if eqb number 1 then Ok Atoms
    else (if eqb number 2 then Ok Row
    else (if eqb number 3 then Ok Table
    else (if eqb number 4 then Ok Decide
    else (if eqb number 5 then Ok Inspect
    else (if eqb number 6 then Ok Probe
    else Err (record {}))))))
