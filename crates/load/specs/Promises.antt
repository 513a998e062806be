-- The theorems of `load`, as statements about a file that is taken: what it hands in is fit for demand 3, and `load` hands it in. src/promises.rt
-- holds each.
use Rattle.std.specs.Prelude.{ℕ, ◌*◌, ◌≤◌, ◌≡◌, List, false, length, Result, Ok, Err}
use Rattle.rows.specs.Flat.{width_of}
use Rattle.fit.specs.Rows.{limit, short, rows_check}
use Rattle.echelon.specs.Eliminate.{rows_to}
use Rattle.embed.specs.Parts.{FitParts, all_rows}
use Rattle.record.specs.declared.Fault.{Fault}
use Rattle.records.specs.Check.{check_of}
use Rattle.records.specs.declared.Checked.{Checked}
use Rattle.load.specs.Parts.{parts_of}
use Rattle.load.specs.Load.{file_rows, load_of}
use Rattle.load.specs.declared.LoadError.{LoadError}
use Rattle.load.specs.declared.LoadError.TheVariants.{Unfit}

-- "its tables are fit for kind 3", and its rows are over n atoms.
abbrev pub PartsFit : Type 0
PartsFit = (file : List ℕ) (c : Checked) → check_of file ≡ Ok c → FitParts c.atoms (parts_of file c.atoms)

-- The rows that the check counted are those of the parts.
abbrev pub PartsCounted : Type 0
PartsCounted = (file : List ℕ) (c : Checked) → check_of file ≡ Ok c → length (all_rows c.atoms (parts_of file c.atoms)) ≡ c.rows

-- What the check says, as `load` answers it.
abbrev pub answer_for : Result Checked Fault → Result Checked LoadError
answer_for (Ok c) = Ok c
answer_for (Err fault) = Err (Unfit fault)

-- With room for the most atoms and rows no memory is too short: the answer is the check's.
abbrev pub LoadHasRoom : Type 0
LoadHasRoom = (file ws cs : List ℕ) → limit * width_of limit ≤ length ws → limit ≤ length cs → (load_of file ws cs).result ≡ answer_for (check_of file)

-- The rows that stand in memory after `load` are those of the parts, whatever the memory held.
abbrev pub LoadHandsIn : Type 0
LoadHandsIn = (file : List ℕ) (c : Checked) (ws cs : List ℕ) → check_of file ≡ Ok c → short c.atoms c.rows ws cs ≡ false
    → let o = load_of file ws cs in
    rows_to c.atoms (width_of c.atoms) o.rows o.constants c.rows ≡ file_rows file c.atoms

-- They are fit to be handed to preparation: neither 10 nor 9 nor 11.
abbrev pub LoadFits : Type 0
LoadFits = (file : List ℕ) (c : Checked) (ws cs : List ℕ) → check_of file ≡ Ok c → short c.atoms c.rows ws cs ≡ false
    → let o = load_of file ws cs in
    rows_check c.atoms c.rows o.rows o.constants ≡ Ok tt
