-- How the answers of `records`, `load` and `answer` are told to C: a number, 0 where the call answers, with what it answers.
use Rattle.std.specs.Prelude.{ℕ, Result, Ok, Err}
use Rattle.record.specs.Fault.{fault_number}
use Rattle.record.specs.declared.Fault.{Fault}
use Rattle.records.specs.declared.Checked.{Checked as Found}
use Rattle.load.specs.declared.LoadError.{LoadError}
use Rattle.load.specs.declared.LoadError.TheVariants.{Unfit, Short}
use Rattle.answer.specs.declared.NoRoom.{NoRoom}
use Rattle.ffi.specs.declared.files.Checked.{Checked}
use Rattle.ffi.specs.declared.files.Answered.{Answered}

abbrev pub taken : Found → Checked
taken c = record { number = 0; offset = 0; atoms = c.atoms; rows = c.rows }

abbrev pub refused : Fault → Checked
refused fault = record { number = fault_number fault.kind; offset = fault.offset; atoms = 0; rows = 0 }

-- The check of a file.
abbrev pub checked_told : Result Found Fault → Checked
checked_told (Ok c) = taken c
checked_told (Err fault) = refused fault

-- "9: a lent buffer too short"
abbrev pub not_loaded : LoadError → Checked
not_loaded (Unfit fault) = refused fault
not_loaded Short = record { number = 9; offset = 0; atoms = 0; rows = 0 }

-- Its rows loaded.
abbrev pub loaded_told : Result Found LoadError → Checked
loaded_told (Ok c) = taken c
loaded_told (Err error) = not_loaded error

-- Its text: the number of its bytes, or 9.
abbrev pub answered_told : Result ℕ NoRoom → Answered
answered_told (Ok length) = record { number = 0; length = length }
answered_told (Err short) = record { number = 9; length = 0 }
