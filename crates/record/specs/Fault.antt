-- A fault of a file: what is wrong, by document 01's number, and the offset of the record. A check answers Ok, or the fault that it found.
use Rattle.std.specs.Prelude.{ℕ, Bool, true, false, Result, Ok, Err}
use Rattle.record.specs.declared.Fault.{Fault}
use Rattle.record.specs.declared.FaultKind.{FaultKind}
use Rattle.record.specs.declared.FaultKind.TheVariants.{Length, Order, Size, Range, Rising, Inexact, Rows, TooLong}

-- The numbers of document 01's "Sender of a file".
abbrev pub fault_number : FaultKind → ℕ
fault_number Length = 1
fault_number Order = 2
fault_number Size = 3
fault_number Range = 4
fault_number Rising = 5
fault_number Inexact = 6
fault_number Rows = 7
fault_number TooLong = 8

-- Nothing where a test holds, else this fault at this offset.
abbrev pub unless : Bool → FaultKind → ℕ → Result (Unit {0}) Fault
unless true kind offset = Ok tt
unless false kind offset = Err (record { kind = kind; offset = offset })

-- What comes after a check: nothing where it found a fault.
infixl 10 ◌>>=◌
abbrev pub ◌>>=◌ : {A B : Type 0} → Result A Fault → (A → Result B Fault) → Result B Fault
Ok a >>= f = f a
Err e >>= f = Err e

infixl 10 ◌>>◌
abbrev pub ◌>>◌ : {A B : Type 0} → Result A Fault → Result B Fault → Result B Fault
Ok a >> r = r
Err e >> r = Err e
