-- The text of a file: document 01's "A file and its lines".
use Rattle.std.specs.Prelude.{ℕ, List, [], ◌++◌, Bool, cond, replicate, Result, Ok, Err}
use Rattle.fit.specs.Rows.{limit}
use Rattle.parity.specs.Prepare.{Lent, lent, prepared}
use Rattle.parity.specs.declared.Prepared.{Prepared}
use Rattle.inspect.specs.Promises.{filled_by}
use Rattle.inspect.specs.Run.{begins}
use Rattle.format.specs.Starts.{starts}
use Rattle.record.specs.Fault.{fault_number}
use Rattle.record.specs.declared.Fault.{Fault}
use Rattle.records.specs.Check.{check_of}
use Rattle.records.specs.declared.Checked.{Checked}
use Rattle.load.specs.Load.{load_of}
use Rattle.load.specs.declared.LoadError.{LoadError}
use Rattle.load.specs.declared.LoadError.TheVariants.{Unfit, Short}
use Rattle.text.specs.Text.{two_of}
use Rattle.lines.specs.Words.{bytes, space, newline}
use Rattle.lines.specs.Lines.{lines_from}

-- "one line `refused N at O`, both decimal"
abbrev pub refused_line : ℕ → ℕ → List ℕ
refused_line number offset = two_of (bytes "refused ") number (bytes " at ") offset newline

-- That of a file that is not loaded; where memory is too short, which the program's never is, there is none.
abbrev pub refusal_line : LoadError → List ℕ
refusal_line (Unfit fault) = refused_line (fault_number fault.kind) fault.offset
refusal_line Short = []

-- "sound or refuted"
abbrev pub sound_word : Bool → List ℕ
sound_word refuted = cond refuted (bytes " refuted\n") (bytes " sound\n")

-- "Fields: atoms, rows, rank, additions, units, incidences, sound or refuted"
abbrev pub system_line : Prepared → List ℕ
system_line p =
    two_of (bytes "system ") p.system.atoms space p.system.rows space
    ++ (two_of [] p.system.rank space p.additions space
    ++ two_of [] p.units space p.incidences (sound_word p.system.refuted))

-- The words of 512 rows, or columns, over 512 atoms, and the entries of 512: what the program lends, all 0.
abbrev pub no_words : List ℕ
no_words = replicate 4096 0

abbrev pub no_entries : List ℕ
no_entries = replicate limit 0

-- The rows as they are loaded, and what preparation makes of them.
abbrev pub memory_of : List ℕ → List ℕ → Lent
memory_of ws cs = lent ws cs no_entries no_entries no_entries no_words

-- "The system line always stands first. Each record of kind 4 to 6 then adds its line": a file of n atoms and m fit rows that stand in memory.
-- (Those of a file that is taken are fit: `LoadFits` of load.)
unfoldable pub answers_of : List ℕ → ℕ → ℕ → List ℕ → List ℕ → List ℕ
answers_of file n m ws cs =
    let p = prepared n m (memory_of ws cs) in
    system_line p.0 ++ lines_from file p.0.system (filled_by p.1) (begins p.0.system.atoms) (starts file 0)

-- What is written of a file that is taken, or of its fault.
abbrev pub told : List ℕ → Result Checked Fault → List ℕ
told file (Ok c) = let o = load_of file no_words no_entries in answers_of file c.atoms c.rows o.rows o.constants
told file (Err fault) = refused_line (fault_number fault.kind) fault.offset

-- "The whole file is checked first; one line .. is then all that is written."
unfoldable pub text_of : List ℕ → List ℕ
text_of file = told file (check_of file)
