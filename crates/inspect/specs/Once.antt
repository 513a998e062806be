-- What is asked of a system and the memory that its preparation filled, whatever region, knowledge and lists a call is lent, so that it can be asked once.
use Rattle.std.specs.Prelude.{min, [], ◌∷◌, ◌*◌, Bool, true, false, not, ◌&&◌, ◌||◌, length, ltb, Result, Ok, Err}
use Rattle.rows.specs.Flat.{width_of}
use Rattle.refusal.specs.Refusal.{checked}
use Rattle.refusal.specs.declared.Refusal.{Refusal}
use Rattle.refusal.specs.declared.Refusal.TheVariants.{Short, Overfull, Stray, Basis, Index}
use Rattle.fit.specs.Rows.{overfull, short, strays, misnames}
use Rattle.index.specs.Index.{column_width}
use Rattle.index.specs.Column.{over_rank}
use Rattle.parity.specs.declared.System.{System}
use Rattle.inspect.specs.Inspect.{Filled}

-- 10, 9 and 11 of the rows, 13 for the rank, 9 of basis and index, 13 for a basis entry, 14. (No call tells its number, only whether it passes, so the order is
-- the code's: what is refused gets its number from `inspect_check`.)
unfoldable pub prepared_check : System → Filled → Result Unit Refusal
prepared_check s l =
    checked (
    (Overfull, overfull s.atoms s.rows) ∷
    (Short, short s.atoms s.rows l.rows l.constants) ∷
    (Stray, strays s.atoms (width_of s.atoms) l.rows l.constants s.rows) ∷
    (Basis, ltb (min s.rows s.atoms) s.rank) ∷
    (Short, ltb (length l.basis) (min s.rows s.atoms) || ltb (length l.index) (s.atoms * column_width s.rank)) ∷
    (Basis, misnames s.rows l.basis s.rank) ∷
    (Index, not s.refuted && over_rank s.rank (column_width s.rank) l.index s.atoms) ∷
    [])

-- Whether no check refuses.
abbrev pub passes : Result Unit Refusal → Bool
passes (Ok _) = true
passes (Err refusal) = false
