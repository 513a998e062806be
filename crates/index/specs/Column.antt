-- "The column of an atom is given back as that part of the lent index."
use Rattle.std.specs.Prelude.{ℕ, zero, suc, ◌*◌, ◌^◌, List, [], ◌∷◌, Bool, false, ◌||◌, length, leb, ltb, Result}
use Rattle.words.specs.Set.{set_of}
use Rattle.rows.specs.Flat.{row}
use Rattle.rows.specs.declared.Atom.{Atom}
use Rattle.refusal.specs.Refusal.{checked, left}
use Rattle.refusal.specs.declared.Refusal.{Refusal}
use Rattle.refusal.specs.declared.Refusal.TheVariants.{Short, Overfull, Index, Atom as NoAtom}
use Rattle.fit.specs.Rows.{overfull}
use Rattle.index.specs.Index.{column_width}

-- "14: an index bit at or above the rank, within the n columns"
unfoldable pub over_rank : ℕ → ℕ → List ℕ → ℕ → Bool
over_rank rank w index zero = false
over_rank rank w index (suc n) = over_rank rank w index n || leb (2 ^ rank) (set_of (row w index n))

-- "10: over 512 atoms or .. in the column call a rank over 512", 9, 14, and "18: an atom not below n in .. a wanted column"
unfoldable pub column_check : List ℕ → ℕ → ℕ → Atom → Result Unit Refusal
column_check index n rank a =
    checked (
    (Overfull, overfull n rank) ∷
    (Short, ltb (length index) (n * column_width rank)) ∷
    (Index, over_rank rank (column_width rank) index n) ∷
    (NoAtom, leb n a.0) ∷
    [])

-- "A column refused under any number is the index's first 0 words"
unfoldable pub wanted_column : List ℕ → ℕ → ℕ → Atom → List ℕ
wanted_column index n rank a = left (column_check index n rank a) (row (column_width rank) index a.0) []
