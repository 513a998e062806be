-- What is handed in: rows and tables, in order.
use Rattle.std.specs.Prelude.{ℕ, ◌≤◌, ◌≡◌, List, [], ◌∷◌, ◌++◌, map, Bool, true, ◌&&◌, length}
use Rattle.rows.specs.Row.{Row, Assignment, meets}
use Rattle.hull.specs.Equations.{hull_of}
use Rattle.hull.specs.Propose.{limit, table_words}
use Rattle.embed.specs.Embed.{Rising, meets_table, row_over}

-- "over any accepted rows and exact tables": a row over n atoms, or a table by the atoms that it names and its words.
pub data Part : Type 0 where
  row : Row → Part
  table : List ℕ → List ℕ → Part

-- "its tables are fit for kind 3": k atoms strictly rising below n, k up to 8, the words wanted, and exact.
abbrev pub FitPart : ℕ → Part → Type 0
FitPart n (row r) = length r.atoms ≡ n
FitPart n (table names words) =
    Rising 0 n names × (length names ≤ limit) × (length words ≡ table_words (length names)) × ((hull_of (length names) words).exact ≡ true)

abbrev pub FitParts : ℕ → List Part → Type 0
FitParts n [] = Unit {0}
FitParts n (q ∷ qs) = FitPart n q × FitParts n qs

-- "A table becomes its hull's equations, in its place": the rows in order.
abbrev pub rows_of : ℕ → Part → List Row
rows_of n (row r) = r ∷ []
rows_of n (table names words) = map (row_over n names) (hull_of (length names) words).rows

abbrev pub all_rows : ℕ → List Part → List Row
all_rows n [] = []
all_rows n (q ∷ qs) = rows_of n q ++ all_rows n qs

-- "meets every row and table as first handed in"
abbrev pub meets_part : Part → Assignment → Bool
meets_part (row r) x = meets r x
meets_part (table names words) x = meets_table names words x

abbrev pub meets_parts : List Part → Assignment → Bool
meets_parts [] x = true
meets_parts (q ∷ qs) x = meets_part q x && meets_parts qs x
