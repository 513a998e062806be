-- The theorems of `embed`, as statements; src/promises.rt holds each.
use Rattle.std.specs.Prelude.{ℕ, ◌+◌, ◌*◌, ◌≤◌, ◌<◌, ◌≡◌, List, map, true, length, get_or}
use Rattle.rows.specs.Row.{Assignment, meets_all}
use Rattle.rows.specs.Flat.{row_at, atoms_of}
use Rattle.rows.specs.declared.Source.{Source}
use Rattle.hull.specs.Equations.{hull_of}
use Rattle.hull.specs.Propose.{blank}
use Rattle.hull.specs.declared.LocalEquation.{LocalEquation}
use Rattle.embed.specs.Embed.{Rising, meets_table, row_over}
use Rattle.embed.specs.Written.{written_words, written_constants}

-- An exact table is met by an assignment exactly when its equations over the atoms named are.
abbrev pub TableIsRows : Type 0
TableIsRows = (n k : ℕ) (names words : List ℕ) (x : Assignment) → length names ≡ k → Rising 0 n names → (hull_of k words).exact ≡ true
    → meets_table names words x ≡ meets_all (map (row_over n names) (hull_of k words).rows) x

-- The m-th row that `write` leaves is the m-th equation, over the atoms named: "bit i of a pattern belongs to the i-th atom named."
abbrev pub WriteEmbeds : Type 0
WriteEmbeds = (n w : ℕ) (ws cs names : List ℕ) (es : List LocalEquation) (first : Source) (m : ℕ)
    → (first.0 + length es) * w ≤ length ws → first.0 + length es ≤ length cs → n ≤ w * 64 → Rising 0 n names → m < length es
    → row_at n w (written_words w ws es names first) (written_constants cs es first) (first.0 + m)
    ≡ row_over n names (record { atoms = atoms_of (length names) (get_or es m blank).coefficients; constant = (get_or es m blank).constant })
