-- A table's equations as rows over all n atoms: "A table names k atoms and forbids some of their 2^k patterns; bit i of a pattern belongs
-- to the i-th atom named. An assignment meets a table when it gives these atoms no forbidden pattern."
use Rattle.std.specs.Prelude.{ℕ, suc, ◌≤◌, ◌<◌, List, [], ◌∷◌, Bool, true, false, get_or, set}
use Rattle.rows.specs.Row.{Row, Assignment}
use Rattle.hull.specs.Table.{Pattern, allows}
use Rattle.hull.specs.Equations.{zeros}

-- "k atoms strictly rising", each from `from` on and below n.
abbrev pub Rising : ℕ → ℕ → List ℕ → Type 0
Rising from n [] = Unit {0}
Rising from n (a ∷ names) = (from ≤ a) × (a < n) × Rising (suc a) n names

-- The pattern that an assignment gives the atoms named.
abbrev pub named : List ℕ → Assignment → Pattern
named [] x = []
named (a ∷ names) x = get_or x a false ∷ named names x

abbrev pub meets_table : List ℕ → List ℕ → Assignment → Bool
meets_table names words x = allows words (named names x)

-- A local set of atoms, spread over the atoms named.
abbrev pub spread : ℕ → List ℕ → List Bool → List Bool
spread n [] c = zeros n
spread n (a ∷ names) [] = zeros n
spread n (a ∷ names) (true ∷ c) = set (spread n names c) a true
spread n (a ∷ names) (false ∷ c) = spread n names c

abbrev pub row_over : ℕ → List ℕ → Row → Row
row_over n names r = record { atoms = spread n names r.atoms; constant = r.constant }
