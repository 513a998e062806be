-- The theorems of `parity`, as statements about what `prepare` answers and leaves, for every memory lent to it; src/promises.rt holds each.
use Rattle.std.specs.Prelude.{ℕ, ◌-◌, ◌*◌, ◌^◌, ◌≤◌, ◌<◌, min, ◌≡◌, List, Bool, true, false, ◌&&◌, length, get_or, take, ltb, Ok}
use Rattle.words.specs.Set.{set_of, has}
use Rattle.rows.specs.Row.{Row, Assignment, has_atom, meets_all, sum_of}
use Rattle.rows.specs.Flat.{width_of, row_at}
use Rattle.rows.specs.Count.{count}
use Rattle.rows.specs.declared.Atom.{Atom}
use Rattle.fit.specs.Rows.{rows_check}
use Rattle.echelon.specs.Eliminate.{rows_to}
use Rattle.echelon.specs.Promises.{Lowest}
use Rattle.index.specs.Index.{column_width}
use Rattle.index.specs.Column.{over_rank, column_check, wanted_column}
use Rattle.parity.specs.Basis.{basis_of}
use Rattle.parity.specs.Prepare.{Lent, prepare_check, prepared}
use Rattle.parity.specs.declared.Prepared.{Prepared}

-- The rows as handed in, the last first.
abbrev pub handed_in : ℕ → ℕ → Lent → List Row
handed_in n m l = rows_to n (width_of n) l.rows l.constants m

-- Row number s as preparation leaves it.
abbrev pub row_left : ℕ → Prepared × Lent → ℕ → Row
row_left n p s = row_at n (width_of n) p.1.rows p.1.constants s

-- The basis rows, in basis order.
abbrev pub basis_left : ℕ → Prepared × Lent → List Row
basis_left n p = basis_of n p.1.rows p.1.constants (take p.0.system.rank p.1.basis)

-- Each theorem says something of what preparation makes of fit input, p.

-- The solutions of the rows as handed in, rs, are those of the basis rows, and a refuted system has none.
abbrev pub Keeps : ℕ → List Row → Assignment → Prepared × Lent → Type 0
Keeps n rs x p =
    (p.0.system.refuted ≡ false → meets_all (basis_left n p) x ≡ meets_all rs x) × (p.0.system.refuted ≡ true → meets_all rs x ≡ false)

abbrev pub PrepareKeeps : Type 0
PrepareKeeps = (n m : ℕ) (l : Lent) (x : Assignment) → prepare_check n m l ≡ Ok tt → Keeps n (handed_in n m l) x (prepared n m l)

-- Sound means solvable, with 2^(n - rank) solutions; the rank is at most min(m, n).
abbrev pub Counts : ℕ → ℕ → List Row → Prepared × Lent → Type 0
Counts n m rs p =
    (p.0.system.rank ≤ min m n) × (p.0.system.refuted ≡ false → count n (meets_all rs) ≡ 2 ^ (n - p.0.system.rank))

abbrev pub PrepareCounts : Type 0
PrepareCounts = (n m : ℕ) (l : Lent) → prepare_check n m l ≡ Ok tt → Counts n m (handed_in n m l) (prepared n m l)

-- "A new lowest atom makes the row a pivot": each basis entry names one of the m rows, that row has a lowest atom, and no two have the same.
abbrev pub Pivots : ℕ → ℕ → Prepared × Lent → Type 0
Pivots n m p =
    ((i : ℕ) → i < p.0.system.rank → (get_or p.1.basis i 0 < m) × (a : ℕ) × Lowest (row_left n p (get_or p.1.basis i 0)) a)
    × ((i j a : ℕ) → i < j → j < p.0.system.rank → Lowest (row_left n p (get_or p.1.basis i 0)) a
    → Lowest (row_left n p (get_or p.1.basis j 0)) a → ⊥)

abbrev pub PreparePivots : Type 0
PreparePivots = (n m : ℕ) (l : Lent) → prepare_check n m l ≡ Ok tt → Pivots n m (prepared n m l)

-- Each of the m rows of a sound system is left as a sum of rows handed in.
abbrev pub Sums : ℕ → ℕ → List Row → Prepared × Lent → Type 0
Sums n m rs p = p.0.system.refuted ≡ false → (s : ℕ) → s < m → (bs : List Bool) × (row_left n p s ≡ sum_of n bs rs)

abbrev pub PrepareSums : Type 0
PrepareSums = (n m : ℕ) (l : Lent) → prepare_check n m l ≡ Ok tt → Sums n m (handed_in n m l) (prepared n m l)

-- "bit j of atom a's column is set when basis row j has a": with the index that preparation wrote, the column of an atom below n is not
-- refused, it has a column's words, and its bits say just that.
abbrev pub Tells : ℕ → Atom → Prepared × Lent → Type 0
Tells n a p =
    let rank = p.0.system.rank in
    let column = wanted_column p.1.index n rank a in
    p.0.system.refuted ≡ false
    → (column_check p.1.index n rank a ≡ Ok tt)
    × (length column ≡ column_width rank)
    × ((j : ℕ) → has (set_of column) j ≡ (ltb j rank && has_atom (row_left n p (get_or p.1.basis j 0)) a.0))

abbrev pub ColumnTells : Type 0
ColumnTells = (n m : ℕ) (l : Lent) (a : Atom) → prepare_check n m l ≡ Ok tt → a.0 < n → Tells n a (prepared n m l)

-- What preparation leaves is fit to be lent again: to a call that takes this system with its rows, basis and index.
pub record Fits (n m : ℕ) (p : Prepared × Lent) : Type 0 where
  pub atoms : p.0.system.atoms ≡ n
  pub rows : p.0.system.rows ≡ m
  pub fit : rows_check n m p.1.rows p.1.constants ≡ Ok tt
  pub ranked : p.0.system.rank ≤ min m n
  pub entries : min m n ≤ length p.1.basis
  pub named : (j : ℕ) → j < p.0.system.rank → get_or p.1.basis j 0 < m
  pub columns : n * column_width p.0.system.rank ≤ length p.1.index
  pub bits : p.0.system.refuted ≡ false → over_rank p.0.system.rank (column_width p.0.system.rank) p.1.index n ≡ false

abbrev pub PrepareFits : Type 0
PrepareFits = (n m : ℕ) (l : Lent) → prepare_check n m l ≡ Ok tt → Fits n m (prepared n m l)
