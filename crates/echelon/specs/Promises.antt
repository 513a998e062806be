-- The theorems of `echelon`, as statements, for every n and every list of rows (the last first); src/promises.rt holds each.
use Rattle.std.specs.Prelude.{ℕ, ◌-◌, ◌^◌, ◌≤◌, ◌<◌, ◌≡◌, List, [], ◌∷◌, map, Bool, true, false, cond, length, get_or, eqb}
use Rattle.std.proofs.Math.Option.{none, some}
use Rattle.rows.specs.Row.{Row, Assignment, has_atom, meets_all, add, sum_of}
use Rattle.rows.specs.Count.{count}
use Rattle.echelon.specs.Forward.{find, reduced, State, eliminated}

-- Rows of n atoms.
abbrev pub Sized : ℕ → List Row → Type 0
Sized n [] = Unit {0}
Sized n (r ∷ rs) = (length r.atoms ≡ n) × Sized n rs

-- A row's lowest atom: it has this one, and none below it.
pub record Lowest (r : Row) (a : ℕ) : Type 0 where
  pub own : has_atom r a ≡ true
  pub below : (b : ℕ) → b < a → has_atom r b ≡ false

-- Row number s of rows that stand last first, where there is one.
abbrev pub numbered : List Row → ℕ → Row
numbered [] s = record { atoms = []; constant = false }
numbered (r ∷ rs) s = cond (eqb s (length rs)) r (numbered rs s)

-- A pivot added takes a row's lowest atom away and brings none below it: the measure by which the additions end.
abbrev pub LowestRises : Type 0
LowestRises = (r s : Row) (a b : ℕ) → Lowest r a → Lowest s a → Lowest (add r s) b → a < b

-- "a lowest atom whose pivot is an earlier row": what is found has the row's lowest atom as its own, and where none is found no row has.
abbrev pub PivotFound : Type 0
PivotFound = (r : Row) (bs : List Row)
    → ((b : Row) → find r bs ≡ some b → (a : ℕ) × Lowest r a × Lowest b a)
    × (find r bs ≡ none → (s a : ℕ) → s < length bs → Lowest r a → Lowest (numbered bs s) a → ⊥)

-- "while a row has a lowest atom whose pivot is an earlier row, that row is added": when it ends, there is none.
abbrev pub ReductionEnds : Type 0
ReductionEnds = (n : ℕ) (bs : List Row) (r : Row) → Sized n bs → length r.atoms ≡ n → find (reduced n bs r).0 bs ≡ none

-- The rows that the basis names, in its order.
abbrev pub basis_rows : State → List Row
basis_rows st = map (numbered st.rows) st.basis

-- "A new lowest atom makes the row a pivot": each basis row is one of the rows and has a lowest atom, and no two have the same.
abbrev pub PivotsDiffer : Type 0
PivotsDiffer = (n : ℕ) (rs : List Row) → Sized n rs
    → let st = eliminated n rs in
    ((i : ℕ) → i < length st.basis
    → (get_or st.basis i 0 < length st.rows) × (a : ℕ) × Lowest (numbered st.rows (get_or st.basis i 0)) a)
    × ((i j a : ℕ) → i < j → j < length st.basis → Lowest (numbered st.rows (get_or st.basis i 0)) a
    → Lowest (numbered st.rows (get_or st.basis j 0)) a → ⊥)

-- Each row left is a sum of rows handed in.
abbrev pub LeftAreSums : Type 0
LeftAreSums = (n : ℕ) (rs : List Row) → Sized n rs
    → (s : ℕ) → s < length (eliminated n rs).rows → (bs : List Bool) × (numbered (eliminated n rs).rows s ≡ sum_of n bs rs)

-- The solutions of the rows handed in are those of the basis rows, and a refuted system has none.
abbrev pub SolutionsKept : Type 0
SolutionsKept = (n : ℕ) (rs : List Row) (x : Assignment)
    → ((eliminated n rs).refuted ≡ false → meets_all (basis_rows (eliminated n rs)) x ≡ meets_all rs x)
    × ((eliminated n rs).refuted ≡ true → meets_all rs x ≡ false)

-- Sound means solvable, with 2^(n - rank) solutions.
abbrev pub SoundCounts : Type 0
SoundCounts = (n : ℕ) (rs : List Row) → Sized n rs
    → (length (eliminated n rs).basis ≤ n)
    × ((eliminated n rs).refuted ≡ false → count n (meets_all rs) ≡ 2 ^ (n - length (eliminated n rs).basis))
