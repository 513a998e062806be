-- Forward elimination over parities, document 01's "Preparation" up to the units: "Rows in order; while a row has a lowest atom whose
-- pivot is an earlier row, that row is added". Lists of rows stand last first, so that a row's number is how many stand behind it.
use Rattle.std.specs.Prelude.{ℕ, zero, suc, ◌+◌, List, [], ◌∷◌, ◌++◌, Bool, true, false, cond, ◌&&◌, length}
use Rattle.std.proofs.Math.Option.{Option, none, some}
use Rattle.rows.specs.Row.{Row, add}

-- Both have atoms, and the same lowest one.
abbrev pub same_low : List Bool → List Bool → Bool
same_low [] s = false
same_low (a ∷ r) [] = false
same_low (true ∷ r) (b ∷ s) = b
same_low (false ∷ r) (true ∷ s) = false
same_low (false ∷ r) (false ∷ s) = same_low r s

abbrev pub empty : List Bool → Bool
empty [] = true
empty (true ∷ r) = false
empty (false ∷ r) = empty r

-- The lowest atom of a set that has one.
abbrev pub low : List Bool → ℕ
low [] = 0
low (true ∷ r) = 0
low (false ∷ r) = suc (low r)

-- The earlier row that is the pivot of a row's lowest atom, if it has one: an empty row neither has a pivot nor is one.
abbrev pub find : Row → List Row → Option Row
find r [] = none
find r (b ∷ bs) = cond (same_low r.atoms b.atoms) (some b) (find r bs)

-- "that row is added (XOR, constants too; one addition)", at most so many times: what was found, the row, and the additions before.
unfoldable pub forward : ℕ → List Row → Option Row → Row → ℕ → Row × ℕ
forward zero bs found r k = (r, k)
forward (suc n) bs none r k = (r, k)
forward (suc n) bs (some b) r k = forward n bs (find (add r b) bs) (add r b) (suc k)

-- A row of n atoms as it is left, and how many additions it took. Its lowest atom rises with each, so n are enough: the promise
-- `reduction_ends` says that no pivot is then left for it.
abbrev pub reduced : ℕ → List Row → Row → Row × ℕ
reduced n bs r = forward n bs (find r bs) r 0

-- What stands after some rows: the rows as they are left, the basis, the additions, and whether a row was left empty with constant 1.
pub record State : Type 0 where
  pub rows : List Row
  pub basis : List ℕ
  pub additions : ℕ
  pub refuted : Bool

abbrev pub start : State
start = record { rows = []; basis = []; additions = 0; refuted = false }

-- "A new lowest atom makes the row a pivot: rank + 1, row number appended to the basis."
abbrev pub joined : Bool → ℕ → List ℕ → List ℕ
joined is_empty number basis = cond is_empty basis (basis ++ (number ∷ []))

abbrev pub next : State → Row × ℕ → State
next st left = record {
  rows = left.0 ∷ st.rows;
  basis = joined (empty left.0.atoms) (length st.rows) st.basis;
  additions = st.additions + left.1;
  refuted = empty left.0.atoms && left.0.constant;
}

-- "A row left empty with constant 1 ends preparation as refuted: basis and counts so far stand"
unfoldable pub eliminated : ℕ → List Row → State
unfolding forward
eliminated n [] = start
eliminated n (r ∷ rs) =
    let st = eliminated n rs in
    cond st.refuted st (next st (reduced n st.rows r))
