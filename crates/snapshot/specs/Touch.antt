-- The basis rows that decisions touch. Place j of a list is ordinal j.
use Rattle.std.specs.Prelude.{ℕ, zero, suc, ◌*◌, min, List, [], ◌∷◌, Bool, false, not, ◌&&◌, ◌||◌, length, ltb, eqb, unwrap_or, Result}
use Rattle.std.specs.Bool.{xor}
use Rattle.words.specs.Set.{set_of, has}
use Rattle.rows.specs.Flat.{mask_of, unpack}
use Rattle.rows.specs.Calls.{part_of}
use Rattle.refusal.specs.Refusal.{checked, answered, number_in}
use Rattle.refusal.specs.declared.Refusal.{Refusal}
use Rattle.refusal.specs.declared.Refusal.TheVariants.{Short, Overfull, Stray, Clash, Basis, Index, Unequal, Missing}
use Rattle.index.specs.Index.{column_width}
use Rattle.index.specs.Column.{over_rank, column_check}
use Rattle.parity.specs.declared.System.{System}
use Rattle.region.specs.declared.Region.{Region}
use Rattle.region.specs.Calls.{strayed, clashes}
use Rattle.snapshot.specs.declared.Snapshot.{Snapshot}
use Rattle.snapshot.specs.declared.Ordinals.{Ordinals}
use Rattle.snapshot.specs.Knowledge.{overfull_by, unequal, missing}

-- "(held or cut) XOR old held XOR old cut", of one atom
abbrev pub newly : Region → Snapshot → ℕ → Bool
newly r known a =
    xor (xor (has (set_of r.held) a || has (set_of r.cut) a) (has (set_of known.held) a)) (has (set_of known.cut) a)

-- Whether the column of w words of an atom marks row j; one that does not lie within the index marks none.
abbrev pub marked : ℕ → List ℕ → ℕ → ℕ → Bool
marked w index a j = has (set_of (unwrap_or (part_of w index a) [])) j

-- Whether the columns of w words mark row j for one of these atoms, all of them below n.
unfoldable pub marks : (ℕ → Bool) → ℕ → List ℕ → ℕ → ℕ → Bool
marks atoms w index j zero = false
marks atoms w index j (suc n) = marks atoms w index j n || (atoms n && marked w index n j)

-- The first so many values of a test.
unfoldable pub listed : ℕ → (ℕ → Bool) → List Bool
listed zero test = []
listed (suc k) test = test 0 ∷ listed k (λ j. test (suc j))

-- "Uninitialised: every basis row is touched. Else the touched rows are those that the lent index marks for some atom in (held or cut) XOR
-- old held XOR old cut"
unfoldable pub touched_of : ℕ → List ℕ → Region → Snapshot → List Bool
touched_of rank index r known =
    listed rank (λ j. not known.initialized || marks (newly r known) (column_width rank) index j r.atoms)

-- Rows as a set of ordinals in eight words.
unfoldable pub ordinals_of : List Bool → Ordinals
ordinals_of rows = record { words = unpack 64 8 (mask_of rows) }

-- 14 as `index` tells it, 15 and 16: the last checks of the calls that are lent an index.
abbrev pub last_check : System → List ℕ → Region → Snapshot → Result Unit Refusal
last_check s index r known =
    checked (
    (Index, not s.refuted && eqb (number_in (column_check index s.atoms s.rank (record { 0 = 0 }))) 14) ∷
    (Unequal, unequal s r known) ∷
    (Missing, missing r known) ∷
    [])

-- 10, "13: rank above min(m, n)", "9: .. index n columns", 11 and 12 of the region, 14 "not checked where the system is refuted", 15, 16
unfoldable pub touched_check : System → List ℕ → Region → Snapshot → Result Unit Refusal
touched_check s index r known =
    checked (
    (Overfull, overfull_by s r known) ∷
    (Basis, ltb (min s.rows s.atoms) s.rank) ∷
    (Short, ltb (length index) (s.atoms * column_width s.rank)) ∷
    (Stray, strayed r) ∷
    (Clash, clashes r) ∷
    (Index, not s.refuted && over_rank s.rank (column_width s.rank) index s.atoms) ∷
    (Unequal, unequal s r known) ∷
    (Missing, missing r known) ∷
    [])

unfoldable pub selected_of : System → List ℕ → Region → Snapshot → Result Ordinals Refusal
selected_of s index r known = answered (touched_check s index r known) (ordinals_of (touched_of s.rank index r known))
