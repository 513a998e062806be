-- The theorems of `words`, as statements: that the numbers and lists which the contracts speak of have "these plain set meanings".
-- src/promises.rt holds each.
use Rattle.std.specs.Prelude.{ℕ, zero, suc, ◌+◌, ◌-◌, ◌/◌, ◌%◌, ◌^◌, ◌≤◌, ◌<◌, ◌≡◌, ◌↔◌, List, [], ◌∷◌, ◌++◌, Some, None, Ok, true, false, cond, not, ◌&&◌, ◌||◌, length, get_or, eqb}
use Rattle.std.specs.Bool.{xor}
use Rattle.std.specs.Int.Bits.{bit_and, bit_or, bit_xor}
use Rattle.std.specs.Int.Count.{ones}
use Rattle.std.specs.Iterator.{AlwaysYields}
use Rattle.words.specs.Set.{set_of, has, subset, low}
use Rattle.words.specs.Calls.{inserted, merged, first_of, Visits}

-- "Atom a is bit a mod 64 of word a div 64."
abbrev pub AtomIsBit : Type 0
AtomIsBit = (ws : List ℕ) (a : ℕ) → has (set_of ws) a ≡ has (get_or ws (a / 64) 0) (a % 64)

-- Sets with the same atoms are the same number.
abbrev pub SameAtoms : Type 0
SameAtoms = (x y : ℕ) → ((a : ℕ) → has x a ≡ has y a) → x ≡ y

-- `insert` adds the one atom where there is room, and nothing past the end.
abbrev pub InsertAdds : Type 0
InsertAdds = (ws : List ℕ) (a : ℕ)
    → (a / 64 < length ws → (b : ℕ) → has (set_of (inserted ws a)) b ≡ (has (set_of ws) b || eqb b a))
    × (length ws ≤ a / 64 → inserted ws a ≡ ws)

-- `union_assign` leaves the atoms of either, `xor_assign` those of just one.
abbrev pub MergeJoins : Type 0
MergeJoins = (l r : List ℕ) (a : ℕ) → length l ≡ length r
    → (has (set_of (merged bit_or l r)) a ≡ (has (set_of l) a || has (set_of r) a))
    × (has (set_of (merged bit_xor l r)) a ≡ xor (has (set_of l) a) (has (set_of r) a))

-- The intersection has the atoms of both.
abbrev pub IntersectionShares : Type 0
IntersectionShares = (x y a : ℕ) → has (bit_and x y) a ≡ (has x a && has y a)

abbrev pub SubsetHolds : Type 0
SubsetHolds = (x y : ℕ) → (subset x y ≡ true) ↔ ((a : ℕ) → has x a ≡ true → has y a ≡ true)

-- How many of the atoms below n a set has.
abbrev pub atoms_below : ℕ → ℕ → ℕ
atoms_below zero x = 0
atoms_below (suc n) x = atoms_below n x + cond (has x n) 1 0

-- `popcount`, `count` and the counts of an intersection number atoms.
abbrev pub OnesCount : Type 0
OnesCount = (n x : ℕ) → x < 2 ^ n → ones x ≡ atoms_below n x

-- "`first` gives the lowest set bit."
abbrev pub FirstIsLowest : Type 0
FirstIsLowest = (ws : List ℕ)
    → ((a : ℕ) → first_of ws ≡ Ok (Some a) → (has (set_of ws) a ≡ true) × ((b : ℕ) → b < a → has (set_of ws) b ≡ false))
    × (first_of ws ≡ Ok None → (b : ℕ) → has (set_of ws) b ≡ false)

-- A step of `bits` takes out just the atom that it visits.
abbrev pub StepVisits : Type 0
StepVisits = (x a : ℕ) → 0 < x → has (x - 2 ^ low x) a ≡ (has x a && not (eqb a (low x)))

-- The atoms below n of a set, rising.
unfoldable pub atoms_in : ℕ → ℕ → List ℕ
atoms_in zero x = []
atoms_in (suc n) x = atoms_in n x ++ cond (has x n) (n ∷ []) []

-- A visit of `bits` gives each atom of the word once, rising, and then ends.
abbrev pub BitsRise : Type 0
BitsRise = (w : ℕ) → w < 2 ^ 64 → AlwaysYields Visits (λ a. a) (record { remaining = w }) (atoms_in 64 w)
