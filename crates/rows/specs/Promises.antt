-- The theorems of `rows`, as statements; src/promises.rt holds each.
use Rattle.std.specs.Prelude.{ℕ, ◌-◌, ◌*◌, ◌^◌, ◌<◌, ◌≤◌, ◌≡◌, List, Some, None, Ok, Bool, true, false, ◌&&◌, length, get_or}
use Rattle.std.specs.Bool.{beq}
use Rattle.std.specs.Int.Bits.{bit_and}
use Rattle.std.specs.Int.Count.{ones}
use Rattle.words.specs.Set.{packed, set_of, has}
use Rattle.rows.specs.Row.{Row, Assignment, has_atom, overlap, meets, meets_all, add}
use Rattle.rows.specs.Count.{count}
use Rattle.rows.specs.Decisions.{Decisions, agrees, undecided}
use Rattle.rows.specs.Triangular.{Triangular}
use Rattle.rows.specs.Flat.{row, row_at, atoms_of, mask_of, unpack}
use Rattle.rows.specs.Calls.{addable, added_words, added_constants, lowest_of}
use Rattle.rows.specs.declared.Source.{Source}

-- A sum is met exactly when both rows are met or neither is.
abbrev pub SumMet : Type 0
SumMet = (r s : Row) (x : Assignment) → meets (add r s) x ≡ beq (meets r x) (meets s x)

-- Where `add` says yes and the two constants are 0 or 1, the target is the sum of the two rows, and every other row is as it was.
abbrev pub AddSums : Type 0
AddSums = (n w : ℕ) (ws cs : List ℕ) (t s : Source) → addable w ws cs t s ≡ true → get_or cs t.0 0 < 2 → get_or cs s.0 0 < 2
    → (row_at n w (added_words w ws t s) (added_constants cs t s) t.0 ≡ add (row_at n w ws cs t.0) (row_at n w ws cs s.0))
    × ((r : ℕ) → (r ≡ t.0 → ⊥) → row_at n w (added_words w ws t s) (added_constants cs t s) r ≡ row_at n w ws cs r)

-- Place a of a row is atom a of its words.
abbrev pub RowHas : Type 0
RowHas = (n w : ℕ) (ws cs : List ℕ) (r a : ℕ) → a < n → has_atom (row_at n w ws cs r) a ≡ has (set_of (row w ws r)) a

-- What `lowest_atom` answers of a row with no atom from n on.
abbrev pub LowestIsLowest : Type 0
LowestIsLowest = (n w : ℕ) (ws cs : List ℕ) (r : Source) → set_of (row w ws r.0) < 2 ^ n
    → ((a : ℕ) → lowest_of w ws r ≡ Ok (Some (record { 0 = a }))
    → (a < n) × (has_atom (row_at n w ws cs r.0) a ≡ true) × ((b : ℕ) → b < a → has_atom (row_at n w ws cs r.0) b ≡ false))
    × (lowest_of w ws r ≡ Ok None → (b : ℕ) → has_atom (row_at n w ws cs r.0) b ≡ false)

-- What a row of n atoms shares with a mask is what its words share with it.
abbrev pub OverlapShared : Type 0
OverlapShared = (n w : ℕ) (ws cs : List ℕ) (r x : ℕ) → set_of (row w ws r) < 2 ^ n
    → overlap (row_at n w ws cs r).atoms (atoms_of n x) ≡ ones (bit_and (set_of (row w ws r)) x)

-- u undecided atoms leave 2^u assignments.
abbrev pub DecisionsLeave : Type 0
DecisionsLeave = (p : Decisions) → count (length p) (agrees p) ≡ 2 ^ undecided p

-- k rows in triangular form over u undecided atoms leave 2^(u - k).
abbrev pub TriangularLeaves : Type 0
TriangularLeaves = (p : Decisions) (ps : List ℕ) (rs : List Row) → Triangular p ps rs
    → (length rs ≤ undecided p) × (count (length p) (λ x. agrees p x && meets_all rs x) ≡ 2 ^ (undecided p - length rs))

-- A row of fit words is determined by its atoms, at any width k of a word.
abbrev pub AtomsFixWords : Type 0
AtomsFixWords = (k n : ℕ) (ws : List ℕ) → ((i : ℕ) → get_or ws i 0 < 2 ^ k) → packed k ws < 2 ^ n
    → unpack k (length ws) (mask_of (atoms_of n (packed k ws))) ≡ ws

-- And every set of atoms has words.
abbrev pub WordsHoldAtoms : Type 0
WordsHoldAtoms = (k w : ℕ) (r : List Bool) → length r ≤ w * k → atoms_of (length r) (packed k (unpack k w (mask_of r))) ≡ r
