-- Rows in flat lent words: "each row takes W 64-bit words", W = ceil(n/64), row r at r·W; its constant is byte r of the constants.
use Rattle.std.specs.Prelude.{ℕ, zero, suc, ◌+◌, ◌*◌, ◌/◌, ◌%◌, ◌^◌, List, [], ◌∷◌, Bool, cond, get_or, take, drop, eqb}
use Rattle.words.specs.Set.{set_of, odd}
use Rattle.rows.specs.Row.{Row}

abbrev pub width_of : ℕ → ℕ
width_of n = (n + 63) / 64

-- The words of row r.
abbrev pub row : ℕ → List ℕ → ℕ → List ℕ
row w ws r = take w (drop (r * w) ws)

-- The atoms below n of a set, lowest first.
unfoldable pub atoms_of : ℕ → ℕ → List Bool
atoms_of zero x = []
atoms_of (suc n) x = odd x ∷ atoms_of n (x / 2)

-- Row r over n atoms, of width w. A fit row lies within the words, has no atom from n on, and its constant is 0 or 1.
unfoldable pub row_at : ℕ → ℕ → List ℕ → List ℕ → ℕ → Row
row_at n w ws cs r = record { atoms = atoms_of n (set_of (row w ws r)); constant = eqb (get_or cs r 0) 1 }

-- And back: the set of a row's atoms, and a set as w words of k atoms.
unfoldable pub mask_of : List Bool → ℕ
mask_of [] = 0
mask_of (b ∷ r) = mask_of r * 2 + cond b 1 0

unfoldable pub unpack : ℕ → ℕ → ℕ → List ℕ
unpack k zero x = []
unpack k (suc w) x = x % 2 ^ k ∷ unpack k w (x / 2 ^ k)
