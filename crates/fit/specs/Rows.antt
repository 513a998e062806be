-- What a caller can be told no for who lends m rows over n atoms, their constants and a basis of them.
use Rattle.std.specs.Prelude.{ℕ, zero, suc, ◌*◌, ◌^◌, List, [], ◌∷◌, Bool, false, ◌||◌, length, get_or, leb, ltb, Result}
use Rattle.words.specs.Set.{set_of}
use Rattle.rows.specs.Flat.{width_of, row}
use Rattle.refusal.specs.Refusal.{checked}
use Rattle.refusal.specs.declared.Refusal.{Refusal}
use Rattle.refusal.specs.declared.Refusal.TheVariants.{Short, Overfull, Stray}

-- "n is 0 to 512, rows 0 to 512"
abbrev pub limit : ℕ
limit = 512

-- "10: over 512 atoms or rows"
abbrev pub overfull : ℕ → ℕ → Bool
overfull n m = ltb limit n || ltb limit m

-- "9: a lent buffer too short. For m rows: m·W row words, m constants"
abbrev pub short : ℕ → ℕ → List ℕ → List ℕ → Bool
short n m ws cs = ltb (length ws) (m * width_of n) || ltb (length cs) m

-- "11: a bit set at or above n in a row .., or a constant above 1": among the first m rows. (A set with an atom from n on is a number
-- from 2^n on.)
unfoldable pub strays : ℕ → ℕ → List ℕ → List ℕ → ℕ → Bool
strays n w ws cs zero = false
strays n w ws cs (suc m) = strays n w ws cs m || (leb (2 ^ n) (set_of (row w ws m)) || ltb 1 (get_or cs m 0))

unfoldable pub rows_check : ℕ → ℕ → List ℕ → List ℕ → Result Unit Refusal
rows_check n m ws cs = checked ((Overfull, overfull n m) ∷ (Short, short n m ws cs) ∷ (Stray, strays n (width_of n) ws cs m) ∷ [])

-- "13: .. a basis entry below the rank naming no row"
unfoldable pub misnames : ℕ → List ℕ → ℕ → Bool
misnames m basis zero = false
misnames m basis (suc rank) = misnames m basis rank || leb m (get_or basis rank 0)
