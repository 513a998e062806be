-- A table of k atoms: which of their 2^k patterns are forbidden, and those that are allowed.
use Rattle.std.specs.Prelude.{ℕ, zero, suc, ◌^◌, List, [], ◌∷◌, Bool, cond, not}
use Rattle.words.specs.Set.{set_of, has}
use Rattle.rows.specs.Flat.{atoms_of, mask_of}

-- "bit i of a pattern belongs to the i-th atom named": pattern p as a list, bit 0 first, is `atoms_of k p`, and p is `mask_of` of it.
abbrev pub Pattern : Type 0
Pattern = List Bool

-- "bit p mod 64 of word p div 64 set means pattern p is forbidden."
abbrev pub forbids : List ℕ → ℕ → Bool
forbids words p = has (set_of words) p

-- The allowed ones of n patterns of k bits from p on, rising.
unfoldable pub allowed_from : (ℕ → Bool) → ℕ → ℕ → ℕ → List Pattern
allowed_from forbidden k zero p = []
allowed_from forbidden k (suc n) p =
    let later = allowed_from forbidden k n (suc p) in cond (forbidden p) later (atoms_of k p ∷ later)

-- All allowed patterns of a table of k atoms. "Bits at 2^k and above are ignored."
unfoldable pub allowed : ℕ → List ℕ → List Pattern
unfolding allowed_from
allowed k words = allowed_from (forbids words) k (2 ^ k) 0

-- Whether a table allows a pattern.
abbrev pub allows : List ℕ → Pattern → Bool
allows words x = not (forbids words (mask_of x))
