-- A slice of words is a set of atoms, and the set is one number: atom a is its binary digit a.
-- So the sets' union, sum and intersection are `bit_or`, `bit_xor` and `bit_and` of the kit, and equal sets are equal numbers.
use Rattle.std.specs.Prelude.{ℕ, ◌+◌, ◌*◌, ◌/◌, ◌%◌, ◌^◌, List, [], ◌∷◌, Bool, eqb}
use Rattle.std.specs.Int.Bits.{bit_and}
use Rattle.std.specs.Int.Count.{count_trailing_zeros}

-- Words of k digits, the lowest first, as one number.
unfoldable pub packed : ℕ → List ℕ → ℕ
packed k [] = 0
packed k (w ∷ ws) = packed k ws * 2 ^ k + w % 2 ^ k

-- "Atom a is bit a mod 64 of word a div 64."
abbrev pub set_of : List ℕ → ℕ
set_of ws = packed 64 ws

abbrev pub digit : ℕ → ℕ → ℕ
digit x a = x / 2 ^ a % 2

-- Whether the set x has atom a.
abbrev pub has : ℕ → ℕ → Bool
has x a = eqb (digit x a) 1

-- Whether every atom of x is one of y.
abbrev pub subset : ℕ → ℕ → Bool
subset x y = eqb (bit_and x y) x

abbrev pub odd : ℕ → Bool
odd n = eqb (n % 2) 1

-- The lowest atom of a set that has one: the zeros below its lowest 1. (A number x has at most x digits.)
unfoldable pub low : ℕ → ℕ
low x = count_trailing_zeros x x
