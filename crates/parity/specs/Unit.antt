-- What `unit` answers, for its contract alone.
use Rattle.std.specs.Prelude.{ℕ, Option, Some, None, cond, eqb}
use Rattle.std.specs.Int.Count.{ones}
use Rattle.words.specs.Set.{low}

-- The atom of a set that has just one, with a value.
abbrev pub unit_of : ℕ → ℕ → Option (ℕ × ℕ)
unit_of x value = cond (eqb (ones x) 1) (Some (low x, value)) None
