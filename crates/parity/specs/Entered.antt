-- What the private functions of the index ask and leave, for their contracts alone. A column is a row of the index, of `stride` words.
use Rattle.std.specs.Prelude.{ℕ, ◌+◌, ◌*◌, ◌≤◌, ◌≡◌, List, Bool, true, cond, length}
use Rattle.std.specs.Int.Bits.{bit_or}
use Rattle.words.specs.Set.{set_of, has}
use Rattle.rows.specs.Flat.{row}

-- Each atom of the set x has its column within so many words.
abbrev pub Reaches : ℕ → ℕ → ℕ → Type 0
Reaches stride x words = (a : ℕ) → has x a ≡ true → a * stride + stride ≤ words

abbrev pub mark_if : Bool → ℕ → ℕ → ℕ
mark_if wanted mark column = cond wanted (bit_or column mark) column

-- The columns of the atoms of x have the mark besides what they had, and the other columns are as they were.
pub record Entered (stride mark x : ℕ) (index index' : List ℕ) : Type 0 where
  pub columns : (a : ℕ) → a * stride + stride ≤ length index → set_of (row stride index' a) ≡ mark_if (has x a) mark (set_of (row stride index a))
