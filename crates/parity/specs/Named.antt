-- What is known of the basis rows of a prepared system, wherever they are lent as one value (`Basis`).
use Rattle.std.specs.Prelude.{ℕ, ◌+◌, ◌*◌, ◌^◌, ◌≤◌, ◌<◌, length, get_or, List}
use Rattle.words.specs.Set.{set_of}
use Rattle.rows.specs.Flat.{width_of, row}

-- Row s lies within the lent memory and is fit.
pub record Legible (n : ℕ) (ws cs : List ℕ) (s : ℕ) : Type 0 where
  pub atoms : n ≤ 512
  pub words : s * width_of n + width_of n ≤ length ws
  pub constants : s < length cs
  pub below : set_of (row (width_of n) ws s) < 2 ^ n
  pub constant : get_or cs s 0 < 2

-- Each entry of a basis below the rank names such a row.
pub record Named (n rank : ℕ) (ws cs ps : List ℕ) : Type 0 where
  pub ranked : rank ≤ 512
  pub entries : rank ≤ length ps
  pub legible : (j : ℕ) → j < rank → Legible n ws cs (get_or ps j 0)
