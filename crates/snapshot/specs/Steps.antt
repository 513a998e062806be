-- What the private functions of `snapshot` leave, for their contracts alone: no reader has to believe it.
use Rattle.std.specs.Prelude.{ℕ, ◌/◌, ◌<◌, ◌≡◌, List, Bool, ◌||◌, length}
use Rattle.words.specs.Set.{set_of, has}

-- A set of rows with those of a test added, as far as the words for them go.
abbrev pub Adds : List ℕ → (ℕ → Bool) → List ℕ → Type 0
Adds ws more ws' = (j : ℕ) → j / 64 < length ws → has (set_of ws') j ≡ (has (set_of ws) j || more j)
