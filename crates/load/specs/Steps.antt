-- What the private functions of `load` ask and do, for their contracts alone.
use Rattle.std.specs.Prelude.{ℕ, ◌+◌, ◌*◌, ◌≤◌, ◌≡◌, List, [], ◌∷◌, reverse, length}
use Rattle.std.proofs.lemmas.List.Edits.{sets}
use Rattle.words.specs.Calls.{inserted}
use Rattle.rows.specs.Row.{Row}
use Rattle.rows.specs.Flat.{width_of}
use Rattle.echelon.specs.Eliminate.{words_of, constants_of}
use Rattle.load.specs.declared.Filling.{Filling}

-- The atoms named, inserted one after another.
unfoldable pub inserted_all : List ℕ → List ℕ → List ℕ
inserted_all [] ws = ws
inserted_all (a ∷ atoms) ws = inserted_all atoms (inserted ws a)

-- There is room for some rows from row `at` on.
pub record Room (w : ℕ) (rs : List Row) (ws cs : List ℕ) (at : ℕ) : Type 0 where
  pub words : (at + length rs) * w ≤ length ws
  pub constants : at + length rs ≤ length cs

-- They are written there, all else as it was, and `next` is the row after them.
pub record Loaded (w : ℕ) (rs : List Row) (ws cs : List ℕ) (at : ℕ) (ws' cs' : List ℕ) (next : ℕ) : Type 0 where
  pub place : next ≡ at + length rs
  pub words : ws' ≡ sets ws (at * w) (words_of w (reverse rs))
  pub constants : cs' ≡ sets cs at (constants_of (reverse rs))

-- The same of memory that is filled; it is still the same memory, for rows over as many atoms.
abbrev pub RoomFor : Filling → List Row → Type 0
RoomFor t rs = Room (width_of t.atoms) rs t.words.now t.constants.now t.next

pub record Adds (t : Filling) (rs : List Row) (u : Filling) : Type 0 where
  pub same_words : u.words.ghost_name ≡ t.words.ghost_name
  pub same_constants : u.constants.ghost_name ≡ t.constants.ghost_name
  pub atoms : u.atoms ≡ t.atoms
  pub loaded : Loaded (width_of t.atoms) rs t.words.now t.constants.now t.next u.words.now u.constants.now u.next
