-- What the touched rows say against one region: "no open atom and wrong parity, Refuted, unpublished; one open atom, it and its value join
-- the forced list". Rows stand in basis order, and place a of a list of Bools is atom a.
use Rattle.std.specs.Prelude.{ℕ, zero, suc, Bool, true, false, cond, ◌&&◌, Option, Some, None, Result, Ok, Err}
use mathlib.Core.List.{List, [], ◌∷◌, zip_with}
use Rattle.std.specs.Bool.{xor, beq}
use Rattle.words.specs.Set.{odd}
use Rattle.rows.specs.Row.{Row, overlap}
use Rattle.echelon.specs.Forward.{low}
use Rattle.inspect.specs.declared.Forced.{Forced}
use Rattle.inspect.specs.declared.Wrong.{Wrong}

abbrev pub wrong : Wrong
wrong = record {}

-- What a row says: an atom with its value, nothing, or that its parity is wrong.
abbrev pub Reading : Type 0
Reading = Result (Option Forced) Wrong

-- A row by the number of its open atoms, the parity of its held ones, its constant, and its lowest open atom. A forced atom's value is the
-- one that the row is met with.
abbrev pub says_by : ℕ → Bool → Bool → ℕ → Reading
says_by zero parity constant atom = cond (beq parity constant) (Ok None) (Err wrong)
says_by (suc zero) parity constant atom = Ok (Some (record { atom = record { 0 = atom }; value = xor constant parity }))
says_by (suc (suc k)) parity constant atom = Ok None

-- What a row says where these atoms are held and those open.
unfoldable pub reading_of : List Bool → List Bool → Row → Reading
reading_of held free r =
    says_by (overlap r.atoms free) (odd (overlap r.atoms held)) r.constant (low (zip_with ◌&&◌ r.atoms free))

-- The forced list, atoms with their values in order, and whether no row was wrong.
pub record Consequences : Type 0 where
  pub forced : List (ℕ × Bool)
  pub sound : Bool

-- Rows after a wrong one are not read.
abbrev pub joins : Reading → Consequences → Consequences
joins (Ok None) rest = rest
joins (Ok (Some f)) rest = record { forced = (f.atom.0, f.value) ∷ rest.forced; sound = rest.sound }
joins (Err e) rest = record { forced = []; sound = false }

-- "Touched rows in ordinal order"
unfoldable pub consequences : List Bool → List Bool → List Bool → List Row → Consequences
unfolding reading_of
consequences held free [] rs = record { forced = []; sound = true }
consequences held free (t ∷ ts) [] = record { forced = []; sound = true }
consequences held free (t ∷ ts) (r ∷ rs) =
    cond t (joins (reading_of held free r) (consequences held free ts rs)) (consequences held free ts rs)
