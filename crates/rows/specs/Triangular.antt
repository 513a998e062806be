-- Rows in triangular form, as elimination leaves them: the newest row first, each with a pivot, an undecided atom that it has and
-- that no newer row has. Document 01: "Each row kept so far, in order, is added where the new row has its lowest atom."
use Rattle.std.specs.Prelude.{ℕ, ◌≡◌, List, [], ◌∷◌, true, false, get_or}
use Rattle.std.proofs.Math.Option.{none, some}
use Rattle.rows.specs.Row.{Row, has_atom}
use Rattle.rows.specs.Decisions.{Decisions}

-- Atom a exists and is undecided.
abbrev pub Open : Decisions → ℕ → Type 0
Open p a = get_or p a (some false) ≡ none

abbrev pub HasNone : Row → List ℕ → Type 0
HasNone r [] = Unit {0}
HasNone r (a ∷ ps) = (has_atom r a ≡ false) × HasNone r ps

-- The pivots ps of the rows rs, over the decisions p.
abbrev pub Triangular : Decisions → List ℕ → List Row → Type 0
Triangular p [] [] = Unit {0}
Triangular p [] (r ∷ rs) = ⊥
Triangular p (a ∷ ps) [] = ⊥
Triangular p (a ∷ ps) (r ∷ rs) = Open p a × (has_atom r a ≡ true) × HasNone r ps × Triangular p ps rs
