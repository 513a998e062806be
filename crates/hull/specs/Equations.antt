-- The equations of the smallest affine set that holds some patterns of k bits. Document 01, Hull, sentence by sentence.
use Rattle.std.specs.Prelude.{ℕ, suc, ◌^◌, List, [], ◌∷◌, map, Bool, true, false, length, replicate, eqb}
use Rattle.std.proofs.Math.Option.{Option, none, some}
use Rattle.words.specs.Set.{odd}
use Rattle.rows.specs.Row.{Row, overlap, plus}
use Rattle.hull.specs.Table.{Pattern, allowed}

-- A place for each position, bit 0 first: `some t` is a pivot there, which has no bit below, this bit set, and the bits t above it.
abbrev pub Pivots : Type 0
Pivots = List (Option (List Bool))

-- A difference "is reduced at its set bits from bit 0 upward; at the first set position without a pivot it becomes that position's
-- pivot and stops."
unfoldable pub enter : Pivots → List Bool → Pivots
enter [] x = []
enter (s ∷ ss) [] = s ∷ ss
enter (s ∷ ss) (false ∷ x) = s ∷ enter ss x
enter (none ∷ ss) (true ∷ x) = some x ∷ ss
enter (some t ∷ ss) (true ∷ x) = some t ∷ enter ss (plus x t)

-- "Each allowed pattern XOR anchor" enters in turn.
unfoldable pub pivots_from : Pattern → Pivots → List Pattern → Pivots
unfolding enter
pivots_from anchor ss [] = ss
pivots_from anchor ss (x ∷ xs) = pivots_from anchor (enter ss (plus anchor x)) xs

abbrev pub rank : Pivots → ℕ
rank [] = 0
rank (none ∷ ss) = rank ss
rank (some t ∷ ss) = suc (rank ss)

abbrev pub zeros : ℕ → List Bool
zeros n = replicate n false

-- "Each position without a pivot, rising, yields one equation: that bit set, other non-pivot bits clear, even overlap with every pivot".
-- An equation of the positions above a pivot takes its bit exactly when the overlap above it is odd.
abbrev pub equations : Pivots → List (List Bool)
equations [] = []
equations (none ∷ ss) = (true ∷ zeros (length ss)) ∷ map (λ c. false ∷ c) (equations ss)
equations (some t ∷ ss) = map (λ c. odd (overlap c t) ∷ c) (equations ss)

-- "its constant is the anchor's parity over it."
abbrev pub through : Pattern → List Bool → Row
through anchor c = record { atoms = c; constant = odd (overlap c anchor) }

pub record Hulled : Type 0 where
  pub rows : List Row
  pub exact : Bool

-- "The first allowed pattern in rising order is the anchor." "Exact means allowed patterns = 2^rank".
-- "With none allowed: the single equation 0 = 1, exact."
unfoldable pub hull_from : ℕ → List Pattern → Hulled
unfolding pivots_from
hull_from k [] = record { rows = record { atoms = zeros k; constant = true } ∷ []; exact = true }
hull_from k (anchor ∷ xs) =
    let ss = pivots_from anchor (replicate k none) xs in
    record { rows = map (through anchor) (equations ss); exact = eqb (suc (length xs)) (2 ^ rank ss) }

-- The hull of a table of k atoms.
unfoldable pub hull_of : ℕ → List ℕ → Hulled
unfolding hull_from allowed
hull_of k words = hull_from k (allowed k words)
