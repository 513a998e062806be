-- What the private functions of `hull` do, on numbers, for their contracts alone: no reader has to believe it, since the proofs lead
-- from it to `hull_of` and only the contract of `propose` is public.
use Rattle.std.specs.Prelude.{ℕ, zero, suc, ◌+◌, ◌-◌, ◌*◌, ◌/◌, ◌^◌, List, [], ◌∷◌, ◌++◌, Bool, true, false, cond, ◌&&◌, Option, Some, None, length, get_or, take, drop, replicate, eqb}
use Rattle.std.proofs.Math.Option as place
use Rattle.std.proofs.Math.Option.{none, some}
use Rattle.std.specs.Int.Bits.{bit_and, bit_xor}
use Rattle.std.specs.Int.Count.{ones}
use Rattle.words.specs.Set.{odd}
use Rattle.rows.specs.Flat.{mask_of}
use Rattle.hull.specs.Table.{Pattern}
use Rattle.hull.specs.Equations.{Pivots, pivots_from, rank}
use Rattle.hull.specs.Propose.{limit, padded}
use Rattle.hull.specs.declared.LocalEquation.{LocalEquation}
use Rattle.hull.specs.declared.Hull.{Hull}
use Rattle.hull.specs.declared.Basis.{Basis}

abbrev pub bit : Bool → ℕ
bit b = cond b 1 0

-- `enter`, at the positions from j on: the pivots, and whether one came to them.
unfoldable pub entered : ℕ → List ℕ → ℕ → List ℕ × Bool
entered j [] d = ([], false)
entered j (p ∷ ps) d =
    let has = eqb (bit_and (d / 2 ^ j) 1) 1 in
    let later = entered (suc j) ps (cond has (bit_xor d p) d) in
    cond (has && eqb p 0) (d ∷ ps, true) (p ∷ later.0, later.1)

-- `see`: the difference enters the pivots of k positions.
unfoldable pub seen : ℕ → Basis → ℕ → Basis
seen k s p =
    let e = entered 0 (take k s.pivots) (bit_xor s.anchor p) in
    record s { pivots = e.0 ++ drop k s.pivots; rank = s.rank + bit e.1; allowed = s.allowed + 1 }

-- The pivots as numbers: one from its own position on, with its bits in place, or 0; and 0 past the last of k positions.
abbrev pub headed : place.Option (List Bool) → List Bool
headed none = []
headed (some t) = true ∷ t

abbrev pub placed : ℕ → Pivots → List ℕ
placed j [] = []
placed j (s ∷ ss) = mask_of (headed s) * 2 ^ j ∷ placed (suc j) ss

abbrev pub array : ℕ → Pivots → List ℕ
array k ss = placed 0 ss ++ replicate (limit - k) 0

-- A basis of n allowed patterns, the first of them a.
abbrev pub basis : ℕ → Pattern → Pivots → ℕ → Basis
basis k a ss n = record { anchor = mask_of a; pivots = array k ss; rank = rank ss; allowed = n }

-- `span`: what all allowed patterns leave.
abbrev pub found : ℕ → List Pattern → Option Basis
found k [] = None
found k (a ∷ xs) = Some (basis k a (pivots_from a (replicate k none) xs) (suc (length xs)))

-- `equation`, at the positions below j.
unfoldable pub reach : List ℕ → ℕ → ℕ → ℕ
reach ps zero c = c
reach ps (suc j) c = reach ps j (bit_xor c (bit (odd (ones (bit_and c (get_or ps j 0)))) * 2 ^ j))

-- `equations`, at n positions from j on.
abbrev pub within : ℕ → ℕ → LocalEquation
within anchor c = record { coefficients = c; constant = odd (ones (bit_and c anchor)) }

unfoldable pub listed : ℕ → List ℕ → ℕ → ℕ → List LocalEquation
unfolding reach
listed anchor ps zero j = []
listed anchor ps (suc n) j =
    let later = listed anchor ps n (suc j) in
    cond (eqb (get_or ps j 0) 0) (within anchor (reach ps j (2 ^ j)) ∷ later) later

abbrev pub listing : ℕ → Basis → Hull
listing k s =
    let l = listed s.anchor s.pivots k 0 in
    record { equations = padded limit l; count = length l; exact = eqb s.allowed (2 ^ s.rank) }
