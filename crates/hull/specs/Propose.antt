-- What `propose` answers, for fit and unfit tables, with the limit of k as a parameter.
use Rattle.std.specs.Prelude.{ℕ, ◌+◌, ◌-◌, ◌*◌, ◌/◌, ◌^◌, List, [], ◌∷◌, ◌++◌, map, false, not, ◌&&◌, length, replicate, eqb, leb, Result}
use Rattle.rows.specs.Row.{Row}
use Rattle.rows.specs.Flat.{mask_of}
use Rattle.refusal.specs.Refusal.{checked, answered}
use Rattle.refusal.specs.declared.Refusal.{Refusal}
use Rattle.refusal.specs.declared.Refusal.TheVariants.{Table}
use Rattle.hull.specs.Equations.{Hulled, hull_of}
use Rattle.hull.specs.declared.LocalEquation.{LocalEquation}
use Rattle.hull.specs.declared.Hull.{Hull}

-- "k 0 to 8"
abbrev pub limit : ℕ
limit = 8

-- "2·ceil(2^k/128) words"
abbrev pub table_words : ℕ → ℕ
table_words k = (2 ^ k + 127) / 128 * 2

-- "17: k above 8, or wrong table length"
unfoldable pub propose_check : ℕ → ℕ → List ℕ → Result Unit Refusal
propose_check most k words = checked ((Table, not (leb k most && eqb (length words) (table_words k))) ∷ [])

abbrev pub local : Row → LocalEquation
local r = record { coefficients = mask_of r.atoms; constant = r.constant }

abbrev pub blank : LocalEquation
blank = record { coefficients = 0; constant = false }

-- "Unused equation places hold 0."
abbrev pub padded : ℕ → List LocalEquation → List LocalEquation
padded most l = l ++ replicate (most - length l) blank

abbrev pub told : ℕ → Hulled → Hull
told most h = record { equations = padded most (map local h.rows); count = length h.rows; exact = h.exact }

unfoldable pub proposal_of : ℕ → ℕ → List ℕ → Result Hull Refusal
unfolding propose_check
proposal_of most k words = answered (propose_check most k words) (told most (hull_of k words))
