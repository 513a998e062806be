-- A region's words, and the decisions that they stand for: "Region. n, held and cut masks."
use Rattle.std.specs.Prelude.{ℕ, Bool, true, false, length}
use mathlib.Core.List.{map, zip_with}
use Rattle.std.proofs.Math.Option.{Option, none, some}
use Rattle.words.specs.Set.{set_of}
use Rattle.rows.specs.Decisions.{Decisions}
use Rattle.rows.specs.Flat.{atoms_of, mask_of, unpack}
use Rattle.region.specs.declared.Region.{Region}

-- What is decided of one atom, by whether it is held and whether it is cut.
abbrev pub decision : Bool → Bool → Option Bool
decision true cut = some true
decision false true = some false
decision false false = none

-- The decisions on n atoms of which those in one set are held and those in the other cut.
unfoldable pub decisions_of : ℕ → ℕ → ℕ → Decisions
decisions_of n held cut = zip_with decision (atoms_of n held) (atoms_of n cut)

abbrev pub decisions : Region → Decisions
decisions r = decisions_of r.atoms (set_of r.held) (set_of r.cut)

abbrev pub is_held : Option Bool → Bool
is_held none = false
is_held (some b) = b

abbrev pub is_cut : Option Bool → Bool
is_cut none = false
is_cut (some true) = false
is_cut (some false) = true

abbrev pub is_open : Option Bool → Bool
is_open none = true
is_open (some b) = false

-- And back: the region of up to 512 atoms on which this is decided.
unfoldable pub region_of : Decisions → Region
region_of p = record { atoms = length p; held = unpack 64 8 (mask_of (map is_held p)); cut = unpack 64 8 (mask_of (map is_cut p)) }
