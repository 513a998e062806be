-- The index of document 01: a column of bits for each atom. Here rows stand in basis order, so that place j is ordinal j.
use Rattle.std.specs.Prelude.{ℕ, zero, suc, ◌+◌, ◌*◌, ◌/◌, List, [], ◌++◌, map, Bool}
use Rattle.rows.specs.Row.{Row, has_atom, overlap}
use Rattle.rows.specs.Flat.{mask_of, unpack}

-- "Columns of 2·ceil(rank/128) words"
abbrev pub column_width : ℕ → ℕ
column_width rank = (rank + 127) / 128 * 2

-- "bit j of atom a's column is set when basis row j has a"
abbrev pub column_of : List Row → ℕ → List Bool
column_of rs a = map (λ (r : Row). has_atom r a) rs

-- The columns of the first n atoms, of w words each.
unfoldable pub index_of : ℕ → List Row → ℕ → List ℕ
index_of w rs zero = []
index_of w rs (suc n) = index_of w rs n ++ unpack 64 w (mask_of (column_of rs n))

-- How many atoms a set has.
abbrev pub size : List Bool → ℕ
size r = overlap r r

-- "Incidences count set bits."
unfoldable pub incidences_of : List Row → ℕ → ℕ
incidences_of rs zero = 0
incidences_of rs (suc n) = incidences_of rs n + size (column_of rs n)
