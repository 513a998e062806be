-- One basis row, and a visit of all in order.
use Rattle.std.specs.Prelude.{ℕ, ◌+◌, ◌≤◌, ◌<◌, ◌≡◌, get_or, Option, MatchOption}
use Rattle.rows.specs.Flat.{width_of, row}
use Rattle.parity.specs.declared.basis.Basis.{Basis}
use Rattle.parity.specs.declared.basis.BasisRow.{BasisRow}
use Rattle.parity.specs.declared.visit.BasisRows.{BasisRows}

-- A row lent by itself is that of ordinal j.
pub record IsRow (b : Basis) (j : ℕ) (r : BasisRow) : Type 0 where
  pub ordinal : r.ordinal.0 ≡ j
  pub words : r.words.now ≡ row (width_of b.atoms) b.rows.now (get_or b.entries.now j 0)
  pub constant : r.constant ≡ get_or b.constants.now (get_or b.entries.now j 0) 0

-- A visit of the basis gives the row of the next ordinal below the rank.
abbrev pub NextRow : BasisRows → Option BasisRow → BasisRows → Type 0
NextRow s r t =
    (t.basis ≡ s.basis)
    × MatchOption r (s.basis.rank ≤ s.next) (λ x. (s.next < s.basis.rank) × IsRow s.basis s.next x × (t.next ≡ s.next + 1))
