-- What `prepare` answers and leaves in the memory lent to it, for fit and unfit input.
use Rattle.std.specs.Prelude.{ℕ, ◌*◌, min, List, [], ◌∷◌, ◌++◌, Bool, true, false, ◌||◌, length, take, drop, ltb, Result}
use Rattle.rows.specs.Flat.{width_of}
use Rattle.refusal.specs.Refusal.{checked, answered, left}
use Rattle.refusal.specs.declared.Refusal.{Refusal}
use Rattle.refusal.specs.declared.Refusal.TheVariants.{Short, Overfull, Stray}
use Rattle.fit.specs.Rows.{overfull, short, strays}
use Rattle.echelon.specs.Forward.{eliminated}
use Rattle.echelon.specs.Eliminate.{Outcome, rows_to, written}
use Rattle.echelon.specs.declared.Eliminated.{Eliminated}
use Rattle.index.specs.Index.{column_width, index_of, incidences_of}
use Rattle.parity.specs.Basis.{basis_of, units_of, unit_atoms_of, unit_values_of}
use Rattle.parity.specs.declared.Prepared.{Prepared}

-- The memory lent to preparation.
pub record Lent : Type 0 where
  pub rows : List ℕ
  pub constants : List ℕ
  pub basis : List ℕ
  pub unit_atoms : List ℕ
  pub unit_values : List ℕ
  pub index : List ℕ

abbrev pub lent : List ℕ → List ℕ → List ℕ → List ℕ → List ℕ → List ℕ → Lent
lent ws cs ps atoms values index =
    record { rows = ws; constants = cs; basis = ps; unit_atoms = atoms; unit_values = values; index = index }

-- "9: a lent buffer too short. For m rows: .. basis and units min(m, n) entries; index n columns, at preparation for a rank of min(m, n)",
-- by the lengths of basis, units' atoms, units' values and index.
abbrev pub lists_short : ℕ → ℕ → ℕ → ℕ → ℕ → ℕ → Bool
lists_short n m basis atoms values index =
    ltb basis (min m n) || (ltb atoms (min m n) || (ltb values (min m n) || ltb index (n * column_width (min m n))))

-- The checks in their order: 10, 9, 11.
unfoldable pub prepare_check : ℕ → ℕ → Lent → Result Unit Refusal
prepare_check n m l =
    checked (
    (Overfull, overfull n m) ∷
    (Short, short n m l.rows l.constants || lists_short n m (length l.basis) (length l.unit_atoms) (length l.unit_values) (length l.index)) ∷
    (Stray, strays n (width_of n) l.rows l.constants m) ∷
    [])

-- A result by its fields: atoms, rows, rank, refuted, additions, units, incidences.
abbrev pub told_of : ℕ → ℕ → ℕ → Bool → ℕ → ℕ → ℕ → Prepared
told_of atoms rows rank refuted additions units incidences = record {
  system = record { atoms = atoms; rows = rows; rank = rank; refuted = refuted };
  additions = additions;
  units = units;
  incidences = incidences;
}

-- "A row left empty with constant 1 ends preparation as refuted: basis and counts so far stand, units and index are not written and their
-- counts are 0. Otherwise units are the basis rows of one atom, in basis order, and the index follows." And "words and entries past those
-- named are untouched".
abbrev pub followed : Bool → ℕ → ℕ → Lent → Outcome Eliminated → Prepared × Lent
followed true n m l o = (
  told_of n m o.result.rank true o.result.additions 0 0,
  lent o.rows o.constants o.basis l.unit_atoms l.unit_values l.index,
)
followed false n m l o =
    let rank = o.result.rank in
    let rs = basis_of n o.rows o.constants (take rank o.basis) in
    let units = length (units_of rs) in
    let width = column_width rank in (
      told_of n m rank false o.result.additions units (incidences_of rs n),
      lent o.rows o.constants o.basis (unit_atoms_of rs ++ drop units l.unit_atoms) (unit_values_of rs ++ drop units l.unit_values)
          (index_of width rs n ++ drop (n * width) l.index),
    )

-- What preparation makes of fit input: the answer, and the memory as it leaves it.
unfoldable pub prepared : ℕ → ℕ → Lent → Prepared × Lent
prepared n m l =
    let st = eliminated n (rows_to n (width_of n) l.rows l.constants m) in
    followed st.refuted n m l (written (width_of n) st l.rows l.constants l.basis)

-- A refused call leaves all lent memory as it was.
unfoldable pub prepare_of : ℕ → ℕ → Lent → Result Prepared Refusal × Lent
prepare_of n m l =
    let check = prepare_check n m l in
    let p = prepared n m l in
    (answered check p.0, left check p.1 l)
