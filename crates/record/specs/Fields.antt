-- The checks of a record's fields: numbers within their bounds (4), and a table's atoms rising (5).
use Rattle.std.specs.Prelude.{ℕ, suc, List, [], ◌∷◌, Bool, true, cond, ◌&&◌, leb, ltb, Result, Ok}
use Rattle.fit.specs.Rows.{limit}
use Rattle.format.specs.declared.Kind.{Kind}
use Rattle.format.specs.declared.Kind.TheVariants.{Atoms, Row, Table, Decide, Inspect, Probe}
use Rattle.format.specs.Format.{count_at, constant_at, row_atoms, table_atoms, decided_at, value_at}
use Rattle.record.specs.Fault.{unless, ◌>>◌}
use Rattle.record.specs.declared.Fault.{Fault}
use Rattle.record.specs.declared.FaultKind.TheVariants.{Range, Rising}

-- How many atoms at the head of a list are below n.
unfoldable pub good_atoms : ℕ → List ℕ → ℕ
good_atoms n [] = 0
good_atoms n (a ∷ atoms) = cond (ltb a n) (suc (good_atoms n atoms)) 0

-- How many atoms at the head of a list rise strictly, the first being at least `from`.
unfoldable pub rising_atoms : ℕ → List ℕ → ℕ
rising_atoms from [] = 0
rising_atoms from (a ∷ atoms) = cond (leb from a) (suc (rising_atoms (suc a) atoms)) 0

-- Whether all atoms are below n.
unfoldable pub all_below : ℕ → List ℕ → Bool
all_below n [] = true
all_below n (a ∷ atoms) = ltb a n && all_below n atoms

-- Whether they rise strictly, the first being at least `from`.
unfoldable pub rises : ℕ → List ℕ → Bool
rises from [] = true
rises from (a ∷ atoms) = leb from a && rises (suc a) atoms

-- "4: n above 512, atom not below n, constant or value above 1"
unfoldable pub range_check : List ℕ → Kind → ℕ → ℕ → Result (Unit {0}) Fault
range_check file Atoms n o = unless (leb (count_at file o) limit) Range o
range_check file Row n o = do
  unless (leb (constant_at file o) 1) Range o
  unless (all_below n (row_atoms file o)) Range o
range_check file Table n o = unless (all_below n (table_atoms file o)) Range o
range_check file Decide n o = do
  unless (ltb (decided_at file o) n) Range o
  unless (leb (value_at file o) 1) Range o
range_check file Inspect n o = Ok tt
range_check file Probe n o = Ok tt

-- "5: a table's atoms not rising"
unfoldable pub rising_check : List ℕ → Kind → ℕ → Result (Unit {0}) Fault
rising_check file Table o = unless (rises 0 (table_atoms file o)) Rising o
rising_check file Atoms o = Ok tt
rising_check file Row o = Ok tt
rising_check file Decide o = Ok tt
rising_check file Inspect o = Ok tt
rising_check file Probe o = Ok tt
