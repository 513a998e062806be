-- The checks of a record's form: its length (1), its kind in the order of kinds (2) and the size of its body (3).
use Rattle.std.specs.Prelude.{ℕ, ◌+◌, ◌*◌, List, Bool, true, false, ◌&&◌, length, eqb, leb, Option, Some, None, Result, Ok, Err}
use Rattle.words.specs.Set.{odd}
use Rattle.hull.specs.Propose.{limit, table_words}
use Rattle.format.specs.declared.Kind.{Kind}
use Rattle.format.specs.declared.Kind.TheVariants.{Atoms, Row, Table, Decide, Inspect, Probe}
use Rattle.format.specs.declared.UnknownKind.{UnknownKind}
use Rattle.format.specs.Format.{length_at, body_at, end_at, k_at}
use Rattle.record.specs.Fault.{unless, ◌>>◌}
use Rattle.record.specs.declared.Fault.{Fault}
use Rattle.record.specs.declared.FaultKind.TheVariants.{Length, Order, Size, Range}
use Rattle.record.specs.declared.form.Group.{Group}
use Rattle.record.specs.declared.form.Group.TheVariants.{Count, Parts, Calls}

-- "1: under 2 bytes left for a length, length under 2, or past the end"
unfoldable pub length_check : List ℕ → ℕ → Result (Unit {0}) Fault
length_check file o = unless (leb (o + 2) (length file) && (leb 2 (length_at file o) && leb (end_at file o) (length file))) Length o

-- The group of a kind: "1 .. First, and just one." "Kinds 2 and 3 follow kind 1; kinds 4, 5, 6 follow those."
abbrev pub group_of : Kind → Group
group_of Atoms = Count
group_of Row = Parts
group_of Table = Parts
group_of Decide = Calls
group_of Inspect = Calls
group_of Probe = Calls

-- Whether a record of a group may follow one of another, or be the first, where none is before it.
abbrev pub follows : Option Group → Group → Bool
follows None Count = true
follows None Parts = false
follows None Calls = false
follows (Some before) Count = false
follows (Some Count) Parts = true
follows (Some Parts) Parts = true
follows (Some Calls) Parts = false
follows (Some before) Calls = true

-- "2: kind unknown or out of order": else the kind.
unfoldable pub kind_check : Option Group → Result Kind UnknownKind → ℕ → Result Kind Fault
kind_check before (Ok kind) o = unless (follows before (group_of kind)) Order o >> Ok kind
kind_check before (Err unknown) o = Err (record { kind = Order; offset = o })

-- The bytes of a table's body: k, the k atoms, and the words.
abbrev pub table_size : ℕ → ℕ
table_size k = 1 + k * 2 + table_words k * 8

-- "For kind 3: empty body 3, then k above 8 (4), then size 3"
unfoldable pub table_size_check : List ℕ → ℕ → Result (Unit {0}) Fault
table_size_check file o = do
  unless (leb 1 (body_at file o)) Size o
  unless (leb (k_at file o) limit) Range o
  unless (eqb (body_at file o) (table_size (k_at file o))) Size o

-- "3: body size unfit." Of the other bodies: n; a constant byte and atoms; an atom and a value byte; none.
unfoldable pub size_check : List ℕ → Kind → ℕ → Result (Unit {0}) Fault
size_check file Atoms o = unless (eqb (body_at file o) 2) Size o
size_check file Row o = unless (odd (body_at file o)) Size o
size_check file Table o = table_size_check file o
size_check file Decide o = unless (eqb (body_at file o) 3) Size o
size_check file Inspect o = unless (eqb (body_at file o) 0) Size o
size_check file Probe o = unless (eqb (body_at file o) 0) Size o
