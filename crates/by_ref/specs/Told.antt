-- What stands behind the references at exit, put together with what is returned: the answer of the by-value call.
use Rattle.std.specs.Prelude.{ℕ}
use Rattle.snapshot.specs.declared.Snapshot.{Snapshot}
use Rattle.ffi.specs.declared.inspects.Published.{Published}
use Rattle.ffi.specs.declared.inspects.Inspection.{Inspection}
use Rattle.by_ref.specs.declared.Seen.{Seen}
use Rattle.by_ref.specs.declared.Forced.{Forced}

-- "Publishing overwrites the knowledge in the very record that was passed": the number that is returned, and that record.
abbrev pub publication : ℕ → Snapshot → Published
publication number known = record { number = number; known = known }

-- The same of an inspection.
abbrev pub joined : Seen → Snapshot → Inspection
joined s known =
    record { kind = s.kind; number = s.number; held = s.held; cut = s.cut; forced = s.forced; region = s.region; known = known }

-- "the forced list, which the caller lends, one atom and one value an entry": its atoms and its values are the two lists of an inspection.
abbrev pub atom_of : Forced → ℕ
atom_of f = f.atom

abbrev pub value_of : Forced → ℕ
value_of f = f.value
