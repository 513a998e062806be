-- The theorem of `by_ref`, as a statement; src/promises.rt holds it.
use Rattle.std.specs.Prelude.{◌≡◌, List, map}
use Rattle.by_ref.specs.Told.{atom_of, value_of}
use Rattle.by_ref.specs.declared.Forced.{Forced}

-- Its atoms and its values settle a list of entries: so the equation of `worzubil_inspect_list` is one of the whole list.
abbrev pub EntriesSettle : Type 0
EntriesSettle = (xs ys : List Forced) → map atom_of xs ≡ map atom_of ys → map value_of xs ≡ map value_of ys → xs ≡ ys
