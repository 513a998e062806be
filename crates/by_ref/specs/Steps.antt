-- What the private functions of `by_ref` leave, for their contracts alone: no reader has to believe it.
use Rattle.std.specs.Prelude.{ℕ, take, drop}
use mathlib.Core.List.{List, ◌++◌, zip_with}
use Rattle.ffi.specs.declared.inspects.Inspection.{Inspection}
use Rattle.by_ref.specs.declared.Seen.{Seen}
use Rattle.by_ref.specs.declared.Forced.{Forced}

abbrev pub seen_of : Inspection → Seen
seen_of i = record { kind = i.kind; number = i.number; held = i.held; cut = i.cut; forced = i.forced; region = i.region }

-- The entries that two lists make.
abbrev pub entries : List ℕ → List ℕ → List Forced
entries atoms values = zip_with (λ (a v : ℕ). record { atom = a; value = v }) atoms values

-- A list whose first so many entries are written.
abbrev pub written : List ℕ → List ℕ → ℕ → List Forced → List Forced
written atoms values count list = entries (take count atoms) (take count values) ++ drop count list
