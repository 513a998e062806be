-- What the private functions of `inspect` ask and leave, for their contracts alone: no reader has to believe it, since `inspect` asks
-- nothing.
use Rattle.std.specs.Prelude.{ℕ, ◌+◌, ◌≤◌, ◌<◌, ◌≡◌, Bool, false, cond, ◌||◌, length, get_or, set, take, ltb, eqb, Option, Some, None, Result, Ok, Err}
use mathlib.Core.List.{List, [], ◌∷◌, map, zip_with}
use Rattle.words.specs.Set.{set_of}
use Rattle.rows.specs.Flat.{width_of, atoms_of, row_at}
use Rattle.rows.specs.Decisions.{Decisions}
use Rattle.region.specs.Masks.{is_held, is_open, region_of}
use Rattle.refusal.specs.Refusal.{checked}
use Rattle.refusal.specs.declared.Refusal.{Refusal}
use Rattle.refusal.specs.declared.Refusal.TheVariants.{Short, Overfull, Unequal, Missing}
use Rattle.parity.specs.declared.System.{System}
use Rattle.region.specs.Calls.{region_check, region_checks}
use Rattle.snapshot.specs.Knowledge.{overfull_by, unequal, missing}
use Rattle.snapshot.specs.declared.Snapshot.{Snapshot}
use Rattle.region.specs.declared.Region.{Region}
use Rattle.inspect.specs.declared.Forced.{Forced}
use Rattle.inspect.specs.declared.Contradiction.{Contradiction}
use Rattle.inspect.specs.declared.Masks.{Masks}
use Rattle.parity.specs.declared.basis.Basis.{Basis}
use Rattle.inspect.specs.declared.apply.Applied.{Applied}
use Rattle.inspect.specs.declared.apply.Tally.{Tally}
use Rattle.inspect.specs.Consequences.{Reading, reading_of, Consequences}
use Rattle.inspect.specs.Batch.{Batch, next}
use Rattle.inspect.specs.Inspect.{atoms_from, values_from}

-- The checks of a call that are left where the system and its memory pass `prepared_check`: 10, 9, 10 to 12 of the region, 15, 16.
unfoldable pub call_check : System → Region → Snapshot → ℕ → ℕ → Result Unit Refusal
call_check s r known atoms values =
    checked (
    (Overfull, overfull_by s r known) ∷
    (Short, ltb atoms s.rank || ltb values s.rank) ∷
    region_checks r ((Unequal, unequal s r known) ∷ (Missing, missing r known) ∷ []))

-- How long the forced list is after a row, and its atoms and values with what the row forces as entry `at`.
abbrev pub count_noted : Option Forced → ℕ → ℕ
count_noted None at = at
count_noted (Some f) at = at + 1

abbrev pub atoms_noted : Option Forced → ℕ → List ℕ → List ℕ
atoms_noted None at atoms = atoms
atoms_noted (Some f) at atoms = set atoms at f.atom.0

abbrev pub values_noted : Option Forced → ℕ → List ℕ → List ℕ
values_noted None at values = values
values_noted (Some f) at values = set values at (cond f.value 1 0)

-- The masks of the atoms that decisions hold, and leave open.
pub record Masked (n : ℕ) (p : Decisions) (held free : List ℕ) : Type 0 where
  pub held_are : map is_held p ≡ atoms_of n (set_of held)
  pub open_are : map is_open p ≡ atoms_of n (set_of free)

-- The row that a place of the basis names, read.
abbrev pub reading_at : Basis → Masks → ℕ → Reading
reading_at b m j =
    reading_of (atoms_of b.atoms (set_of m.held)) (atoms_of b.atoms (set_of m.free))
    (row_at b.atoms (width_of b.atoms) b.rows.now b.constants.now (get_or b.entries.now j 0))

-- What rows touched say, collected.
abbrev pub collected_of : Consequences → Result ℕ Contradiction
collected_of c = cond c.sound (Ok (length c.forced)) (Err (record { forced = length c.forced }))

-- The consequences, told and written into the lent lists.
pub record Gathered (c : Consequences) (r : Result ℕ Contradiction) (atoms values atoms' values' : List ℕ) : Type 0 where
  pub is : r ≡ collected_of c
  pub atoms_are : atoms' ≡ atoms_from c.forced atoms
  pub values_are : values' ≡ values_from c.forced values

-- The list that the first so many entries hold.
abbrev pub forced_in : List ℕ → List ℕ → ℕ → List (ℕ × Bool)
forced_in atoms values count = zip_with (λ (a v : ℕ). (a, eqb v 1)) (take count atoms) (take count values)

-- A forced list that can be applied to a region: its entries lie within the lent lists, and its atoms are the region's.
pub record Applicable (r : Region) (forced : ℕ) (atoms values : List ℕ) : Type 0 where
  pub fit : region_check r ≡ Ok tt
  pub few : forced ≤ 512
  pub atoms_room : forced ≤ length atoms
  pub values_room : forced ≤ length values
  pub below : (i : ℕ) → i < forced → get_or atoms i 0 < r.atoms

-- A batch in words.
abbrev pub applied_of : Batch → Applied
applied_of b = record { region = region_of b.decisions; tally = record { held = b.held; cut = b.cut; against = b.against } }

-- The same by the masks of n atoms and the counts.
abbrev pub tallied : ℕ → List ℕ → List ℕ → Tally → Applied
tallied n held cut t = record { region = record { atoms = n; held = held; cut = cut }; tally = t }

-- An atom can be forced on a batch: it is one of its up to 512 atoms, and none before was against.
pub record Forcible (b : Batch) (a : ℕ) : Type 0 where
  pub few : length b.decisions ≤ 512
  pub below : a < length b.decisions
  pub going : b.against ≡ false

-- What forcing atom a to v makes of masks and counts: they stand for the next batch, if they stood for one.
abbrev pub Forcing : ℕ → Bool → (held cut : List ℕ) → Tally → (held' cut' : List ℕ) → Tally → Type 0
Forcing a v held cut t held' cut' t' =
    (n : ℕ) (b : Batch) → Forcible b a → tallied n held cut t ≡ applied_of b → tallied n held' cut' t' ≡ applied_of (next b (a, v))
