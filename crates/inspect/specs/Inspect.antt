-- What `inspect` answers and leaves in the two lists lent to it, for fit and unfit input.
use Rattle.std.specs.Prelude.{ℕ, ◌+◌, ◌*◌, min, List, [], ◌∷◌, ◌++◌, map, Bool, true, false, cond, not, ◌&&◌, ◌||◌, length, take, drop, ltb, eqb, Result, Ok, Err}
use Rattle.rows.specs.Flat.{width_of}
use Rattle.refusal.specs.Refusal.{checked, answered, left}
use Rattle.refusal.specs.declared.Refusal.{Refusal}
use Rattle.refusal.specs.declared.Refusal.TheVariants.{Short, Overfull, Stray, Clash, Basis, Index, Unequal, Missing}
use Rattle.fit.specs.Rows.{short, strays, misnames}
use Rattle.index.specs.Index.{column_width}
use Rattle.index.specs.Column.{over_rank}
use Rattle.parity.specs.Basis.{basis_of}
use Rattle.parity.specs.declared.System.{System}
use Rattle.region.specs.Masks.{decisions, region_of, is_held, is_open}
use Rattle.region.specs.Calls.{strayed, clashes}
use Rattle.region.specs.declared.Region.{Region}
use Rattle.snapshot.specs.Knowledge.{published, overfull_by, unequal, missing}
use Rattle.snapshot.specs.Touch.{touched_of}
use Rattle.snapshot.specs.declared.Snapshot.{Snapshot}
use Rattle.inspect.specs.Consequences.{Consequences, consequences}
use Rattle.inspect.specs.Batch.{Batch, begun, applied}
use Rattle.inspect.specs.declared.Inspected.{Inspected}
use Rattle.inspect.specs.declared.NotInspected.{NotInspected}
use Rattle.inspect.specs.declared.Step.{Step}
use Rattle.inspect.specs.declared.Step.TheVariants.{Unchanged, Changed, Refuted}

abbrev pub is_refuted : Step → Bool
is_refuted Unchanged = false
is_refuted Changed = false
is_refuted Refuted = true

-- Whether an inspection refutes; one that is refused does not.
abbrev pub refutes : Result Inspected Refusal → Bool
refutes (Ok inspected) = is_refuted inspected.answer
refutes (Err refusal) = false

-- Region and knowledge after an inspection: where it is refused, as passed.
abbrev pub region_in : Region → Result Inspected Refusal → Region
region_in r (Ok inspected) = inspected.region
region_in r (Err refusal) = r

abbrev pub known_in : Snapshot → Result Inspected Refusal → Snapshot
known_in known (Ok inspected) = inspected.known
known_in known (Err refusal) = known

-- The memory that preparation filled and that is lent to be read.
pub record Filled : Type 0 where
  pub rows : List ℕ
  pub constants : List ℕ
  pub basis : List ℕ
  pub index : List ℕ

abbrev pub filled : List ℕ → List ℕ → List ℕ → List ℕ → Filled
filled ws cs ps index = record { rows = ws; constants = cs; basis = ps; index = index }

-- "9: a lent buffer too short. For m rows: m·W row words, m constants, basis .. min(m, n) entries; index n columns ..; forced list rank
-- entries", by the lengths of basis, index, forced atoms and forced values.
abbrev pub lists_short : System → ℕ → ℕ → ℕ → ℕ → Bool
lists_short s basis index atoms values =
    ltb basis (min s.rows s.atoms)
    || (ltb index (s.atoms * column_width s.rank) || (ltb atoms s.rank || ltb values s.rank))

-- The checks in their order: 10, 13 for the rank, 9, 11, 12, 13, 14 ("not checked where the system is refuted"), 15, 16.
unfoldable pub inspect_check : System → Filled → Region → Snapshot → ℕ → ℕ → Result Unit Refusal
inspect_check s l r known atoms values =
    checked (
    (Overfull, overfull_by s r known) ∷
    (Basis, ltb (min s.rows s.atoms) s.rank) ∷
    (Short, short s.atoms s.rows l.rows l.constants || lists_short s (length l.basis) (length l.index) atoms values) ∷
    (Stray, strays s.atoms (width_of s.atoms) l.rows l.constants s.rows || strayed r) ∷
    (Clash, clashes r) ∷
    (Basis, misnames s.rows l.basis s.rank) ∷
    (Index, not s.refuted && over_rank s.rank (column_width s.rank) l.index s.atoms) ∷
    (Unequal, unequal s r known) ∷
    (Missing, missing r known) ∷
    [])

-- A result by its fields: answer, held, cut, forced, region, knowledge.
abbrev pub told_of : Step → ℕ → ℕ → ℕ → Region → Snapshot → Inspected
told_of answer held cut forced r known =
    record { answer = answer; held = held; cut = cut; forced = forced; region = r; known = known }

-- The result, and what the lent lists of forced atoms and values hold.
pub record Outcome (R : Type 0) : Type 0 where
  pub result : R
  pub atoms : List ℕ
  pub values : List ℕ

abbrev pub outcome : {R : Type 0} → R → List ℕ → List ℕ → Outcome R
outcome result atoms values = record { result = result; atoms = atoms; values = values }

-- An answer without the region and the knowledge that a refused call hands back.
abbrev pub told : Result Inspected NotInspected → Result Inspected Refusal
told (Ok i) = Ok i
told (Err e) = Err e.refusal

-- "its count is in the result, and entries past it are untouched"
abbrev pub atoms_from : List (ℕ × Bool) → List ℕ → List ℕ
atoms_from fs atoms = map (λ (f : ℕ × Bool). f.0) fs ++ drop (length fs) atoms

abbrev pub values_from : List (ℕ × Bool) → List ℕ → List ℕ
values_from fs values = map (λ (f : ℕ × Bool). cond f.1 1 0) fs ++ drop (length fs) values

-- "Changed if any was decided", by how many were held and cut and whether an atom was decided otherwise
abbrev pub answer_of : ℕ → ℕ → Bool → Step
answer_of held cut against = cond against Refuted (cond (eqb (held + cut) 0) Unchanged Changed)

-- "Then publish the region as it came, and apply the list in order": what a list of so many entries, applied, comes to.
abbrev pub ended : Batch → ℕ → Region → Inspected
ended b forced r = told_of (answer_of b.held b.cut b.against) b.held b.cut forced (region_of b.decisions) (published r)

-- "no open atom and wrong parity, Refuted, unpublished". (Where no row is touched the list is empty: "publish, Unchanged".)
abbrev pub concluded : Consequences → Region → Snapshot → Inspected
concluded c r known =
    cond c.sound (ended (applied (begun (decisions r)) c.forced) (length c.forced) r)
    (told_of Refuted 0 0 (length c.forced) r known)

-- What the touched basis rows say against the region as it came.
abbrev pub found : System → Filled → Region → Snapshot → Consequences
found s l r known =
    let p = decisions r in
    consequences (map is_held p) (map is_open p) (touched_of s.rank l.index r known)
    (basis_of s.atoms l.rows l.constants (take s.rank l.basis))

-- "refuted system, Refuted; empty basis, Unchanged; neither publishes"
abbrev pub inspected : System → Filled → Region → Snapshot → List ℕ → List ℕ → Outcome Inspected
inspected s l r known atoms values =
    let c = found s l r known in
    cond s.refuted (outcome (told_of Refuted 0 0 0 r known) atoms values)
    (cond (eqb s.rank 0) (outcome (told_of Unchanged 0 0 0 r known) atoms values)
    (outcome (concluded c r known) (atoms_from c.forced atoms) (values_from c.forced values)))

-- A refused call leaves the lists as they were.
unfoldable pub inspect_of : System → Filled → Region → Snapshot → List ℕ → List ℕ → Outcome (Result Inspected Refusal)
inspect_of s l r known atoms values =
    let check = inspect_check s l r known (length atoms) (length values) in
    let o = inspected s l r known atoms values in
    outcome (answered check o.result) (left check o.atoms atoms) (left check o.values values)
