-- How the answers of `words`, `rows`, `hull`, `index`, `parity`, `region`, `snapshot`, `inspect` and `probe` are told to C: one definition for each type.
-- The kinds: 0 an answer, with its value (of a yes or no: 1 or 0); 1 nothing there; 2 unfit, which is lengths that differ or a
-- row or mask that is not there; 3 more bits than a usize numbers. A kind other than 0 has the value 0. Decisions and inspections have kinds
-- of their own.
use Rattle.std.specs.Prelude.{ℕ, ◌*◌, List, Bool, false, cond, replicate, Option, Some, None, Result, Ok, Err}
use Rattle.std.specs.Result.{result_unwrap_or}
use Rattle.words.specs.declared.SetBits.{SetBits}
use Rattle.words.specs.declared.Unfit.{Unfit}
use Rattle.words.specs.declared.Unfit.TheVariants.{Unequal, TooWide}
use Rattle.rows.specs.declared.Atom.{Atom}
use Rattle.rows.specs.declared.Source.{Source}
use Rattle.rows.specs.declared.Ordinal.{Ordinal}
use Rattle.rows.specs.declared.Outside.{Outside}
use Rattle.rows.specs.Calls.{within}
use Rattle.refusal.specs.Refusal.{number_of, number_in, answered}
use Rattle.refusal.specs.declared.Refusal.{Refusal}
use Rattle.hull.specs.Propose.{blank}
use Rattle.hull.specs.declared.Hull.{Hull}
use Rattle.index.specs.Index.{column_width}
use Rattle.index.specs.Column.{column_check}
use Rattle.parity.specs.Prepare.{Lent}
use Rattle.parity.specs.declared.Prepared.{Prepared as Preparation}
use Rattle.region.specs.declared.Region.{Region}
use Rattle.region.specs.declared.Answer.{Answer as Deciding}
use Rattle.region.specs.declared.Answer.TheVariants.{Taken, Same, Against}
use Rattle.snapshot.specs.declared.Snapshot.{Snapshot}
use Rattle.snapshot.specs.declared.Ordinals.{Ordinals}
use Rattle.inspect.specs.Inspect.{Outcome}
use Rattle.inspect.specs.declared.Inspected.{Inspected}
use Rattle.inspect.specs.declared.NotInspected.{NotInspected}
use Rattle.inspect.specs.declared.Step.{Step as Inspecting}
use Rattle.inspect.specs.declared.Step.TheVariants.{Unchanged, Changed, Refuted}
use Rattle.probe.specs.declared.Probed.{Probed as Probing}
use Rattle.ffi.specs.declared.Answer.{Answer}
use Rattle.ffi.specs.declared.Step.{Step}
use Rattle.ffi.specs.declared.Span.{Span}
use Rattle.ffi.specs.declared.hulls.Proposal.{Proposal}
use Rattle.ffi.specs.declared.prepares.Prepared.{Prepared}
use Rattle.ffi.specs.declared.probes.Probed.{Probed}
use Rattle.ffi.specs.declared.inspects.NewRegion.{NewRegion}
use Rattle.ffi.specs.declared.inspects.Decision.{Decision}
use Rattle.ffi.specs.declared.inspects.Published.{Published}
use Rattle.ffi.specs.declared.inspects.Selected.{Selected}
use Rattle.ffi.specs.declared.inspects.Inspection.{Inspection}

abbrev pub answer : ℕ → ℕ → Answer
answer k v = record { kind = k; value = v }

-- ---- what C hands over as a number

abbrev pub set_bits : ℕ → SetBits
set_bits w = record { remaining = w }

abbrev pub row_number : ℕ → Source
row_number n = record { 0 = n }

abbrev pub basis_place : ℕ → Ordinal
basis_place n = record { 0 = n }

abbrev pub atom_number : ℕ → Atom
atom_number n = record { 0 = n }

-- ---- the answers of `words`

-- A step of a visit: the bit it gave, if one was left, and what is left then.
abbrev pub next_answer : Option ℕ × SetBits → Step
next_answer (Some b, rest) = record { kind = 0; bit = b; remaining = rest.remaining }
next_answer (None, rest) = record { kind = 1; bit = 0; remaining = 0 }

abbrev pub yes_answer : Bool → Answer
yes_answer b = answer 0 (cond b 1 0)

abbrev pub unfit_answer : Unfit → Answer
unfit_answer Unequal = answer 2 0
unfit_answer TooWide = answer 3 0

abbrev pub found_answer : Result (Option ℕ) Unfit → Answer
found_answer (Ok (Some a)) = answer 0 a
found_answer (Ok None) = answer 1 0
found_answer (Err e) = unfit_answer e

abbrev pub counted_answer : Result ℕ Unfit → Answer
counted_answer (Ok n) = answer 0 n
counted_answer (Err e) = unfit_answer e

abbrev pub verdict_answer : Result Bool Unfit → Answer
verdict_answer (Ok b) = yes_answer b
verdict_answer (Err e) = unfit_answer e

-- ---- the answers of `rows`

abbrev pub entry_answer : Option Source → Answer
entry_answer (Some s) = answer 0 s.0
entry_answer None = answer 1 0

abbrev pub lowest_answer : Result (Option Atom) Outside → Answer
lowest_answer (Ok (Some a)) = answer 0 a.0
lowest_answer (Ok None) = answer 1 0
lowest_answer (Err e) = answer 2 0

abbrev pub parity_answer : Result Bool Outside → Answer
parity_answer (Ok b) = yes_answer b
parity_answer (Err e) = answer 2 0

abbrev pub overlap_answer : Result ℕ Outside → Answer
overlap_answer (Ok n) = answer 0 n
overlap_answer (Err e) = answer 2 0

-- A start and a length with kind 0, or kind 2 where there are none.
abbrev pub span_answer : Option (ℕ × ℕ) → Span
span_answer (Some p) = record { kind = 0; start = p.0; length = p.1 }
span_answer None = record { kind = 2; start = 0; length = 0 }

-- Where a row lies among the words: kind 0 with its start and its length, or kind 2.
unfoldable pub span_of : ℕ → List ℕ → Source → Span
span_of w ws r =
    cond (within w ws r) (record { kind = 0; start = r.0 * w; length = w }) (record { kind = 2; start = 0; length = 0 })

-- Where an atom's column lies in the index: kind 0 with its start and its length, or kind 2 where it is refused.
unfoldable pub column_span_of : List ℕ → ℕ → ℕ → Atom → Span
column_span_of index n rank a =
    result_unwrap_or
    (answered (column_check index n rank a) (record { kind = 0; start = a.0 * column_width rank; length = column_width rank }))
    (record { kind = 2; start = 0; length = 0 })

-- ---- the answers that document 01's numbers refuse: "a refused call returns its number, 0 in every other field, and the region as passed"

abbrev pub proposal_answer : Result Hull Refusal → Proposal
proposal_answer (Ok h) = record { number = 0; hull = h }
proposal_answer (Err refusal) =
    record { number = number_of refusal; hull = record { equations = replicate 8 blank; count = 0; exact = false } }

abbrev pub prepared_told : Result Preparation Refusal → Prepared
prepared_told (Ok p) =
    record { number = 0; system = p.system; additions = p.additions; units = p.units; incidences = p.incidences }
prepared_told (Err refusal) = record {
  number = number_of refusal;
  system = record { atoms = 0; rows = 0; rank = 0; refuted = false };
  additions = 0;
  units = 0;
  incidences = 0;
}

-- A preparation's answer, beside the lent memory as it is then.
abbrev pub prepared_answer : Result Preparation Refusal × Lent → Prepared × Lent
prepared_answer (answer, left) = (prepared_told answer, left)

abbrev pub new_region_answer : Result Region Refusal → NewRegion
new_region_answer (Ok r) = record { number = 0; region = r }
new_region_answer (Err refusal) =
    record { number = number_of refusal; region = record { atoms = 0; held = replicate 8 0; cut = replicate 8 0 } }

abbrev pub decision_kind : Result Deciding Refusal → ℕ
decision_kind (Ok Taken) = 0
decision_kind (Ok Same) = 1
decision_kind (Ok Against) = 2
decision_kind (Err refusal) = 3

-- A decision's answer, and the region as it is then.
abbrev pub decided_answer : Result Deciding Refusal × Region → Decision
decided_answer (answer, r) = record { kind = decision_kind answer; number = number_in answer; region = r }

-- A publication's answer, and the knowledge as it is then.
abbrev pub published_answer : Result Unit Refusal × Snapshot → Published
published_answer (answer, known) = record { number = number_in answer; known = known }

abbrev pub selected_answer : Result Ordinals Refusal → Selected
selected_answer (Ok rows) = record { number = 0; rows = rows }
selected_answer (Err refusal) = record { number = number_of refusal; rows = record { words = replicate 8 0 } }

abbrev pub step_kind : Inspecting → ℕ
step_kind Unchanged = 0
step_kind Changed = 1
step_kind Refuted = 2

-- An inspection's answer, of the region and the knowledge that were passed.
abbrev pub inspected_answer : Region → Snapshot → Result Inspected Refusal → Inspection
inspected_answer r known (Ok i) =
    record { kind = step_kind i.answer; number = 0; held = i.held; cut = i.cut; forced = i.forced; region = i.region; known = i.known }
inspected_answer r known (Err refusal) =
    record { kind = 3; number = number_of refusal; held = 0; cut = 0; forced = 0; region = r; known = known }

-- An inspection's answer, by what the call hands back.
abbrev pub inspection_of : Result Inspected NotInspected → Inspection
inspection_of (Ok i) = inspected_answer i.region i.known (Ok i)
inspection_of (Err e) = inspected_answer e.region e.known (Err e.refusal)

-- An inspection's answer, beside the lent lists of forced atoms and values as they are then.
abbrev pub outcome_answer : Region → Snapshot → Outcome (Result Inspected Refusal) → Inspection × (List ℕ × List ℕ)
outcome_answer r known o = (inspected_answer r known o.result, (o.atoms, o.values))

abbrev pub probed_answer : Result Probing Refusal → Probed
probed_answer (Ok p) = record { number = 0; yes = p.yes; undecided = p.undecided; kept = p.kept }
probed_answer (Err refusal) = record { number = number_of refusal; yes = false; undecided = 0; kept = 0 }
