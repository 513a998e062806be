-- The small settled examples of document 01 marked [t]: one table of questions with their answers, and one statement over the definitions.
use Rattle.std.specs.Prelude.{ℕ, ◌≡◌, List, [], ◌∷◌, map, Bool, true, false, cond, length, replicate, Result, Ok, Err}
use Rattle.std.proofs.Math.Option.{Option, none, some}
use Rattle.rows.specs.Row.{Row}
use Rattle.rows.specs.Decisions.{Decisions}
use Rattle.rows.specs.Flat.{mask_of}
use Rattle.hull.specs.Equations.{hull_of}
use Rattle.refusal.specs.declared.Refusal.{Refusal}
use Rattle.parity.specs.Prepare.{Lent, lent, prepare_of}
use Rattle.parity.specs.declared.Prepared.{Prepared}
use Rattle.region.specs.Masks.{decisions}
use Rattle.snapshot.specs.Promises.{old_decisions}
use Rattle.inspect.specs.Inspect.{inspect_of}
use Rattle.inspect.specs.Run.{hold, State, begins, after}
use Rattle.inspect.specs.Promises.{filled_by}
use Rattle.inspect.specs.declared.Inspected.{Inspected}
use Rattle.inspect.specs.declared.Step.{Step}
use Rattle.inspect.specs.declared.Step.TheVariants.{Refuted}
use Rattle.probe.specs.Probe.{probe_of}
use Rattle.probe.specs.declared.Probed.{Probed}

pub data Question : Type 0 where
  table : ℕ → ℕ → Question  -- a table of k atoms by its first word
  system : ℕ → List (ℕ × ℕ) → Question  -- rows over n atoms, each by its set and its constant
  inspection : ℕ → List (ℕ × ℕ) → List ℕ → Question  -- such a system, inspected when these atoms are held
  probing : ℕ → List (ℕ × ℕ) → List ℕ → Question  -- and probed

pub data Answer : Type 0 where
  equations : List (ℕ × Bool) → Bool → Answer  -- coefficients and constant of each, and whether the table is exact
  prepared : Bool → ℕ → ℕ → Answer  -- whether the system is refuted, its rank, and the additions
  inspected : Step → ℕ → ℕ → ℕ → Decisions → Option Decisions → Answer  -- the answer, held, cut, forced, the decisions then and those known
  probed : Bool → ℕ → ℕ → Answer  -- yes or no, u and k
  refused : Refusal → Answer  -- and no example is

abbrev pub examples : List (Question × Answer)
examples =
    (table 0 0, equations [] true)  -- "k=0, allowed: no equation, exact."
    ∷ (table 0 1, equations ((0, true) ∷ []) true)  -- "k=0, forbidden: 0 = 1, exact."
    ∷ (table 1 1, equations ((1, true) ∷ []) true)  -- "k=1, word 1: coefficients 1, constant 1, exact."
    ∷ (table 2 9, equations ((3, true) ∷ []) true)  -- "k=2, word 9: coefficients 3, constant 1, exact."
    ∷ (table 2 8, equations [] false)  -- "Word 8: none, not exact."
    ∷ (table 3 255, equations ((0, true) ∷ []) true)  -- "k=3, word 255: 0 = 1."
    ∷ (system 1 ((1, 1) ∷ (1, 0) ∷ []), prepared true 1 1)  -- "{0}=1, {0}=0: refuted, rank 1, 1 addition."
    ∷ (system 0 ((0, 1) ∷ []), prepared true 0 0)  -- "{}=1: refuted, rank 0."
    ∷ (system 0 [], prepared false 0 0)  -- "No rows, n=0: sound
    ∷ (probing 0 [] [], probed true 0 0)  -- .. probe yes 0 0."
    ∷ (system 3 ((3, 1) ∷ (6, 1) ∷ (5, 1) ∷ []), prepared true 2 2)  -- "{0,1}=1, {1,2}=1, {0,2}=1: refuted, 2 additions."
    ∷ (probing 2 ((3, 1) ∷ []) (0 ∷ 1 ∷ []), probed false 0 0)  -- "{0,1}=1, both held: probe no, k=0."
    -- "{0,2}=0, {1,2}=1, 0 and 1 held: inspect Refuted, 2 held, published with 2 open."
    ∷ (inspection 3 ((5, 0) ∷ (6, 1) ∷ []) (0 ∷ 1 ∷ []), inspected Refuted 1 0 2 (some true ∷ some true ∷ some true ∷ []) (some (some true ∷ some true ∷ none ∷ [])))
    ∷ []

-- The rows prepared, with room for eight entries in each list.
abbrev pub prepares : ℕ → List (ℕ × ℕ) → Result Prepared Refusal × Lent
prepares n rows =
    let room : List ℕ = replicate 8 0 in
    prepare_of n (length rows) (lent (map (λ (r : ℕ × ℕ). r.0) rows) (map (λ (r : ℕ × ℕ). r.1) rows) room room room room)

-- Region and knowledge when atoms were held.
abbrev pub holding : ℕ → List ℕ → State
holding n held = after (begins n) (map (λ (a : ℕ). hold (record { 0 = a })) held)

-- What follows of a call's answer, or its refusal.
abbrev pub told : {A : Type 0} → Result A Refusal → (A → Answer) → Answer
told (Ok answer) f = f answer
told (Err refusal) f = refused refusal

abbrev pub answered : Question → Answer
answered (table k word) =
    let h = hull_of k (word ∷ 0 ∷ []) in
    equations (map (λ (r : Row). (mask_of r.atoms, r.constant)) h.rows) h.exact
answered (system n rows) =
    told (prepares n rows).0 (λ (q : Prepared). prepared q.system.refuted q.system.rank q.additions)
answered (inspection n rows held) =
    let p = prepares n rows in
    let st = holding n held in
    let room : List ℕ = replicate 8 0 in
    told p.0 (λ (q : Prepared). told (inspect_of q.system (filled_by p.1) st.region st.known room room).result (λ (o : Inspected).
    inspected o.answer o.held o.cut o.forced (decisions o.region) (cond o.known.initialized (some (old_decisions o.known)) none)))
answered (probing n rows held) =
    let p = prepares n rows in
    told p.0 (λ (q : Prepared). told (probe_of q.system p.1.rows p.1.constants p.1.basis (holding n held).region) (λ (o : Probed).
    probed o.yes o.undecided o.kept))

-- Every example has the answer of the definitions.
abbrev pub Settled : Type 0
Settled = map (λ (e : Question × Answer). answered e.0) examples ≡ map (λ (e : Question × Answer). e.1) examples
