-- No call of a file that is taken is refused: its decisions name atoms below n, and its inspections are lent what preparation filled.
use Prim.Native.Nat.{ℕ, ◌≤◌, ◌<◌}
use mathlib.Core.Path.{◌≡◌, refl, subst}
use mathlib.Core.List.{List, [], ◌∷◌, ◌++◌}
use mathlib.Core.Bool.{Bool, true, false, cond}
use native.Mathlib.Omega.{arith}
use borrow.Author.Tests.{eqb-true}
use lib.ListN.{length-replicate}
use lib.Dec.{eqb}
use Rattle.std.proofs.Common.{Ok}
use Rattle.parity.proofs.Refit.{prepare_fits}
use Rattle.inspect.specs.Promises.{filled_by}
use Rattle.inspect.specs.Run.{Call, State, begins, after}
use Rattle.inspect.proofs.Runs.{after_append, never_refused}
use Rattle.format.specs.Format.{kind_at, value_at, decided_at}
use Rattle.format.specs.Starts.{starts}
use Rattle.records.specs.Promises.{RecordsFit}
use Rattle.records.specs.Check.{check_of}
use Rattle.records.specs.declared.Checked.{Checked}
use Rattle.records.proofs.Whole.{file_fit, file_within}
use Rattle.lines.specs.Lines.{decision_at, inspection, calls_at}
use Rattle.answer.proofs.Choices.{chosen}
use Rattle.answer.proofs.Taken.{rows_taken}
use Rattle.file_ways.specs.Probes.{memory, prepared, calls_of}
use Rattle.file_ways.specs.Calls.{call_number, AllAnswered, CallsAnswered}

module _ (file : List ℕ) (c : Checked) (taken : check_of file ≡ Ok c) where
  n : ℕ
  n = c.atoms

  inspects : Call
  inspects = inspection (prepared file c).0.system (filled_by (prepared file c).1)

  -- after any calls
  module _ (cs : List Call) where
    here : State
    here = after (begins n) cs

    decision : (o : ℕ) → decided_at file o < n → call_number here (decision_at file o) ≡ 0
    unfolding n here
    decision o below =
        let told = (never_refused n c.rows (memory file) cs (rows_taken file c taken)).0 (record { 0 = decided_at file o }) below in
        chosen (λ (call : Call). call_number here call ≡ 0) (eqb (value_at file o) 1) told.0 told.1

    inspected : call_number here inspects ≡ 0
    unfolding n here inspects
    inspected =
        let fits = prepare_fits n c.rows (memory file) (rows_taken file c taken) in
        let enough : (prepared file c).0.system.rank ≤ 512 = omega (arith, fits.ranked, (file_within file c taken).0) in
        (never_refused n c.rows (memory file) cs (rows_taken file c taken)).1 _ _
        (omega (arith, enough, length-replicate {A = ℕ} 512 0)) (omega (arith, enough, length-replicate {A = ℕ} 512 0))

  -- the records at some offsets, after any calls
  answered : (os : List ℕ) → RecordsFit file n os → (cs : List Call) → AllAnswered (after (begins n) cs) (calls_of file c os)
  unfolding calls_at n here inspects
  answered [] fit cs = tt
  answered (o ∷ os) fit cs = go (eqb (kind_at file o) 4) (eqb (kind_at file o) 5) (answered os fit.1) refl
    where
      Rest : Type 0
      Rest = (ds : List Call) → AllAnswered (after (begins n) ds) (calls_of file c os)

      on : Rest → (call : Call) → call_number (after (begins n) cs) call ≡ 0 → AllAnswered (after (begins n) cs) (call ∷ calls_of file c os)
      on rest call zero = (zero, subst (λ (st : State). AllAnswered st (calls_of file c os)) (after_append (begins n) cs (call ∷ [])) (rest (cs ++ (call ∷ []))))

      go : (t u : Bool) → Rest → eqb (kind_at file o) 4 ≡ t
          → AllAnswered (after (begins n) cs) (cond t (decision_at file o ∷ []) (cond u (inspects ∷ []) []) ++ calls_of file c os)
      go true u rest four = on rest (decision_at file o) (decision cs o (fit.0.decision (eqb-true (kind_at file o) 4 four)).0)
      go false true rest four = on rest inspects (inspected cs)
      go false false rest four = rest cs

pub calls_answered : CallsAnswered
unfolding n
calls_answered file c taken = answered file c taken (starts file 0) (file_fit file c taken) []
