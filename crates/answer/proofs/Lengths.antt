-- How long each line is: 32 bytes for a call's, 64 for the first.
use Prim.Native.Nat.{ℕ, zero, suc, ◌+◌, ◌*◌, ◌-◌, ◌≤◌, ◌<◌}
use mathlib.Core.Path.{◌≡◌, refl, ap, subst, ◌∙◌}
use mathlib.Core.List.{List, [], ◌++◌}
use mathlib.Core.Bool.{Bool, true, false, cond, ◌&&◌}
use native.Mathlib.Decide.{dec_le}
use native.Mathlib.Omega.{arith}
use borrow.Author.Tests.{leb-true, eqb-true}
use lib.ListN.{length, length-append, replicate}
use lib.Dec.{eqb, leb}
use Rattle.std.proofs.lemmas.Bool.{and_parts}
use Rattle.refusal.specs.declared.Refusal.{Refusal}
use Rattle.fit.specs.Rows.{limit}
use Rattle.parity.specs.declared.System.{System}
use Rattle.parity.specs.declared.Prepared.{Prepared}
use Rattle.region.specs.Calls.{hold_of, cut_of}
use Rattle.region.specs.declared.Region.{Region}
use Rattle.region.specs.declared.Answer.{Answer}
use Rattle.region.specs.declared.Answer.TheVariants.{Taken, Same, Against}
use Rattle.snapshot.specs.declared.Snapshot.{Snapshot}
use Rattle.inspect.specs.Inspect.{Filled, inspect_check, inspected, inspect_of}
use Rattle.inspect.specs.Run.{Call, State, after}
use Rattle.inspect.specs.declared.Inspected.{Inspected}
use Rattle.inspect.specs.declared.Step.{Step}
use Rattle.inspect.specs.declared.Step.TheVariants.{Unchanged, Changed, Refuted}
use Rattle.probe.specs.Probe.{probe_check, probed, probe_of}
use Rattle.probe.specs.declared.Probed.{Probed}
use Rattle.format.specs.Format.{length_at, end_at, next_at, kind_at, decided_at, value_at}
use Rattle.format.specs.Starts.{starts}
use Rattle.format.proofs.Offsets.{starts_cons}
use Rattle.std.proofs.Common.{Result, Ok, Err}
use Rattle.record.specs.Fault.{fault_number}
use Rattle.record.specs.Form.{length_check}
use Rattle.record.specs.declared.Fault.{Fault}
use Rattle.record.specs.declared.FaultKind.{FaultKind}
use Rattle.record.specs.declared.FaultKind.TheVariants.{Length, Order, Size, Range, Rising, Inexact, Rows, TooLong}
use Rattle.records.specs.Check.{check_from}
use Rattle.records.specs.declared.Seen.{Seen}
use Rattle.records.specs.declared.Checked.{Checked}
use Rattle.record.proofs.Chain.{holds}
use Rattle.records.proofs.Passed.{Passed, record_fit, atoms_within}
use Rattle.records.proofs.Whole.{turned}
use Rattle.text.specs.Text.{two_of}
use Rattle.lines.specs.Words.{bytes, space, newline, answer_word, step_word, probe_word}
use Rattle.lines.specs.Lines.{probe_line, decide_line, inspect_line, call_line, decision_at, inspection, calls_at, line_at, lines_from}
use Rattle.lines.proofs.Onwards.{lines_more, lines_end}
use Rattle.answer.specs.Text.{refused_line, sound_word, system_line}
use Rattle.answer.proofs.Choices.{chosen, of_answered}
use Rattle.answer.proofs.Digits.{one_digit, three_digits, five_digits, six_digits, two_long}
use Rattle.answer.proofs.Small.{Counted, inspected_small, Sized, probed_small}
use Rattle.answer.proofs.Systems.{Bounded}

answer_short : (a : Result Answer Refusal) → length (answer_word a) ≤ 9
answer_short (Ok Taken) = omega arith
answer_short (Ok Same) = omega arith
answer_short (Ok Against) = omega arith
answer_short (Err refusal) = omega arith

step_short : (s : Step) → length (step_word s) ≤ 18
step_short Unchanged = omega arith
step_short Changed = omega arith
step_short Refuted = omega arith

probe_short : (t : Bool) → length (probe_word t) ≤ 10
probe_short true = omega arith
probe_short false = omega arith

sound_short : (t : Bool) → length (sound_word t) ≤ 9
sound_short true = omega arith
sound_short false = omega arith

decide_long : (a v : ℕ) (answer : Result Answer Refusal) → a < 1000 → v < 10 → length (decide_line a v answer) ≤ 32
decide_long a v answer small bit =
    omega (arith, two_long (bytes "decide ") space (answer_word answer) a v 3 1 (three_digits a small) (one_digit v bit), answer_short answer)

inspected_long : (i : Inspected) → Counted 512 i → length (inspect_line (Ok i)) ≤ 32
inspected_long i c =
    omega (arith, two_long (step_word i.answer) space newline i.held i.cut 3 3 (three_digits _ (omega (arith, c.held))) (three_digits _ (omega (arith, c.cut))), step_short i.answer)

inspect_long : (s : System) (l : Filled) (r : Region) (known : Snapshot) (atoms values : List ℕ) → length (inspect_line (inspect_of s l r known atoms values).result) ≤ 32
unfolding inspect_of
inspect_long s l r known atoms values =
    of_answered (λ q. length (inspect_line q) ≤ 32) (inspect_check s l r known (length atoms) (length values))
    (λ fit. inspected_long (inspected s l r known atoms values).result (inspected_small s l r known atoms values fit))
    (λ e. omega (arith, two_long (bytes "inspect refused ") space newline 0 0 1 1 (one_digit 0 (omega arith)) (one_digit 0 (omega arith))))

probed_long : (q : Probed) → Sized 512 q → length (probe_line (Ok q)) ≤ 32
probed_long q c =
    omega (arith, two_long (probe_word q.yes) space newline q.undecided q.kept 3 3 (three_digits _ (omega (arith, c.open_few))) (three_digits _ (omega (arith, c.kept_small))), probe_short q.yes)

probe_long : (s : System) (ws cs ps : List ℕ) (r : Region) → length (probe_line (probe_of s ws cs ps r)) ≤ 32
unfolding probe_of
probe_long s ws cs ps r =
    of_answered (λ q. length (probe_line q) ≤ 32) (probe_check s ws cs ps r)
    (λ fit. probed_long (probed s ws cs ps r) (probed_small s ws cs ps r fit))
    (λ e. omega (arith, two_long (probe_word false) space newline 0 0 1 1 (one_digit 0 (omega arith)) (one_digit 0 (omega arith))))

fault_small : (kind : FaultKind) → fault_number kind < 10
fault_small Length = omega arith
fault_small Order = omega arith
fault_small Size = omega arith
fault_small Range = omega arith
fault_small Rising = omega arith
fault_small Inexact = omega arith
fault_small Rows = omega arith
fault_small TooLong = omega arith

pub refused_long : (fault : Fault) → fault.offset ≤ 65536 → length (refused_line (fault_number fault.kind) fault.offset) ≤ 64
refused_long fault near =
    let number = fault_number fault.kind in
    omega (arith, two_long (bytes "refused ") (bytes " at ") newline number fault.offset 1 5 (one_digit number (fault_small fault.kind)) (five_digits fault.offset (omega arith)))

pub system_long : (p : Prepared) → Bounded p → length (system_line p) ≤ 64
system_long p b =
    let first = two_of (bytes "system ") p.system.atoms space p.system.rows space in
    let second = two_of [] p.system.rank space p.additions space in
    let third = two_of [] p.units space p.incidences (sound_word p.system.refuted) in
    let i : length first ≤ 7 + 3 + 1 + 3 + 1 =
    two_long (bytes "system ") space space p.system.atoms p.system.rows 3 3 (three_digits _ (omega (arith, b.atoms))) (three_digits _ (omega (arith, b.rows))) in
    let j : length second ≤ 0 + 3 + 1 + 6 + 1 =
    two_long [] space space p.system.rank p.additions 3 6 (three_digits _ (omega (arith, b.rank))) (six_digits _ (omega (arith, b.additions))) in
    let k : length third ≤ 0 + 3 + 1 + 6 + length (sound_word p.system.refuted) =
    two_long [] space (sound_word p.system.refuted) p.units p.incidences 3 6 (three_digits _ (omega (arith, b.units))) (six_digits _ (omega (arith, b.incidences))) in
    omega (arith, length-append first (second ++ third), length-append second third, i, j, k, sound_short p.system.refuted)

-- a record takes four bytes, and its line 32
module _ (file : List ℕ) (s : System) (f : Filled) where
  four_bytes : (o : ℕ) → length_check file o ≡ Ok tt → o + 4 ≤ next_at file o
  unfolding length_check
  four_bytes o e =
      let t = and_parts (leb (o + 2) (length file)) (leb 2 (length_at file o) && leb (end_at file o) (length file)) (holds _ Length o e) in
      let u = and_parts (leb 2 (length_at file o)) (leb (end_at file o) (length file)) t.1 in
      omega (arith, leb-true 2 (length_at file o) u.0, leb-true (end_at file o) (length file) u.1)

  line_long : (st : State) (seen : Seen) (o : ℕ) {next : Seen} → seen.atoms ≤ limit → Passed file seen o next → length (line_at file s f st o) ≤ 32
  unfolding line_at
  line_long st seen o few p = go (eqb (kind_at file o) 4) refl
    where
      go : (t : Bool) → eqb (kind_at file o) 4 ≡ t
          → length (cond t (call_line st (decision_at file o))
          (cond (eqb (kind_at file o) 5) (call_line st (inspection s f))
          (cond (eqb (kind_at file o) 6) (probe_line (probe_of s f.rows f.constants f.basis st.region)) []))) ≤ 32
      go true e =
          let atom = ((record_fit p).decision (eqb-true _ _ e)).0 in
          chosen (λ (call : Call). length (call_line st call) ≤ 32) (eqb (value_at file o) 1)
          (decide_long (decided_at file o) 1 (hold_of st.region (record { 0 = decided_at file o })).0 (omega (arith, atom)) (omega arith))
          (decide_long (decided_at file o) 0 (cut_of st.region (record { 0 = decided_at file o })).0 (omega (arith, atom)) (omega arith))
      go false e =
          chosen (λ (l : List ℕ). length l ≤ 32) (eqb (kind_at file o) 5)
          (inspect_long s f st.region st.known (replicate limit 0) (replicate limit 0))
          (chosen (λ (l : List ℕ). length l ≤ 32) (eqb (kind_at file o) 6)
          (probe_long s f.rows f.constants f.basis st.region)
          (omega arith))

  pub lines_long : (c : Checked) (fuel o : ℕ) (st : State) (seen : Seen) → length file ≤ o + fuel → seen.atoms ≤ limit → check_from file seen (starts file o) ≡ Ok c
      → length (lines_from file s f st (starts file o)) ≤ (length file - o) * 8
  lines_long c zero o st seen h few e = omega (arith, ap length (lines_end file s f st o (omega arith)))
  lines_long c (suc fuel) o st seen h few e = by (dec_le (length file) o) (lines_long c fuel)
    where
      by : Dec (length file ≤ o)
          → ((o : ℕ) (st : State) (seen : Seen) → length file ≤ o + fuel → seen.atoms ≤ limit → check_from file seen (starts file o) ≡ Ok c
          → length (lines_from file s f st (starts file o)) ≤ (length file - o) * 8)
          → length (lines_from file s f st (starts file o)) ≤ (length file - o) * 8
      by (yes past) rest = omega (arith, ap length (lines_end file s f st o past))
      by (no z) rest =
          let within : o < length file = omega arith in
          let next = next_at file o in
          let t = turned file seen o (starts file next) c (subst (λ (os : List ℕ). check_from file seen os ≡ Ok c) (starts_cons file o within) e) in
          let on = four_bytes o t.fit.framed in
          let line = line_at file s f st o in
          let left = lines_from file s f (after st (calls_at file s f o)) (starts file next) in
          omega (
            arith,
            ap length (lines_more file s f st o within) ∙ length-append line left,
            line_long st seen o few t.fit,
            on,
            rest next (after st (calls_at file s f o)) t.next (omega (arith, on)) (atoms_within t.fit few) t.rest,
          )
