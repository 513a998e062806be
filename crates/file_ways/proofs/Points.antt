-- The text of a file, cut at a record.
use Prim.Native.Nat.{ℕ}
use mathlib.Core.Path.{◌≡◌, refl, sym, ap, ap₂, ◌∙◌}
use mathlib.Core.List.{List, [], ◌∷◌, ◌++◌, append_assoc}
use native.Mathlib.Omega.{arith}
use Rattle.std.proofs.Common.{Ok}
use borrow.Author.Tests.{eq-eqb, ne_eqb}
use Rattle.parity.proofs.Refit.{prepare_fits}
use Rattle.inspect.specs.Promises.{filled_by}
use Rattle.inspect.specs.Run.{Call, State, begins, after}
use Rattle.inspect.proofs.Runs.{after_append}
use Rattle.ways.proofs.Settling.{ways_counted}
use Rattle.format.specs.Format.{kind_at}
use Rattle.format.specs.Starts.{starts}
use Rattle.records.specs.Check.{check_of}
use Rattle.records.specs.declared.Checked.{Checked}
use Rattle.load.specs.Parts.{parts_of}
use Rattle.lines.specs.Lines.{probe_line, calls_at, line_at, lines_from}
use Rattle.answer.specs.Text.{system_line, answers_of, told, text_of}
use Rattle.answer.proofs.Taken.{rows_taken}
use Rattle.file_ways.specs.Probes.{memory, prepared, calls_of, lines_of, state_after, probed, ProbesCounted}
use Rattle.file_ways.proofs.Settings.{setting}

module _ (file : List ℕ) (c : Checked) where
  line : State → ℕ → List ℕ
  line = line_at file (prepared file c).0.system (filled_by (prepared file c).1)

  calls : ℕ → List Call
  calls = calls_at file (prepared file c).0.system (filled_by (prepared file c).1)

  -- the lines before a record, its own and those after it
  cut_at : (before : List ℕ) (o : ℕ) (later : List ℕ) (st : State)
      → let here = after st (calls_of file c before) in
      lines_of file c st (before ++ (o ∷ later)) ≡ lines_of file c st before ++ (line here o ++ lines_of file c (after here (calls o)) later)
  unfolding lines_from line calls
  cut_at [] o later st = refl
  cut_at (b ∷ before) o later st =
      let on = after st (calls b) in
      ap (λ (l : List ℕ). line st b ++ l)
      (cut_at before o later on
      ∙ ap (λ (here : State). lines_of file c on before ++ (line here o ++ lines_of file c (after here (calls o)) later)) (sym (after_append st (calls b) (calls_of file c before))))
      ∙ sym (append_assoc (line st b) (lines_of file c on before) _)

  -- a probe's record
  module _ (o : ℕ) (six : kind_at file o ≡ 6) (st : State) where
    probe_calls : after st (calls o) ≡ st
    unfolding calls calls_at
    probe_calls = rw (ne_eqb (kind_at file o) 4 (λ n. omega arith), ne_eqb (kind_at file o) 5 (λ n. omega arith))

  probe_line_lem : (before : List ℕ) (o : ℕ) → kind_at file o ≡ 6 → line (state_after file c before) o ≡ probe_line (probed file c before)
  unfolding line line_at
  probe_line_lem before o six =
      rw (ne_eqb (kind_at file o) 4 (λ n. omega arith), ne_eqb (kind_at file o) 5 (λ n. omega arith), eq-eqb (kind_at file o) 6 six)

  -- the text as far as it is lines
  text_is : check_of file ≡ Ok c → text_of file ≡ system_line (prepared file c).0 ++ lines_of file c (begins c.atoms) (starts file 0)
  unfolding text_of answers_of
  text_is taken =
      let n = c.atoms in
      let m = c.rows in
      ap (told file) taken
      ∙ (ap (λ (k : ℕ). system_line (prepared file c).0 ++ lines_of file c (begins k) (starts file 0)) (prepare_fits n m (memory file) (rows_taken file c taken)).atoms)

pub probes_counted : ProbesCounted
unfolding line calls
probes_counted file c before later o taken at six =
    let n = c.atoms in
    let here = state_after file c before in
    let counted = ways_counted n c.rows (parts_of file c.atoms) (memory file) (calls_of file c before) (setting file c before taken) in (
      counted.0,
      text_is file c taken
          ∙ ap (λ (os : List ℕ). system_line (prepared file c).0 ++ lines_of file c (begins n) os) at
          ∙ ap (λ (l : List ℕ). system_line (prepared file c).0 ++ l)
          (cut_at file c before o later (begins n)
          ∙ ap₂ (λ (l : List ℕ) (st : State). lines_of file c (begins n) before ++ (l ++ lines_of file c st later)) (probe_line_lem file c before o six ∙ ap probe_line counted.1) (probe_calls file c o six here))
          ∙ sym (append_assoc (system_line (prepared file c).0) (lines_of file c (begins n) before) _),
      counted.1,
      counted.3,
      counted.4,
    )
