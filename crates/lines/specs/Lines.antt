-- "Each record of kind 4 to 6 then adds its line, over one region that begins undecided and one knowledge that begins fresh."
use Rattle.std.specs.Prelude.{ℕ, List, [], ◌∷◌, ◌++◌, false, cond, replicate, eqb, Result, Ok, Err}
use Rattle.rows.specs.declared.Atom.{Atom}
use Rattle.refusal.specs.declared.Refusal.{Refusal}
use Rattle.fit.specs.Rows.{limit}
use Rattle.parity.specs.declared.System.{System}
use Rattle.region.specs.Calls.{hold_of, cut_of}
use Rattle.region.specs.declared.Answer.{Answer}
use Rattle.inspect.specs.Inspect.{Filled, inspect_of}
use Rattle.inspect.specs.Run.{Call, hold, cut, inspect, State, after}
use Rattle.inspect.specs.declared.Inspected.{Inspected}
use Rattle.probe.specs.Probe.{probe_of}
use Rattle.probe.specs.declared.Probed.{Probed}
use Rattle.format.specs.Format.{kind_at, decided_at, value_at}
use Rattle.text.specs.Text.{two_of}
use Rattle.lines.specs.Words.{bytes, space, newline, answer_word, step_word, probe_word}

-- "Fields: .. yes or no, u, k; atom, value, answer; answer, held, cut." A refused probe says no, a refused decision or inspection `refused`, and
-- u, k, held and cut are then 0.
abbrev pub probe_line : Result Probed Refusal → List ℕ
probe_line (Ok q) = two_of (probe_word q.yes) q.undecided space q.kept newline
probe_line (Err refusal) = two_of (probe_word false) 0 space 0 newline

abbrev pub decide_line : ℕ → ℕ → Result Answer Refusal → List ℕ
decide_line atom value answer = two_of (bytes "decide ") atom space value (answer_word answer)

abbrev pub inspect_line : Result Inspected Refusal → List ℕ
inspect_line (Ok i) = two_of (step_word i.answer) i.held space i.cut newline
inspect_line (Err refusal) = two_of (bytes "inspect refused ") 0 space 0 newline

-- The line of a call that finds a region and a knowledge.
abbrev pub call_line : State → Call → List ℕ
call_line st (hold a) = decide_line a.0 1 (hold_of st.region a).0
call_line st (cut a) = decide_line a.0 0 (cut_of st.region a).0
call_line st (inspect s l atoms values) = inspect_line (inspect_of s l st.region st.known atoms values).result

-- "4, a decision: atom, value byte 0 or 1": true is held, false cut.
abbrev pub decision_at : List ℕ → ℕ → Call
decision_at file o = let a : Atom = record { 0 = decided_at file o } in cond (eqb (value_at file o) 1) (hold a) (cut a)

-- An inspection is lent a forced list of 512 entries. (Zeros here: what it holds has no part in a line, nor in what a call leaves.)
abbrev pub inspection : System → Filled → Call
inspection s l = inspect s l (replicate limit 0) (replicate limit 0)

-- The calls of a file's records are lent one system and the memory that preparation filled.
module _ (file : List ℕ) (s : System) (l : Filled) where
  -- The call of the record at an offset: a probe alters nothing.
  unfoldable pub calls_at : ℕ → List Call
  calls_at o = cond (eqb (kind_at file o) 4) (decision_at file o ∷ []) (cond (eqb (kind_at file o) 5) (inspection s l ∷ []) [])

  -- Its line.
  unfoldable pub line_at : State → ℕ → List ℕ
  line_at st o =
      cond (eqb (kind_at file o) 4) (call_line st (decision_at file o))
      (cond (eqb (kind_at file o) 5) (call_line st (inspection s l))
      (cond (eqb (kind_at file o) 6) (probe_line (probe_of s l.rows l.constants l.basis st.region)) []))

  -- The lines of the records at some offsets, one after another.
  unfoldable pub lines_from : State → List ℕ → List ℕ
  lines_from st [] = []
  lines_from st (o ∷ os) = line_at st o ++ lines_from (after st (calls_at o)) os
