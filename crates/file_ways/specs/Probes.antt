-- Where a file has a record of kind 6: the line that is written there, and the ways that there are.
use Rattle.std.specs.Prelude.{ℕ, ◌-◌, ◌^◌, ◌≤◌, ◌≡◌, List, [], ◌∷◌, ◌++◌, true, false, Result, Ok}
use Rattle.rows.specs.Count.{count}
use Rattle.refusal.specs.declared.Refusal.{Refusal}
use Rattle.parity.specs.Prepare.{Lent, prepared as made}
use Rattle.parity.specs.declared.Prepared.{Prepared}
use Rattle.inspect.specs.Promises.{filled_by}
use Rattle.inspect.specs.Run.{Call, State, begins, after}
use Rattle.probe.specs.declared.Probed.{Probed}
use Rattle.ways.specs.Ways.{way, probed_after}
use Rattle.format.specs.Format.{kind_at}
use Rattle.format.specs.Starts.{starts}
use Rattle.records.specs.Check.{check_of}
use Rattle.records.specs.declared.Checked.{Checked}
use Rattle.load.specs.Parts.{parts_of}
use Rattle.load.specs.Load.{load_of}
use Rattle.lines.specs.Lines.{probe_line, calls_at, lines_from}
use Rattle.answer.specs.Text.{system_line, no_words, no_entries, memory_of, text_of}

-- The memory lent to preparation, with the rows of the file.
abbrev pub memory : List ℕ → Lent
memory file = let o = load_of file no_words no_entries in memory_of o.rows o.constants

-- A file, with the atoms and rows that the check found in it.
module _ (file : List ℕ) (c : Checked) where
  -- What preparation makes of it.
  abbrev pub prepared : Prepared × Lent
  prepared = made c.atoms c.rows (memory file)

  -- The calls of the records at some offsets, in order, and the lines that are written for them.
  abbrev pub calls_of : List ℕ → List Call
  calls_of [] = []
  calls_of (o ∷ os) = calls_at file prepared.0.system (filled_by prepared.1) o ++ calls_of os

  abbrev pub lines_of : State → List ℕ → List ℕ
  lines_of = lines_from file prepared.0.system (filled_by prepared.1)

  -- After the records at some offsets: region and knowledge, what the probe says, and how many ways there are. "A way agrees with every
  -- decision accepted from the caller in the list and meets every row and table as first handed in."
  abbrev pub state_after : List ℕ → State
  state_after os = after (begins c.atoms) (calls_of os)

  abbrev pub probed : List ℕ → Result Probed Refusal
  probed os = probed_after c.atoms c.rows (memory file) (calls_of os)

  abbrev pub ways_after : List ℕ → ℕ
  ways_after os = count c.atoms (way (parts_of file c.atoms) (begins c.atoms) (calls_of os))

-- In a file that is taken, at a record of kind 6: its line stands after those of the records before it, the probe is not refused, and where it
-- says yes, u and k there are 2^(u - k) ways, where it says no there is none.
abbrev pub ProbesCounted : Type 0
ProbesCounted = (file : List ℕ) (c : Checked) (before later : List ℕ) (o : ℕ) → check_of file ≡ Ok c → starts file 0 ≡ before ++ (o ∷ later) → kind_at file o ≡ 6
    → (q : Probed)
    × (text_of file
    ≡ (system_line (prepared file c).0 ++ lines_of file c (begins c.atoms) before)
    ++ (probe_line (Ok q) ++ lines_of file c (state_after file c before) later))
    × (probed file c before ≡ Ok q)
    × (q.yes ≡ true → (q.kept ≤ q.undecided) × (ways_after file c before ≡ 2 ^ (q.undecided - q.kept)))
    × (q.yes ≡ false → ways_after file c before ≡ 0)
