-- A file that is taken has demand 3's setting: its rows are handed in, preparation takes them, and its inspections are lent what that filled.
use Prim.Native.Nat.{ℕ}
use mathlib.Core.Path.{◌≡◌, refl}
use mathlib.Core.List.{List, [], ◌∷◌, ◌++◌}
use mathlib.Core.Bool.{Bool, true, false, cond}
use lib.Dec.{eqb}
use Rattle.std.proofs.Common.{Ok}
use Rattle.inspect.specs.Promises.{filled_by}
use Rattle.inspect.specs.Run.{State, begins, step, hold, cut}
use Rattle.ways.specs.Ways.{Lends, LendsAll, Setting}
use Rattle.format.specs.Format.{kind_at, value_at, decided_at}
use Rattle.records.specs.Check.{check_of}
use Rattle.records.specs.declared.Checked.{Checked}
use Rattle.load.specs.Parts.{parts_of}
use Rattle.load.proofs.Whole.{parts_fit}
use Rattle.load.proofs.Promised.{load_hands_in}
use Rattle.lines.specs.Lines.{decision_at, inspection, calls_at}
use Rattle.answer.specs.Text.{no_words, no_entries}
use Rattle.answer.proofs.Choices.{chosen}
use Rattle.answer.proofs.Taken.{loaded_enough, rows_taken}
use Rattle.file_ways.specs.Probes.{memory, prepared, calls_of}

-- its calls are lent what preparation filled
lends : (file : List ℕ) (c : Checked) (os : List ℕ) (st : State) → LendsAll (prepared file c) st (calls_of file c os)
unfolding calls_at
lends file c [] st = tt
lends file c (o ∷ os) st = go (eqb (kind_at file o) 4) (eqb (kind_at file o) 5) (lends file c os)
  where
    go : (t u : Bool) → ((st : State) → LendsAll (prepared file c) st (calls_of file c os))
        → LendsAll (prepared file c) st (cond t (decision_at file o ∷ []) (cond u (inspection (prepared file c).0.system (filled_by (prepared file c).1) ∷ []) []) ++ calls_of file c os)
    go true u rest =
        (chosen (Lends (prepared file c) st) (eqb (value_at file o) 1) {x = hold (record { 0 = decided_at file o })} {y = cut (record { 0 = decided_at file o })} tt tt, rest (step st (decision_at file o)))
    go false true rest = ((λ z. (refl, refl)), rest (step st (inspection (prepared file c).0.system (filled_by (prepared file c).1))))
    go false false rest = rest st

pub setting : (file : List ℕ) (c : Checked) (os : List ℕ) → check_of file ≡ Ok c → Setting c.atoms c.rows (parts_of file c.atoms) (memory file) (calls_of file c os)
setting file c os taken = (
  parts_fit file c taken,
  load_hands_in file c no_words no_entries taken (loaded_enough file c taken),
  rows_taken file c taken,
  lends file c os (begins c.atoms),
)
