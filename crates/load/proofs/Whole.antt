-- A whole file: its parts, and the ends of `load`.
use Prim.Native.Nat.{ℕ, ◌+◌, ◌*◌, ◌≤◌, ◌<◌}
use mathlib.Core.Path.{◌≡◌, sym, ap, ap₂, ◌∙◌}
use mathlib.Core.List.{List}
use mathlib.Core.Bool.{Bool, true, false, cond, ◌||◌}
use native.Mathlib.Nat.{zero-add}
use borrow.Author.Tests.{lt-ltb, le-ltb}
use lib.ListN.{length}
use lib.Dec.{ltb}
use Rattle.std.proofs.Common.{Result, Ok, Err}
use Rattle.rows.specs.Row.{Row}
use Rattle.rows.specs.Flat.{width_of}
use Rattle.fit.specs.Rows.{short}
use Rattle.std.proofs.lemmas.Bool.{or_right}
use Rattle.embed.specs.Parts.{all_rows}
use Rattle.format.specs.Starts.{starts}
use Rattle.record.specs.declared.Fault.{Fault}
use Rattle.records.specs.Check.{check_of}
use Rattle.records.specs.declared.Checked.{Checked}
use Rattle.records.proofs.Whole.{file_fit, rows_counted}
use Rattle.load.specs.Parts.{parts_of}
use Rattle.load.specs.Load.{outcome, filled, loaded, load_of}
use Rattle.load.specs.Promises.{PartsFit, PartsCounted}
use Rattle.load.specs.Steps.{Room, Loaded}
use Rattle.load.specs.declared.LoadError.TheVariants.{Unfit, Short}
use Rattle.load.proofs.Loading.{all_loaded}
use Rattle.load.proofs.Handed.{all_fit, all_counted}

pub parts_fit : PartsFit
parts_fit file c e = all_fit file c.atoms (starts file 0) (file_fit file c e)

pub parts_counted : PartsCounted
parts_counted file c e = all_counted file c.atoms (starts file 0) ∙ sym (rows_counted file c e)

-- ---- the memory lent

module _ (n m : ℕ) (ws cs : List ℕ) where
  pub few_words : length ws < m * width_of n → short n m ws cs ≡ true
  few_words h = ap (λ (t : Bool). t || ltb (length cs) m) (lt-ltb _ _ h)

  pub few_constants : length cs < m → short n m ws cs ≡ true
  few_constants h = or_right (ltb (length ws) (m * width_of n)) (ltb (length cs) m) (lt-ltb _ _ h)

  pub enough : m * width_of n ≤ length ws → m ≤ length cs → short n m ws cs ≡ false
  enough h k = ap₂ ◌||◌ (le-ltb _ _ h) (le-ltb _ _ k)

-- ---- the ends of `load`

module _ (file ws cs : List ℕ) where
  pub load_unfit : (fault : Fault) → Err fault ≡ check_of file → outcome (Err (Unfit fault)) ws cs ≡ load_of file ws cs
  unfolding load_of
  load_unfit fault e = ap (λ (r : Result Checked Fault). loaded file r ws cs) e

  module _ (c : Checked) (is : Ok c ≡ check_of file) where
    -- what `load_of` is by its test
    by : (less : Bool) → short c.atoms c.rows ws cs ≡ less → cond less (outcome (Err Short) ws cs) (filled file c ws cs) ≡ load_of file ws cs
    unfolding load_of
    by less e =
        ap (λ (t : Bool). cond t (outcome (Err Short) ws cs) (filled file c ws cs)) (sym e) ∙ ap (λ (r : Result Checked Fault). loaded file r ws cs) is

    pub load_short : short c.atoms c.rows ws cs ≡ true → outcome (Err Short) ws cs ≡ load_of file ws cs
    load_short e = by true e

    pub load_fit : short c.atoms c.rows ws cs ≡ false → filled file c ws cs ≡ load_of file ws cs
    load_fit e = by false e

    abbrev all : List Row
    all = all_rows c.atoms (parts_of file c.atoms)

    count : 0 + length all ≡ c.rows
    count = zero-add _ ∙ parts_counted file c (sym is)

    module _ (words : c.rows * width_of c.atoms ≤ length ws) (constants : c.rows ≤ length cs) where
      pub load_room : Room (width_of c.atoms) all ws cs 0
      load_room = record { words = rw count words; constants = rw count constants }

      pub load_done : {ws' cs' : List ℕ} {next : ℕ} → Loaded (width_of c.atoms) all ws cs 0 ws' cs' next → outcome (Ok c) ws' cs' ≡ load_of file ws cs
      load_done {ws'} {cs'} {next} done =
          let both = all_loaded (width_of c.atoms) c.rows all ws cs ws' cs' next (parts_counted file c (sym is)) load_room done in
          ap₂ (outcome (Ok c)) both.0 both.1 ∙ load_fit (enough c.atoms c.rows ws cs words constants)
