-- Touched rows visited in ordinal order: the rows that the places of a basis name, and the turns of `collect`.
use Prim.Native.Nat.{ℕ, ◌≤◌, ◌<◌}
use mathlib.Core.Path.{◌≡◌, sym, ap, ◌∙◌}
use mathlib.Core.List.{List}
use mathlib.Core.Bool.{Bool, true, false}
use native.Mathlib.Omega.{arith}
use lib.ListN.{length, get_or, take, get_or-map, length-map}
use lib.Seq.{get_or-take, length-take-le}
use Rattle.std.specs.Prelude.{Option, Ok, Err}
use Rattle.words.specs.Set.{set_of}
use Rattle.rows.specs.Row.{Row}
use Rattle.rows.specs.Flat.{width_of, atoms_of, row_at}
use Rattle.rows.proofs.Digits.{atoms_has}
use Rattle.rows.proofs.Rowwise.{atoms_none}
use Rattle.region.specs.Visit.{Clear}
use Rattle.region.specs.declared.Atoms.{Atoms}
use Rattle.region.proofs.Visiting.{Given}
use Rattle.inspect.specs.Consequences.{Reading, reading_of, consequences}
use Rattle.parity.specs.Basis.{rows_of}
use Rattle.inspect.specs.Steps.{count_noted, atoms_noted, values_noted, reading_at, Gathered}
use Rattle.inspect.specs.declared.Forced.{Forced}
use Rattle.inspect.specs.declared.Wrong.{Wrong}
use Rattle.inspect.specs.declared.Masks.{Masks}
use Rattle.parity.specs.declared.basis.Basis.{Basis}
use Rattle.inspect.proofs.Gathering.{Gathering, gathering_skip, gathering_wrong, gathering_next, gathering_end}
use Rattle.parity.specs.Basis.{basis_of}

module _ (n : ℕ) (ws cs ps : List ℕ) (rank : ℕ) where
  pub basis_at : (j : ℕ) → j < rank → get_or (basis_of n ws cs (take rank ps)) j (row_at n (width_of n) ws cs 0) ≡ row_at n (width_of n) ws cs (get_or ps j 0)
  basis_at j h = get_or-map (row_at n (width_of n) ws cs) (take rank ps) j 0 ∙ ap (row_at n (width_of n) ws cs) (get_or-take rank ps j 0 h)

  pub basis_length : rank ≤ length ps → length (basis_of n ws cs (take rank ps)) ≡ rank
  basis_length h = length-map (take rank ps) (row_at n (width_of n) ws cs) ∙ length-take-le rank ps h

-- the touched rows of a basis read against masks
module _ (b : Basis) (m : Masks) (ws : List ℕ) where
  abbrev held : List Bool
  held = atoms_of b.atoms (set_of m.held)

  abbrev free : List Bool
  free = atoms_of b.atoms (set_of m.free)

  abbrev touched : List Bool
  touched = atoms_of b.rank (set_of ws)

  long : length (rows_of b) ≡ b.rank
  long = basis_length b.atoms b.rows.now b.constants.now b.entries.now b.rank b.named.entries

  module _ {atoms values atoms' values' : List ℕ} {count from : ℕ} (so : Gathering held free touched (rows_of b) atoms values atoms' values' count from) where
    reached : (j : ℕ) → from ≤ j → Clear (set_of ws) from j → Gathering held free touched (rows_of b) atoms values atoms' values' count j
    reached j le passed = gathering_skip so j le (λ k l u. atoms_none b.rank (set_of ws) k (passed k l u))

    pub visit_end : from ≤ b.rank → Clear (set_of ws) from b.rank → Gathered (consequences held free touched (rows_of b)) (Ok count) atoms values atoms' values'
    visit_end le passed = gathering_end (reached b.rank le passed) (omega (arith, long))

  -- the next one is row j
  module _ {s t : Atoms} {j count : ℕ} {atoms values atoms' values' : List ℕ} (step : Given s t ws b.rank j)
      (so : Gathering held free touched (rows_of b) atoms values atoms' values' count s.from) where
    abbrev first : Row
    first = row_at b.atoms (width_of b.atoms) b.rows.now b.constants.now 0

    here : Gathering held free touched (rows_of b) atoms values atoms' values' count j
    here = reached so j step.reached step.passed

    is_touched : get_or touched j false ≡ true
    is_touched = atoms_has b.rank (set_of ws) j step.inside ∙ step.found

    is_read : (r : Reading) → r ≡ reading_at b m j → r ≡ reading_of held free (get_or (rows_of b) j first)
    is_read r is = is ∙ ap (reading_of held free) (sym (basis_at b.atoms b.rows.now b.constants.now b.entries.now b.rank j step.inside))

    pub visit_wrong : (e : Wrong) → Err e ≡ reading_at b m j
        → Gathered (consequences held free touched (rows_of b)) (Err (record { forced = count })) atoms values atoms' values'
    visit_wrong e is = gathering_wrong here first is_touched (omega (arith, long, step.inside)) e (is_read (Err e) is)

    pub visit_next : (o : Option Forced) → Ok o ≡ reading_at b m j → b.rank ≤ length atoms → b.rank ≤ length values
        → {count' : ℕ} {atoms'' values'' : List ℕ} → count' ≡ count_noted o count → atoms'' ≡ atoms_noted o count atoms' → values'' ≡ values_noted o count values'
        → Gathering held free touched (rows_of b) atoms values atoms'' values'' count' t.from
    visit_next o is room room' n a v =
        rw step.after
        (gathering_next here first is_touched (omega (arith, long, step.inside)) o (is_read (Ok o) is) (omega (arith, long)) (omega (arith, long)) n a v)
