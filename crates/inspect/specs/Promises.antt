-- The theorems of `inspect`, as statements about what it answers and leaves, for fit and unfit input; src/promises.rt holds each.
use Rattle.std.specs.Prelude.{ℕ, ◌≤◌, ◌<◌, ◌≡◌, List, ◌++◌, Bool, true, false, ◌&&◌, length, get_or, take, Ok}
use Rattle.std.proofs.Math.Option.{none, some}
use Rattle.rows.specs.Row.{Row, Assignment, meets_all}
use Rattle.rows.specs.Decisions.{agrees}
use Rattle.rows.specs.declared.Atom.{Atom}
use Rattle.parity.specs.Basis.{basis_of}
use Rattle.parity.specs.Prepare.{Lent, prepare_check, prepared}
use Rattle.parity.specs.Promises.{handed_in}
use Rattle.parity.specs.declared.System.{System}
use Rattle.refusal.specs.Refusal.{number_in}
use Rattle.region.specs.Masks.{decisions}
use Rattle.region.specs.Calls.{region_check, hold_of, cut_of}
use Rattle.region.specs.declared.Region.{Region}
use Rattle.snapshot.specs.Knowledge.{missing}
use Rattle.snapshot.specs.declared.Snapshot.{Snapshot}
use Rattle.inspect.specs.Inspect.{Filled, filled, refutes, region_in, inspect_of}
use Rattle.inspect.specs.Run.{Call, begins, after}

-- The basis rows of a system.
abbrev pub basis_in : System → Filled → List Row
basis_in s l = basis_of s.atoms l.rows l.constants (take s.rank l.basis)

-- Every forced atom follows: what meets the basis rows and agrees with the region agrees with the region handed back.
abbrev pub ForcedFollow : Type 0
ForcedFollow = (s : System) (l : Filled) (r : Region) (known : Snapshot) (atoms values : List ℕ) (x : Assignment)
    → meets_all (basis_in s l) x ≡ true → agrees (decisions r) x ≡ true
    → agrees (decisions (region_in r (inspect_of s l r known atoms values).result)) x ≡ true

-- Where a system that is not flagged is found refuted, nothing meets the basis rows and agrees with the region.
abbrev pub RefutedNone : Type 0
RefutedNone = (s : System) (l : Filled) (r : Region) (known : Snapshot) (atoms values : List ℕ) (x : Assignment)
    → s.refuted ≡ false → refutes (inspect_of s l r known atoms values).result ≡ true
    → (meets_all (basis_in s l) x && agrees (decisions r) x) ≡ false

-- What preparation left, to be lent to be read.
abbrev pub filled_by : Lent → Filled
filled_by l = filled l.rows l.constants l.basis l.index

-- For preparation's own system, flagged or not, nothing meets the rows as handed in and agrees with the region.
abbrev pub PreparedRefuted : Type 0
PreparedRefuted = (n m : ℕ) (l : Lent) (r : Region) (known : Snapshot) (atoms values : List ℕ) (x : Assignment)
    → let p = prepared n m l in
    prepare_check n m l ≡ Ok tt → refutes (inspect_of p.0.system (filled_by p.1) r known atoms values).result ≡ true
    → (meets_all (handed_in n m l) x && agrees (decisions r) x) ≡ false

-- The region only gains decisions.
abbrev pub RegionGains : Type 0
RegionGains = (s : System) (l : Filled) (r : Region) (known : Snapshot) (atoms values : List ℕ) (a : ℕ) (v : Bool)
    → get_or (decisions r) a none ≡ some v → get_or (decisions (region_in r (inspect_of s l r known atoms values).result)) a none ≡ some v

-- After any list of calls, whatever they are lent, the region is fit, and knowledge that is initialised has its atom count.
abbrev pub RegionsFit : Type 0
RegionsFit = (n : ℕ) (cs : List Call)
    → let st = after (begins n) cs in
    (region_check st.region ≡ Ok tt) × (st.known.initialized ≡ true → st.known.atoms ≡ st.region.atoms)

-- And knowledge is an ancestor of the region at hand and of every later one.
abbrev pub KnowledgeAncestor : Type 0
KnowledgeAncestor = (n : ℕ) (cs ds : List Call) → missing (after (begins n) (cs ++ ds)).region (after (begins n) cs).known ≡ false

-- After any list of calls hold and cut of an atom below n, and an inspection lent what preparation filled and lists of rank entries, are not
-- refused.
abbrev pub NeverRefused : Type 0
NeverRefused = (n m : ℕ) (l : Lent) (cs : List Call)
    → let p = prepared n m l in
    let st = after (begins n) cs in
    prepare_check n m l ≡ Ok tt
    → ((a : Atom) → a.0 < n → (number_in (hold_of st.region a).0 ≡ 0) × (number_in (cut_of st.region a).0 ≡ 0))
    × ((atoms values : List ℕ) → p.0.system.rank ≤ length atoms → p.0.system.rank ≤ length values
    → number_in (inspect_of p.0.system (filled_by p.1) st.region st.known atoms values).result ≡ 0)
