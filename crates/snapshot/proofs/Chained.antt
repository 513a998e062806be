-- What checks say that do not refuse: limits, and bits past the rank.
use Prim.Native.Nat.{ℕ, ◌*◌, ◌≤◌, min}
use native.Mathlib.Omega.{arith}
use mathlib.Core.Path.{◌≡◌, refl}
use mathlib.Core.List.{List}
use mathlib.Core.Bool.{Bool, true, false, cond, not, ◌&&◌, false≢true}
use borrow.Author.Tests.{ltb-false, le-ltb}
use lib.ListN.{length}
use lib.Dec.{leb, ltb, eqb}
use Rattle.rows.specs.declared.Atom.{Atom}
use Rattle.fit.specs.Rows.{overfull}
use Rattle.std.proofs.lemmas.Bool.{or_parts}
use Rattle.std.specs.Prelude.{Ok, Err}
use Rattle.refusal.specs.Refusal.{number_in}
use Rattle.refusal.specs.declared.Refusal.TheVariants.{Index, Unequal, Missing, Atom as NoAtom}
use Rattle.fit.proofs.Fitting.{passed}
use Rattle.index.specs.Index.{column_width}
use Rattle.index.specs.Column.{over_rank, column_check}
use Rattle.parity.specs.declared.System.{System}
use Rattle.region.specs.declared.Region.{Region}
use Rattle.region.specs.Calls.{strayed, clashes, region_check}
use Rattle.snapshot.specs.Knowledge.{overfull_by, unequal, missing}
use Rattle.snapshot.specs.Touch.{last_check, touched_check}
use Rattle.snapshot.specs.declared.Snapshot.{Snapshot}

-- a check that is asked where another holds
pub and_none : (a b : Bool) → (a && b) ≡ false → a ≡ true → b ≡ false
and_none true b e h = e
and_none false b e h = absurd (false≢true h)

-- ---- 10

pub record Limits (s : System) (r : Region) : Type 0 where
  pub atoms : s.atoms ≤ 512
  pub rows : s.rows ≤ 512
  pub region : r.atoms ≤ 512

pub limits : (s : System) (r : Region) (known : Snapshot) → overfull_by s r known ≡ false → Limits s r
limits s r known e =
    let both = or_parts (overfull s.atoms s.rows) _ e in
    let system = or_parts (ltb 512 s.atoms) (ltb 512 s.rows) both.0 in
    let others = or_parts (ltb 512 r.atoms) (known.initialized && ltb 512 known.atoms) both.1 in
    record {
      atoms = ltb-false 512 s.atoms system.0;
      rows = ltb-false 512 s.rows system.1;
      region = ltb-false 512 r.atoms others.0;
    }

-- ---- 14, as `index::check_column` tells it

past_is : (o p : Bool) → eqb (number_in {A = Unit} (cond o (Err Index) (cond p (Err NoAtom) (Ok tt)))) 14 ≡ o
past_is true p = refl
past_is false true = refl
past_is false false = refl

pub over_rank_is : (index : List ℕ) (n rank : ℕ) (a : Atom) → n ≤ 512 → rank ≤ 512 → n * column_width rank ≤ length index
    → eqb (number_in (column_check index n rank a)) 14 ≡ over_rank rank (column_width rank) index n
unfolding column_check
over_rank_is index n rank a atoms ranks room =
    simp (le-ltb 512 n atoms, le-ltb 512 rank ranks, le-ltb (length index) (n * column_width rank) room)
    (past_is (over_rank rank (column_width rank) index n) (leb n a.0))

-- a region's own checks
pub region_passed : (r : Region) → region_check r ≡ Ok tt → (strayed r ≡ false) × (clashes r ≡ false)
unfolding region_check
region_passed r e =
    let few = passed (ltb 512 r.atoms) _ _ e in
    let stray = passed (strayed r) _ _ few.1 in
    (stray.0, (passed (clashes r) _ _ stray.1).0)

-- ---- where the first checks pass, what the last ones tell

module _ (s : System) (index : List ℕ) (r : Region) (known : Snapshot) (full : overfull_by s r known ≡ false) (few : s.rank ≤ min s.rows s.atoms)
    (room : s.atoms * column_width s.rank ≤ length index) where
  over : eqb (number_in (column_check index s.atoms s.rank (record { 0 = 0 }))) 14 ≡ over_rank s.rank (column_width s.rank) index s.atoms
  over =
      let most = limits s r known full in
      over_rank_is index s.atoms s.rank (record { 0 = 0 }) most.atoms (omega (arith, most.atoms, most.rows)) room

  -- 14 of the index itself
  pub last_is : last_check s index r known
      ≡ cond (not s.refuted && over_rank s.rank (column_width s.rank) index s.atoms) (Err Index) (cond (unequal s r known) (Err Unequal) (cond (missing r known) (Err Missing) (Ok tt)))
  last_is = rw over refl

  pub touched_is : region_check r ≡ Ok tt → last_check s index r known ≡ touched_check s index r known
  unfolding touched_check
  touched_is e =
      let own = region_passed r e in
      simp (full, le-ltb (min s.rows s.atoms) s.rank few, le-ltb (length index) (s.atoms * column_width s.rank) room, own.0, own.1) last_is
