-- What an inspection that no number refuses has been lent, and back: what fits is not refused.
use Prim.Native.Nat.{ℕ, ◌*◌, ◌≤◌, ◌<◌, min}
use mathlib.Core.Path.{◌≡◌, refl, ap}
use mathlib.Core.Bool.{Bool, true, false, not, ◌&&◌, ◌||◌}
use native.Mathlib.Omega.{arith}
use borrow.Author.Tests.{ltb-false, eqb-true, not-true, not-false, le-ltb, eq-eqb}
use lib.ListN.{length, get_or}
use lib.Dec.{ltb, eqb}
use Rattle.std.specs.Prelude.{Ok}
use Rattle.rows.specs.Flat.{width_of}
use Rattle.fit.specs.Rows.{overfull, short, strays, misnames}
use Rattle.std.proofs.lemmas.Bool.{or_parts}
use Rattle.fit.proofs.Fitting.{Fit, fit_of, strays_none, passed}
use Rattle.fit.proofs.Naming.{names_each, names_none}
use Rattle.index.specs.Index.{column_width}
use Rattle.index.specs.Column.{over_rank}
use Rattle.parity.specs.declared.System.{System}
use Rattle.region.specs.Calls.{strayed, clashes, region_check}
use Rattle.region.specs.declared.Region.{Region}
use Rattle.snapshot.specs.Knowledge.{overfull_by, unequal, missing}
use Rattle.snapshot.specs.declared.Snapshot.{Snapshot}
use Rattle.snapshot.proofs.Chained.{and_none}
use Rattle.inspect.specs.Inspect.{Filled, lists_short, inspect_check}

pub record Fits (s : System) (l : Filled) (r : Region) (known : Snapshot) (atoms values : ℕ) : Type 0 where
  pub lent : Fit s.atoms s.rows l.rows l.constants
  pub ranked : s.rank ≤ min s.rows s.atoms
  pub entries : min s.rows s.atoms ≤ length l.basis
  pub columns : s.atoms * column_width s.rank ≤ length l.index
  pub atoms_room : s.rank ≤ atoms
  pub values_room : s.rank ≤ values
  pub region : region_check r ≡ Ok tt
  pub named : (j : ℕ) → j < s.rank → get_or l.basis j 0 < s.rows
  pub below_rank : s.refuted ≡ false → over_rank s.rank (column_width s.rank) l.index s.atoms ≡ false
  pub same_atoms : r.atoms ≡ s.atoms
  pub known_atoms : known.initialized ≡ true → known.atoms ≡ r.atoms
  pub ancestor : missing r known ≡ false

-- ---- both ways

-- a test that never holds where another does
pub where_never : (a b : Bool) → (a ≡ true → b ≡ false) → (a && b) ≡ false
where_never true b h = h refl
where_never false b h = refl

module _ (s : System) (l : Filled) (r : Region) (known : Snapshot) (atoms values : ℕ) where
  pub checked_fits : inspect_check s l r known atoms values ≡ Ok tt → Fits s l r known atoms values
  unfolding inspect_check region_check
  checked_fits e =
      let full = passed (overfull_by s r known) _ _ e in
      let rank = passed (ltb (min s.rows s.atoms) s.rank) _ _ full.1 in
      let nine = passed (short s.atoms s.rows l.rows l.constants || lists_short s (length l.basis) (length l.index) atoms values) _ _ rank.1 in
      let stray = passed (strays s.atoms (width_of s.atoms) l.rows l.constants s.rows || strayed r) _ _ nine.1 in
      let clash = passed (clashes r) _ _ stray.1 in
      let name = passed (misnames s.rows l.basis s.rank) _ _ clash.1 in
      let over = passed (not s.refuted && over_rank s.rank (column_width s.rank) l.index s.atoms) _ _ name.1 in
      let counts = passed (unequal s r known) _ _ over.1 in
      let old = passed (missing r known) _ _ counts.1 in
      let limits = or_parts (overfull s.atoms s.rows) _ full.0 in
      let system = or_parts (ltb 512 s.atoms) (ltb 512 s.rows) limits.0 in
      let others = or_parts (ltb 512 r.atoms) _ limits.1 in
      let room = or_parts (short s.atoms s.rows l.rows l.constants) _ nine.0 in
      let rows = or_parts (ltb (length l.rows) (s.rows * width_of s.atoms)) _ room.0 in
      let basis = or_parts (ltb (length l.basis) (min s.rows s.atoms)) _ room.1 in
      let index = or_parts (ltb (length l.index) (s.atoms * column_width s.rank)) _ basis.1 in
      let lists = or_parts (ltb atoms s.rank) _ index.1 in
      let strange = or_parts (strays s.atoms (width_of s.atoms) l.rows l.constants s.rows) (strayed r) stray.0 in
      let count = or_parts (not (eqb r.atoms s.atoms)) _ counts.0 in
      record {
        lent =
            fit_of s.atoms s.rows l.rows l.constants strange.0 (ltb-false 512 s.atoms system.0) (ltb-false 512 s.rows system.1)
            (ltb-false _ _ rows.0) (ltb-false _ _ rows.1);
        ranked = ltb-false (min s.rows s.atoms) s.rank rank.0;
        entries = ltb-false _ _ basis.0;
        columns = ltb-false _ _ index.0;
        atoms_room = ltb-false atoms s.rank lists.0;
        values_room = ltb-false values s.rank lists.1;
        region = simp (others.0, strange.1, clash.0);
        named = names_each s.rows l.basis s.rank name.0;
        below_rank = λ sound. and_none _ _ over.0 (ap not sound);
        same_atoms = eqb-true r.atoms s.atoms (not-false _ count.0);
        known_atoms = λ set. eqb-true known.atoms r.atoms (not-false _ (and_none _ _ count.1 set));
        ancestor = old.0;
      }

  pub fits_checked : Fits s l r known atoms values → inspect_check s l r known atoms values ≡ Ok tt
  unfolding inspect_check region_check
  fits_checked f =
      let full = passed (ltb 512 r.atoms) _ _ f.region in
      let stray = passed (strayed r) _ _ full.1 in
      let clash = passed (clashes r) _ _ stray.1 in
      let few = f.lent.atoms in
      let old : (known.initialized && ltb 512 known.atoms) ≡ false =
      where_never _ _ (λ (set : known.initialized ≡ true). le-ltb 512 known.atoms (omega (arith, f.known_atoms set, f.same_atoms))) in
      let strange = strays_none s.atoms (width_of s.atoms) l.rows l.constants s.rows (λ j h. (f.lent.clean j h, f.lent.small j h)) in
      simp (
        le-ltb 512 s.atoms few,
        le-ltb 512 s.rows f.lent.rows,
        full.0,
        old,
        le-ltb (min s.rows s.atoms) s.rank f.ranked,
        le-ltb (length l.rows) (s.rows * width_of s.atoms) f.lent.words,
        le-ltb (length l.constants) s.rows f.lent.constants,
        le-ltb (length l.basis) (min s.rows s.atoms) f.entries,
        le-ltb (length l.index) (s.atoms * column_width s.rank) f.columns,
        le-ltb atoms s.rank f.atoms_room,
        le-ltb values s.rank f.values_room,
        strange,
        stray.0,
        clash.0,
        names_none s.rows l.basis s.rank f.named,
        where_never (not s.refuted) (over_rank s.rank (column_width s.rank) l.index s.atoms) (λ sound. f.below_rank (not-true s.refuted sound)),
        eq-eqb r.atoms s.atoms f.same_atoms,
        where_never known.initialized (not (eqb known.atoms r.atoms)) (λ set. ap not (eq-eqb _ _ (f.known_atoms set))),
        f.ancestor,
      )
