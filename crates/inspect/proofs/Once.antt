-- What is left to check of a call where its system and memory were looked at.
use Prim.Native.Nat.{ℕ, ◌*◌, ◌≤◌, min}
use mathlib.Core.Path.{◌≡◌, refl, ap}
use mathlib.Core.Bool.{Bool, true, false, cond, not, ◌&&◌, ◌||◌}
use native.Mathlib.Omega.{arith}
use borrow.Author.Tests.{ltb-false, le-ltb}
use lib.ListN.{length}
use lib.Dec.{ltb, eqb}
use Rattle.std.specs.Prelude.{Result, Ok, Err}
use Rattle.std.proofs.lemmas.Bool.{or_parts}
use Rattle.rows.specs.Flat.{width_of}
use Rattle.refusal.specs.Refusal.{number_in}
use Rattle.refusal.specs.declared.Refusal.{Refusal}
use Rattle.refusal.specs.declared.Refusal.TheVariants.{Index}
use Rattle.fit.specs.Rows.{overfull, short, strays, misnames, rows_check}
use Rattle.fit.proofs.Fitting.{passed}
use Rattle.index.specs.Index.{column_width}
use Rattle.index.specs.Column.{over_rank, column_check}
use Rattle.parity.specs.declared.System.{System}
use Rattle.region.specs.declared.Region.{Region}
use Rattle.snapshot.specs.Knowledge.{overfull_by}
use Rattle.snapshot.specs.declared.Snapshot.{Snapshot}
use Rattle.snapshot.proofs.Chained.{over_rank_is}
use Rattle.inspect.specs.Inspect.{Filled, inspect_check}
use Rattle.inspect.specs.Once.{prepared_check}
use Rattle.inspect.specs.Steps.{call_check}

module _ (s : System) (l : Filled) where
  -- a call's checks are those that are left
  pub call_is : prepared_check s l ≡ Ok tt → (r : Region) (known : Snapshot) (atoms values : ℕ) → call_check s r known atoms values ≡ inspect_check s l r known atoms values
  unfolding prepared_check call_check inspect_check
  call_is e r known atoms values =
      let full = passed (overfull s.atoms s.rows) _ _ e in
      let room = passed (short s.atoms s.rows l.rows l.constants) _ _ full.1 in
      let stray = passed (strays s.atoms (width_of s.atoms) l.rows l.constants s.rows) _ _ room.1 in
      let rank = passed (ltb (min s.rows s.atoms) s.rank) _ _ stray.1 in
      let lists = passed (ltb (length l.basis) (min s.rows s.atoms) || ltb (length l.index) (s.atoms * column_width s.rank)) _ _ rank.1 in
      let name = passed (misnames s.rows l.basis s.rank) _ _ lists.1 in
      let over = passed (not s.refuted && over_rank s.rank (column_width s.rank) l.index s.atoms) _ _ name.1 in
      let each = or_parts (ltb (length l.basis) (min s.rows s.atoms)) _ lists.0 in
      go (overfull_by s r known) refl rank.0 room.0 stray.0 each.0 each.1 name.0 over.0
    where
      go : (t : Bool) → overfull_by s r known ≡ t → ltb (min s.rows s.atoms) s.rank ≡ false → short s.atoms s.rows l.rows l.constants ≡ false
          → strays s.atoms (width_of s.atoms) l.rows l.constants s.rows ≡ false → ltb (length l.basis) (min s.rows s.atoms) ≡ false
          → ltb (length l.index) (s.atoms * column_width s.rank) ≡ false → misnames s.rows l.basis s.rank ≡ false
          → (not s.refuted && over_rank s.rank (column_width s.rank) l.index s.atoms) ≡ false → call_check s r known atoms values ≡ inspect_check s l r known atoms values
      go true full rank room stray basis index name over = simp full
      go false full rank room stray basis index name over =
          let own = or_parts (ltb 512 r.atoms) _ (or_parts (overfull s.atoms s.rows) _ full).1 in
          simp (rank, room, stray, basis, index, name, over, own.0)

  -- the last of what is looked at once: 14
  module _ (rows : rows_check s.atoms s.rows l.rows l.constants ≡ Ok tt) (few : s.rank ≤ min s.rows s.atoms) (entries : min s.rows s.atoms ≤ length l.basis)
      (columns : s.atoms * column_width s.rank ≤ length l.index) (name : misnames s.rows l.basis s.rank ≡ false) where
    pub index_is : cond (not s.refuted && eqb (number_in (column_check l.index s.atoms s.rank (record { 0 = 0 }))) 14) (Err Index) (Ok tt) ≡ prepared_check s l
    unfolding prepared_check rows_check
    index_is =
        let full = passed (overfull s.atoms s.rows) _ _ rows in
        let room = passed (short s.atoms s.rows l.rows l.constants) _ _ full.1 in
        let stray = passed (strays s.atoms (width_of s.atoms) l.rows l.constants s.rows) _ _ room.1 in
        let limits = or_parts (ltb 512 s.atoms) (ltb 512 s.rows) full.0 in
        let atoms = ltb-false 512 s.atoms limits.0 in
        simp (
          full.0,
          room.0,
          stray.0,
          le-ltb (min s.rows s.atoms) s.rank few,
          le-ltb (length l.basis) (min s.rows s.atoms) entries,
          le-ltb (length l.index) (s.atoms * column_width s.rank) columns,
          name,
        )
        (ap (λ (o : Bool). cond {A = Result Unit Refusal} (not s.refuted && o) (Err Index) (Ok tt))
        (over_rank_is l.index s.atoms s.rank (record { 0 = 0 }) atoms (omega (arith, atoms, few)) columns))
