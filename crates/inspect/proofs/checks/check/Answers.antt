-- What the two shared checks tell, where those before them pass.
use Rattle.std.proofs.Common.{rules, ◌≡◌, sym, ◌∙◌, ◌≤◌, ◌*◌, ℕ, false, length, arith, Ok, Err}
use Prim.Native.Nat.{min}
use borrow.Author.Tests.{ltb-false, le-ltb}
use lib.Dec.{ltb}
use Rattle.refusal.specs.declared.Refusal.{Refusal}
use Rattle.std.proofs.lemmas.Bool.{or_parts}
use Rattle.index.specs.Index.{column_width}
use Rattle.parity.specs.declared.System.{System}
use Rattle.region.specs.declared.Region.{Region}
use Rattle.snapshot.specs.Knowledge.{overfull_by}
use Rattle.snapshot.specs.Touch.{last_check}
use Rattle.snapshot.specs.declared.Snapshot.{Snapshot}
use Rattle.snapshot.proofs.Chained.{last_is}
use Rattle.inspect.specs.Inspect.{Filled, filled, lists_short, inspect_check}
use Rattle.inspect.specs.Lent.{lent_check}
use Rattle.inspect.proofs.Lent.{lent_passed, lent_failed}
use Rattle.inspect.proofs.checks.check.Goals as goal

module _ (s : System) (l : Filled) (r : Region) (known : Snapshot) (atoms values : ℕ) (full : overfull_by s r known ≡ false) (few : s.rank ≤ min s.rows s.atoms)
    (lists : lists_short s (length l.basis) (length l.index) atoms values ≡ false) where
  room : (s.rank ≤ length l.basis) × (s.atoms * column_width s.rank ≤ length l.index)
  room =
      let basis = or_parts (ltb (length l.basis) (min s.rows s.atoms)) _ lists in
      let index = or_parts (ltb (length l.index) (s.atoms * column_width s.rank)) _ basis.1 in
      (omega (arith, ltb-false _ _ basis.0), ltb-false _ _ index.0)

  passes : lent_check s l.rows l.constants l.basis r ≡ Ok tt → last_check s l.index r known ≡ inspect_check s l r known atoms values
  unfolding inspect_check
  passes e =
      last_is s l.index r known full few room.1
      ∙ sym (simp (full, le-ltb (min s.rows s.atoms) s.rank few) (lent_passed s l.rows l.constants l.basis r room.0 e _ lists _))

  fails : (e : Refusal) → lent_check s l.rows l.constants l.basis r ≡ Err e → inspect_check s l r known atoms values ≡ Err e
  unfolding inspect_check
  fails e is =
      let own = or_parts _ _ full in
      simp (full, le-ltb (min s.rows s.atoms) s.rank few) (lent_failed s l.rows l.constants l.basis r room.0 e is own.0 (or_parts _ _ own.1).0 _ lists _)

pub returns-in_err-check_lent : goal.returns-in_err-check_lent
returns-in_err-check_lent c =
    let a = c.args in
    let told = fails a.system (filled a.rows.now a.constants.now a.basis.now a.index.now) a.region a.known a.atoms a.values (sym c.overfull.ensures ∙ c.if-overfull.false)
    (omega (arith, c.if-system-min.false, c.min.ensures)) (sym c.lists_short.ensures ∙ c.if-lists_short.false) _ (sym c.in_err-check_lent.ensures) in
    search rules

pub returns : goal.returns
returns c =
    let a = c.args in
    c.check_last.ensures
    ∙ passes a.system (filled a.rows.now a.constants.now a.basis.now a.index.now) a.region a.known a.atoms a.values (sym c.overfull.ensures ∙ c.if-overfull.false)
    (omega (arith, c.if-system-min.false, c.min.ensures)) (sym c.lists_short.ensures ∙ c.if-lists_short.false) (sym c.in_ok-check_lent.ensures)
