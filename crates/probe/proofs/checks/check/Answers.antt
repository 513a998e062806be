-- What `inspect`'s check tells, where those before it pass.
use Rattle.std.proofs.Common.{rules, ◌≡◌, sym, ◌∙◌, ◌≤◌, ℕ, List, length, arith, Ok, Err}
use Prim.Native.Nat.{min}
use mathlib.Core.Bool.{cond, not}
use borrow.Author.Tests.{le-ltb, eq-eqb, ne_eqb}
use lib.Dec.{eqb}
use Rattle.refusal.specs.declared.Refusal.{Refusal}
use Rattle.refusal.specs.declared.Refusal.TheVariants.{Unequal}
use Rattle.parity.specs.declared.System.{System}
use Rattle.region.specs.declared.Region.{Region}
use Rattle.inspect.specs.Lent.{lent_check}
use Rattle.inspect.proofs.Lent.{lent_passed, lent_failed}
use Rattle.probe.specs.Probe.{probe_check}
use Rattle.probe.proofs.checks.check.Goals as goal
use Rattle.probe.proofs.checks.check.Goals.{After-check_lent}

module _ (s : System) (ws cs ps : List ℕ) (r : Region) (atoms : s.atoms ≤ 512) (rows : s.rows ≤ 512) (own : r.atoms ≤ 512) (few : s.rank ≤ min s.rows s.atoms)
    (entries : min s.rows s.atoms ≤ length ps) where
  room : s.rank ≤ length ps
  room = omega arith

  passes : lent_check s ws cs ps r ≡ Ok tt → cond (not (eqb r.atoms s.atoms)) (Err Unequal) (Ok (tt {0})) ≡ probe_check s ws cs ps r
  unfolding probe_check
  passes e =
      sym (simp (le-ltb 512 s.atoms atoms, le-ltb 512 s.rows rows, le-ltb 512 r.atoms own, le-ltb (min s.rows s.atoms) s.rank few)
      (lent_passed s ws cs ps r room e _ (le-ltb (length ps) (min s.rows s.atoms) entries) _))

  fails : (e : Refusal) → lent_check s ws cs ps r ≡ Err e → probe_check s ws cs ps r ≡ Err e
  unfolding probe_check
  fails e is =
      simp (le-ltb 512 s.atoms atoms, le-ltb 512 s.rows rows, le-ltb 512 r.atoms own, le-ltb (min s.rows s.atoms) s.rank few)
      (lent_failed s ws cs ps r room e is (simp (le-ltb 512 s.atoms atoms, le-ltb 512 s.rows rows)) (le-ltb 512 r.atoms own) _ (le-ltb (length ps) (min s.rows s.atoms) entries) _)

pub returns-in_err-check_lent : goal.returns-in_err-check_lent
returns-in_err-check_lent c =
    let a = c.args in
    let told = fails a.system a.rows.now a.constants.now a.basis.now a.region.now c.if-system-gt-LIMIT.false c.if-system-gt-LIMIT-2.false c.if-region-gt-LIMIT.false
    (omega (arith, c.min-entries.ensures, c.if-system-entries.false)) (omega (arith, c.min-entries.ensures, c.if-basis-entries.false)) _ (sym c.in_err-check_lent.ensures) in
    search rules

rest : (c : After-check_lent) → c.check_lent.result ≡ Ok tt → let a = c.args in
    cond (not (eqb a.region.now.atoms a.system.atoms)) (Err Unequal) (Ok (tt {0})) ≡ probe_check a.system a.rows.now a.constants.now a.basis.now a.region.now
rest c is =
    let a = c.args in
    passes a.system a.rows.now a.constants.now a.basis.now a.region.now c.if-system-gt-LIMIT.false c.if-system-gt-LIMIT-2.false c.if-region-gt-LIMIT.false
    (omega (arith, c.min-entries.ensures, c.if-system-entries.false)) (omega (arith, c.min-entries.ensures, c.if-basis-entries.false)) (sym c.check_lent.ensures ∙ is)

pub returns-then-region-system : goal.returns-then-region-system
returns-then-region-system c =
    simp (ne_eqb _ _ c.if-region-system.true) at (rest (goal.at.returns-then-region-system c).After-check_lent (c.check_lent.ensures ∙ sym c.in_ok-check_lent.ensures))

pub returns : goal.returns
returns c = simp (eq-eqb _ _ c.if-region-system.false) at (rest (goal.at.returns c).After-check_lent (c.check_lent.ensures ∙ sym c.in_ok-check_lent.ensures))
