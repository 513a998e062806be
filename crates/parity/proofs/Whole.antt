-- `prepare` as a whole: refused with nothing touched, or what follows elimination.
use Prim.Native.Nat.{ℕ, ◌*◌, ◌≤◌, min}
use mathlib.Core.Path.{◌≡◌, refl, sym, ap, ◌∙◌, subst}
use mathlib.Core.List.{List, ◌++◌}
use mathlib.Core.Bool.{true, false}
use native.Mathlib.Nat.{mul-le-mul_left, le_trans}
use native.Mathlib.Omega.{arith}
use borrow.Author.Tests.{ltb-false, le-ltb}
use lib.ListN.{length, take, drop}
use lib.Dec.{ltb}
use Rattle.rows.specs.Flat.{width_of}
use Rattle.std.specs.Prelude.{Ok, Err}
use Rattle.refusal.specs.Refusal.{answered, left as left_of}
use Rattle.refusal.specs.declared.Refusal.{Refusal}
use Rattle.std.proofs.lemmas.Bool.{or_parts}
use Rattle.fit.proofs.Fitting.{Fit, joined_fit, fit_joined}
use Rattle.index.specs.Index.{column_width, index_of, incidences_of}
use Rattle.echelon.specs.Forward.{State, eliminated}
use Rattle.echelon.specs.Eliminate.{Outcome, outcome, rows_to, written, eliminate_check, eliminate_of}
use Rattle.echelon.specs.declared.Eliminated.{Eliminated}
use Rattle.echelon.proofs.Whole.{done_is, not_refused}
use Rattle.parity.specs.Basis.{basis_of, units_of, unit_atoms_of, unit_values_of}
use Rattle.parity.specs.Prepare.{Lent, lent, lists_short, prepare_check, told_of, followed, prepared, prepare_of}
use Rattle.parity.specs.declared.Prepared.{Prepared}
use Rattle.parity.specs.Named.{Named}
use Rattle.parity.proofs.Usable.{rank_few, left_named}

-- what is not refused has room
pub record Room (n m : ℕ) (l : Lent) : Type 0 where
  pub fit : Fit n m l.rows l.constants
  pub basis : min m n ≤ length l.basis
  pub atoms : min m n ≤ length l.unit_atoms
  pub values : min m n ≤ length l.unit_values
  pub index : n * column_width (min m n) ≤ length l.index

-- the columns of a lesser rank are no wider
pub index_holds : (n m : ℕ) (l : Lent) (rank : ℕ) → Room n m l → rank ≤ min m n → n * column_width rank ≤ length l.index
index_holds n m l rank room few =
    let less : column_width rank ≤ column_width (min m n) = omega arith in
    le_trans (mul-le-mul_left n less) room.index

module _ (n m : ℕ) (l : Lent) (e : prepare_check n m l ≡ Ok tt) where
  st : State
  st = eliminated n (rows_to n (width_of n) l.rows l.constants m)

  left : Outcome Eliminated
  left = written (width_of n) st l.rows l.constants l.basis

  pub room : Room n m l
  unfolding prepare_check
  room =
      let lists = lists_short n m (length l.basis) (length l.unit_atoms) (length l.unit_values) (length l.index) in
      let fit = joined_fit n m l.rows l.constants lists e in
      let first = or_parts _ _ fit.1 in
      let second = or_parts _ _ first.1 in
      let third = or_parts _ _ second.1 in
      record {
        fit = fit.0;
        basis = ltb-false _ _ first.0;
        atoms = ltb-false _ _ second.0;
        values = ltb-false _ _ third.0;
        index = ltb-false _ _ third.1;
      }

  -- elimination does not refuse it
  unrefused : eliminate_check n m l.rows l.constants l.basis ≡ Ok tt
  unfolding eliminate_check
  unrefused = fit_joined n m l.rows l.constants (ltb (length l.basis) (min m n)) room.fit (le-ltb _ _ room.basis)

  pub never_refused : (refusal : Refusal) (ws cs ps : List ℕ) → outcome (Err refusal) ws cs ps ≡ eliminate_of n m l.rows l.constants l.basis → ⊥
  never_refused = not_refused n m l.rows l.constants l.basis unrefused

  module _ (done : Eliminated) (ws cs ps : List ℕ) (answer : outcome (Ok done) ws cs ps ≡ eliminate_of n m l.rows l.constants l.basis) where
    left_is : outcome done ws cs ps ≡ left
    unfolding left st
    left_is = done_is n m l.rows l.constants l.basis unrefused done ws cs ps answer

    whole : (p : Prepared × Lent) → followed done.refuted n m l (outcome done ws cs ps) ≡ p → (Ok p.0, p.1) ≡ prepare_of n m l
    unfolding prepare_of prepared st left
    whole p is =
        let made : p ≡ prepared n m l = sym is ∙ ap (λ (o : Outcome Eliminated). followed o.result.refuted n m l o) left_is in
        ap (λ (q : Prepared × Lent). (Ok q.0, q.1)) made ∙ ap (λ check. (answered check (prepared n m l).0, left_of check (prepared n m l).1 l)) (sym e)

    pub refuted_is : done.refuted ≡ true
        → (Ok (told_of n m done.rank done.refuted done.additions 0 0), lent ws cs ps l.unit_atoms l.unit_values l.index) ≡ prepare_of n m l
    refuted_is r =
        whole (told_of n m done.rank done.refuted done.additions 0 0, lent ws cs ps l.unit_atoms l.unit_values l.index) (rw r refl)

    -- what `enter_basis` asks
    pub named : Named n done.rank ws cs ps
    unfolding left st
    named = subst (λ (o : Outcome Eliminated). Named n o.result.rank o.rows o.constants o.basis) (sym left_is) (left_named n m l.rows l.constants l.basis room.fit.atoms room.basis)

    pub rank_least : done.rank ≤ min m n
    unfolding left st
    rank_least = subst (λ (o : Outcome Eliminated). o.result.rank ≤ min m n) (sym left_is) (rank_few n m l.rows l.constants)

    pub sound_is : done.refuted ≡ false → (units incidences : ℕ) (atoms values index : List ℕ)
        → units ≡ length (units_of (basis_of n ws cs (take done.rank ps)))
        → atoms ≡ unit_atoms_of (basis_of n ws cs (take done.rank ps)) ++ drop units l.unit_atoms
        → values ≡ unit_values_of (basis_of n ws cs (take done.rank ps)) ++ drop units l.unit_values
        → incidences ≡ incidences_of (basis_of n ws cs (take done.rank ps)) n
        → index ≡ index_of (column_width done.rank) (basis_of n ws cs (take done.rank ps)) n ++ drop (n * column_width done.rank) l.index
        → (Ok (told_of n m done.rank done.refuted done.additions units incidences), lent ws cs ps atoms values index) ≡ prepare_of n m l
    sound_is sound units incidences atoms values index u ats vals i ix =
        whole (told_of n m done.rank done.refuted done.additions units incidences, lent ws cs ps atoms values index)
        (rw (ats, vals, ix, i, u) (rw sound refl))
