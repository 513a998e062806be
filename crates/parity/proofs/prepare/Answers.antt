-- Elimination does not refuse what was checked, and leaves what units and index ask.
use Rattle.std.proofs.Common.{sym, arith}
use Prim.Native.Nat.{◌≤◌, min}
use Rattle.parity.proofs.Whole.{room, never_refused, refuted_is, named, rank_least, index_holds, sound_is}
use Rattle.parity.proofs.prepare.Goals as goal
use Rattle.parity.proofs.prepare.Goals.{Else-done}

pub returns-in_err-done : goal.returns-in_err-done
returns-in_err-done c = absurd (never_refused _ _ _ (sym c.in_ok-check.ensures) _ _ _ _ c.in_err-done.ensures)

pub returns-then-done : goal.returns-then-done
returns-then-done c = refuted_is _ _ _ (sym c.in_ok-check.ensures) _ _ _ _ c.in_ok-done.ensures c.if-done.true

few : (c : Else-done) → c.in_ok-done.done.rank ≤ min c.args.m c.args.n
few c = rank_least _ _ _ (sym c.in_ok-check.ensures) _ _ _ _ c.in_ok-done.ensures

pub invariant_of-left : goal.invariant_of-left
invariant_of-left c =
    let atoms = (room _ _ _ (sym c.in_ok-check.ensures)).fit.atoms in
    record {
      few = atoms;
      ranked = omega (arith, few (goal.at.invariant_of-left c).Else-done, atoms);
      named = named _ _ _ (sym c.in_ok-check.ensures) _ _ _ _ c.in_ok-done.ensures;
    }

pub enter_basis-counts-requires-clause-atoms : goal.enter_basis-counts-requires-clause-atoms
enter_basis-counts-requires-clause-atoms c =
    omega (arith, few (goal.at.enter_basis-counts-requires-clause-atoms c).Else-done, (room _ _ _ (sym c.in_ok-check.ensures)).atoms)

pub enter_basis-counts-requires-clause-values : goal.enter_basis-counts-requires-clause-values
enter_basis-counts-requires-clause-values c =
    omega (arith, few (goal.at.enter_basis-counts-requires-clause-values c).Else-done, (room _ _ _ (sym c.in_ok-check.ensures)).values)

pub enter_basis-counts-requires-clause-columns : goal.enter_basis-counts-requires-clause-columns
enter_basis-counts-requires-clause-columns c = index_holds _ _ _ _ (room _ _ _ (sym c.in_ok-check.ensures)) (few (goal.at.enter_basis-counts-requires-clause-columns c).Else-done)

pub returns : goal.returns
returns c =
    let made = c.enter_basis-counts.ensures in
    sound_is _ _ _ (sym c.in_ok-check.ensures) _ _ _ _ c.in_ok-done.ensures c.if-done.false _ _ _ _ _ made.units made.atoms made.values made.incidences made.index
