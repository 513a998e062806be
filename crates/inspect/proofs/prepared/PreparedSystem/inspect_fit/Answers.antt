-- What the checks leave of what is lent, and what the touched rows come to.
use Rattle.std.proofs.Common.{arith}
use Rattle.inspect.specs.Inspect.{filled}
use Rattle.inspect.proofs.Fits.{checked_fits}
use Rattle.inspect.proofs.Inspecting.{Collected, wrong_is, applied_is, applicable, fits_named}
use Rattle.inspect.proofs.prepared.PreparedSystem.inspect_fit.Goals as goal
use Rattle.inspect.proofs.prepared.PreparedSystem.inspect_fit.Goals.{After-collect_touched}

-- what the touched rows say, collected
collected : (c : After-collect_touched)
    → let a = c.args in
    let p = a.self.now in
    Collected p.system (filled p.rows.now p.constants.now p.basis.now p.index.now) a.region a.known a.forced_atoms.now a.forced_values.now c.select-touched.result
    c.collect_touched.result c.collect_touched.new.atoms c.collect_touched.new.values
collected c = record {
  fine = c.requires;
  sound = c.if-system.false;
  some = c.if-system-eq0.false;
  selected = c.select-touched.ensures;
  gathered = c.collect_touched.ensures;
}

pub invariant_of-basis : goal.invariant_of-basis
invariant_of-basis c =
    let fits = checked_fits _ _ _ _ _ _ c.requires in
    record { few = fits.lent.atoms; ranked = omega (arith, fits.ranked); named = fits_named _ _ _ _ _ _ fits }

pub collect_touched-requires : goal.collect_touched-requires
collect_touched-requires c =
    let fits = checked_fits _ _ _ _ _ _ c.requires in
    (fits.region, fits.same_atoms, fits.atoms_room, fits.values_room)

pub conclude-requires : goal.conclude-requires
conclude-requires c =
    applicable _ _ _ _ _ _ (collected (goal.at.conclude-requires c).After-collect_touched) c.in-Ok.forced c.in-Ok.is c.collect_touched.auto.atoms c.collect_touched.auto.values

pub returns-in-Ok : goal.returns-in-Ok
returns-in-Ok c =
    rw c.conclude.ensures (applied_is _ _ _ _ _ _ (collected (goal.at.returns-in-Ok c).After-collect_touched) c.in-Ok.forced c.in-Ok.is)

pub returns-in-Err : goal.returns-in-Err
returns-in-Err c =
    rw c.stands-in-Err.ensures (wrong_is _ _ _ _ _ _ (collected (goal.at.returns-in-Err c).After-collect_touched) c.in-Err.found c.in-Err.is)
