-- `probe`: refused, refuted, or what elimination leaves.
use Rattle.std.proofs.Common.{◌≡◌, sym, Ok}
use Rattle.region.specs.Masks.{decisions}
use Rattle.probe.specs.Probe.{probe_check}
use Rattle.inspect.specs.Steps.{Masked}
use Rattle.probe.proofs.Probing.{Lent, checked_lent, fine_is, sound_is}
use Rattle.probe.proofs.probe.Goals as goal
use Rattle.probe.proofs.probe.Goals.{In_ok-check}

-- what has been lent where it is not refused
fit : (c : In_ok-check) → let a = c.args in probe_check a.system a.rows.now a.constants.now a.basis.now a.region ≡ Ok tt
fit c = sym c.in_ok-check.ensures

sound : (c : In_ok-check) → let a = c.args in Lent a.system a.rows.now a.constants.now a.basis.now a.region
sound c = let a = c.args in checked_lent a.system a.rows.now a.constants.now a.basis.now a.region (fit c)

pub open_count-undecided-requires : goal.open_count-undecided-requires
open_count-undecided-requires c = (sound (goal.at.open_count-undecided-requires c).In_ok-check).region

pub invariant_of-lent : goal.invariant_of-lent
invariant_of-lent c =
    let is = sound (goal.at.invariant_of-lent c).In_ok-check in
    record { few = is.few; ranked = is.ranked; named = is.named }

pub returns : goal.returns
returns c =
    let a = c.args in
    let is = sound (goal.at.returns c).In_ok-check in
    let masked : Masked a.system.atoms (decisions a.region) c.from.result.held c.from.result.free = rw (sym is.same) (c.from.ensures.2 is.region) in
    fine_is a.system a.rows.now a.constants.now a.basis.now a.region (fit (goal.at.returns c).In_ok-check) _
    (sound_is a.system a.rows.now a.constants.now a.basis.now a.region c.open_count-undecided.result c.open_count-undecided.ensures c.if-system.false c.eliminate-left.result
    (c.eliminate-left.ensures (decisions a.region) masked))
