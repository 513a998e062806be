use Rattle.std.proofs.Common.{refl, arith}
use Rattle.region.proofs.Nexts.{next_none, next_some}
use Rattle.region.proofs.AtomsIterator.next.Goals as goal

pub returns-in_err-atom-clause-steps : goal.returns-in_err-atom-clause-steps
returns-in_err-atom-clause-steps c = rw c.from_residual.ensures (refl, refl, next_none _ _ c.next.ensures c.in_err-atom.was _)

pub returns-then-atom-self-clause-steps : goal.returns-then-atom-self-clause-steps
returns-then-atom-self-clause-steps c = (refl, refl, λ a from below. (next_some _ _ c.next.ensures c.in_ok-atom.was).2 a from (omega arith))

pub returns-clause-steps : goal.returns-clause-steps
returns-clause-steps c =
    let found = next_some _ _ c.next.ensures c.in_ok-atom.was in
    (refl, refl, (found.0, c.if-atom-self.false, found.1, found.2, refl))

pub returns-clause-goes : goal.returns-clause-goes
returns-clause-goes c =
    let found = next_some _ _ c.next.ensures c.in_ok-atom.was in
    record { on = λ h. (tt, tt, omega arith); keeps = tt; rests = λ h. tt }
