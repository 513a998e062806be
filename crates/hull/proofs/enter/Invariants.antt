use Rattle.hull.specs.Steps.{entered}
use Rattle.hull.proofs.Turns.{Entering}
use Rattle.hull.proofs.enter.Given as goal

abbrev pub invariant-loop-position : goal.invariant-loop-position
invariant-loop-position l = Entering l.initial.pivots l.pivots l.position l.left (entered 0 l.initial.pivots l.difference)
