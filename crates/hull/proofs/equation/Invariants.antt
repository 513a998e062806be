-- The positions from the one reached on are done.
use Rattle.std.proofs.Common.{◌≡◌, ◌^◌}
use Rattle.hull.specs.Steps.{reach}
use Rattle.hull.proofs.equation.Given as goal

abbrev pub invariant-loop-position : goal.invariant-loop-position
invariant-loop-position l = reach l.pivots l.free (2 ^ l.free) ≡ reach l.pivots l.position l.coefficients
