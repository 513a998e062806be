use Rattle.std.proofs.Common.{arith}
use Rattle.hull.specs.Steps.{reach}
use Rattle.hull.proofs.Turns.{bit_shl, reach_turn}
use Rattle.hull.proofs.equation.Goals as goal

pub loop-position-preserved : goal.loop-position-preserved
loop-position-preserved c = grind (arith, bit_shl, reach_turn)

pub returns : goal.returns
unfolding reach
returns c = grind arith
