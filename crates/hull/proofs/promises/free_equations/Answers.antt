-- The promise is a law of proofs/Only.antt.
use Rattle.hull.proofs.Only.{free_equations}
use Rattle.hull.proofs.promises.free_equations.Goals as goal

pub returns : goal.returns
returns c = free_equations
