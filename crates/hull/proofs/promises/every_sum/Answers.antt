-- The promise is a law of proofs/Chosen.antt.
use Rattle.hull.proofs.Chosen.{every_sum}
use Rattle.hull.proofs.promises.every_sum.Goals as goal

pub returns : goal.returns
returns c = every_sum
