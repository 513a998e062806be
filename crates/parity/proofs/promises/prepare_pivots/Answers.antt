-- The promise is a law of proofs/Leaving.antt.
use Rattle.parity.proofs.Leaving.{prepare_pivots}
use Rattle.parity.proofs.promises.prepare_pivots.Goals as goal

pub returns : goal.returns
returns c = prepare_pivots
