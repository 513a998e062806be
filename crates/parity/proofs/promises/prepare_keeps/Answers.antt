-- The promise is a law of proofs/Leaving.antt.
use Rattle.parity.proofs.Leaving.{prepare_keeps}
use Rattle.parity.proofs.promises.prepare_keeps.Goals as goal

pub returns : goal.returns
returns c = prepare_keeps
