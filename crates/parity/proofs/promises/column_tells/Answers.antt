-- The promise is a law of proofs/Telling.antt.
use Rattle.parity.proofs.Telling.{column_tells}
use Rattle.parity.proofs.promises.column_tells.Goals as goal

pub returns : goal.returns
returns c = column_tells
