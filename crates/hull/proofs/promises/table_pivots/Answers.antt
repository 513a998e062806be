-- The promise is a law of proofs/Allowed.antt.
use Rattle.hull.proofs.Allowed.{table_pivots}
use Rattle.hull.proofs.promises.table_pivots.Goals as goal

pub returns : goal.returns
returns c = table_pivots
