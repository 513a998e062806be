-- The promise is a law of proofs/Rowwise.antt.
use Rattle.rows.proofs.Rowwise.{add_sums}
use Rattle.rows.proofs.promises.add_sums.Goals as goal

pub returns : goal.returns
returns c = add_sums
