-- The promise is a law of proofs/Rowwise.antt.
use Rattle.rows.proofs.Rowwise.{lowest_is_lowest}
use Rattle.rows.proofs.promises.lowest_is_lowest.Goals as goal

pub returns : goal.returns
returns c = lowest_is_lowest
