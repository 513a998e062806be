-- The promise is a law of proofs/Basis.antt.
use Rattle.echelon.proofs.Basis.{pivots_differ}
use Rattle.echelon.proofs.promises.pivots_differ.Goals as goal

pub returns : goal.returns
returns c = pivots_differ
