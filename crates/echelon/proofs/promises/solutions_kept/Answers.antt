-- The promise is a law of proofs/Solutions.antt.
use Rattle.echelon.proofs.Solutions.{solutions_kept}
use Rattle.echelon.proofs.promises.solutions_kept.Goals as goal

pub returns : goal.returns
returns c = solutions_kept
