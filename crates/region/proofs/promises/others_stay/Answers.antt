-- The promise is a law of proofs/Standing.antt.
use Rattle.region.proofs.Standing.{others_stay}
use Rattle.region.proofs.promises.others_stay.Goals as goal

pub returns : goal.returns
returns c = others_stay
