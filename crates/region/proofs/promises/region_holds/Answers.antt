-- The promise is a law of proofs/Standing.antt.
use Rattle.region.proofs.Standing.{region_holds}
use Rattle.region.proofs.promises.region_holds.Goals as goal

pub returns : goal.returns
returns c = region_holds
