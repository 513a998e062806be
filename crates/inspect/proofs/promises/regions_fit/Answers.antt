-- The promise is a law of proofs/Runs.antt.
use Rattle.inspect.proofs.Runs.{regions_fit}
use Rattle.inspect.proofs.promises.regions_fit.Goals as goal

pub returns : goal.returns
returns c = regions_fit
