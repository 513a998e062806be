-- The promise is a law of proofs/Runs.antt.
use Rattle.inspect.proofs.Runs.{never_refused}
use Rattle.inspect.proofs.promises.never_refused.Goals as goal

pub returns : goal.returns
returns c = never_refused
