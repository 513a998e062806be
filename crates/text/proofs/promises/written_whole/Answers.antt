-- The promise is a law of proofs/Written.antt.
use Rattle.text.proofs.Written.{wrote_whole}
use Rattle.text.proofs.promises.written_whole.Goals as goal

pub returns : goal.returns
returns c = wrote_whole
