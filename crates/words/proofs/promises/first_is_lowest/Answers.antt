-- The promise is a law of proofs/Meaning.antt.
use Rattle.words.proofs.Meaning.{first_is_lowest}
use Rattle.words.proofs.promises.first_is_lowest.Goals as goal

pub returns : goal.returns
returns c = first_is_lowest
