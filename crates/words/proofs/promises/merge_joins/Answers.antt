-- The promise is a law of proofs/Meaning.antt.
use Rattle.words.proofs.Meaning.{merge_joins}
use Rattle.words.proofs.promises.merge_joins.Goals as goal

pub returns : goal.returns
returns c = merge_joins
