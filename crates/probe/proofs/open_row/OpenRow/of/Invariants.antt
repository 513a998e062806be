-- `of`: after i turns the first i words are written and summed (`Opening`).
use lib.ListN.{replicate}
use Rattle.probe.proofs.Opening.{Opening}
use Rattle.probe.proofs.open_row.OpenRow.of.Given as goal

abbrev pub invariant-loop-i : goal.invariant-loop-i
invariant-loop-i g l = Opening l.row.words.now l.masks.held l.masks.free (replicate g.row.W 0) l.words l.sum l.i
