-- `check_decision`: written out, so that a wrong body is refused at once.
use Rattle.std.proofs.Common.{arith}
use Rattle.region.proofs.Masked.{decide_is}
use Rattle.region.proofs.Region.check_decision.Goals as goal

pub returns : goal.returns
returns c = grind (arith, decide_is)

pub returns-then-atom-self : goal.returns-then-atom-self
returns-then-atom-self c = grind (arith, decide_is)
