use Rattle.region.proofs.Nexts.{Past}
use Rattle.region.proofs.next.Given as goal

abbrev pub invariant-loop-i : goal.invariant-loop-i
invariant-loop-i l = Past 64 l.mask l.from l.i
