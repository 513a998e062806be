-- the words before place i are summed
use Rattle.words.proofs.Counts.{Parity}
use Rattle.words.proofs.intersection_parity.Given as goal

abbrev pub invariant-loop-i : goal.invariant-loop-i
invariant-loop-i l = Parity l.sum l.left l.right l.i
