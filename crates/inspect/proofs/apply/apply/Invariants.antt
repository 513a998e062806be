use Rattle.std.proofs.Common.{length}
use Rattle.inspect.proofs.Applying.{Upto}
use Rattle.inspect.proofs.apply.apply.Given as goal

abbrev pub invariant-loop-atom : goal.invariant-loop-atom
invariant-loop-atom l = record {
  can_next : (goal.iterator-loop-atom).can_next l.atom-iterator;
  is_finite : (goal.iterator-loop-atom).is_finite l.atom-iterator;
  upto : Upto l.fn.region l.fn.atoms l.fn.values (length l.yielded) l.held l.cut l.tally;
}
