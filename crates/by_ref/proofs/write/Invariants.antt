-- `by_ref::write`: the entries before place i are written.
use Rattle.std.proofs.Common.{◌≡◌}
use Rattle.by_ref.specs.Steps.{written}
use Rattle.by_ref.proofs.write.Given as goal

abbrev pub invariant-loop-i : goal.invariant-loop-i
invariant-loop-i l = l.list ≡ written l.atoms l.values l.i l.initial.list
