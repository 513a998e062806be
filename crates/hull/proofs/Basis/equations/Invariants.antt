-- The places below the one reached have their equations filed.
use Rattle.std.proofs.Common.{◌≤◌}
use Rattle.hull.proofs.Filed.{Filed}
use Rattle.hull.proofs.Basis.equations.Given as goal

abbrev pub invariant-loop-free : goal.invariant-loop-free
invariant-loop-free l = Filed l.self.anchor l.self.pivots l.k l.free l.count l.equations × (l.count ≤ l.free)
