use Rattle.std.proofs.Common.{◌≡◌}
use Rattle.rows.specs.Calls.{union_of}
use Rattle.rows.proofs.union_at.Given as goal

abbrev pub invariant-loop-i : goal.invariant-loop-i
invariant-loop-i l = l.union ≡ union_of l.width l.word l.words l.i
