-- Before word i the row is `Reduced` from word i on.
use Rattle.echelon.specs.Steps.{SameRows, ReducesWord}
use Rattle.echelon.proofs.reduce.Rows.reduce.Given as goal

abbrev pub invariant-loop-i : goal.invariant-loop-i
invariant-loop-i g l = SameRows l.fn.self l.self × ReducesWord l.fn.self l.self l.number.0 l.i l.additions
