-- Up to 64 atoms a row is one word: where there is a row there is an atom.
use Rattle.std.proofs.Common.{arith}
use Rattle.probe.proofs.eliminate.eliminate.Goals as goal

pub eliminate_rows-requires-clause-width : goal.eliminate_rows-requires-clause-width
eliminate_rows-requires-clause-width c = (λ some. omega (arith, c.args.basis.ranked), omega arith)

pub eliminate_rows-requires-then-basis-le64-clause-width : goal.eliminate_rows-requires-then-basis-le64-clause-width
eliminate_rows-requires-then-basis-le64-clause-width c = (λ some. omega (arith, c.args.basis.ranked), omega arith)
