-- `add_from`: the words before word k are added (`AddedTo`).
use Rattle.probe.proofs.OpenRows.{AddedTo}
use Rattle.probe.proofs.open_row.OpenRow.add_from.Given as goal

abbrev pub invariant-loop-k : goal.invariant-loop-k
invariant-loop-k g l = AddedTo l.i l.k l.fn.self l.other l.self
