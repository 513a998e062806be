-- After t rows the memory is `Upto`, and before the first addition it is as handed in.
use Rattle.std.proofs.Common.{◌≡◌}
use Rattle.echelon.specs.Steps.{SameRows}
use Rattle.echelon.proofs.Upto.{Upto}
use Rattle.echelon.proofs.eliminate_rows.Given as goal

abbrev pub invariant-loop-s : goal.invariant-loop-s
invariant-loop-s g l =
    Upto l.fn.shape.atoms l.fn.shape.width l.s l.fn.words l.fn.constants l.fn.basis l.fn.words l.fn.constants l.basis l.directory.pivots l.s 0 × (l.rank ≡ l.s)

abbrev pub invariant-loop-t : goal.invariant-loop-t
invariant-loop-t g l =
    let r = l.initial.rows in
    SameRows r l.rows
    × Upto r.shape.atoms r.shape.width l.t r.words.now r.constants.now l.fn.basis l.rows.words.now l.rows.constants.now l.basis l.directory.pivots l.rank l.additions
