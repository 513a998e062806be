-- After some turns row t, with word i in the local, is `Turn`.
use Rattle.echelon.specs.Steps.{WordsFit, rest}
use Rattle.echelon.proofs.Turns.{worked, Turn}
use Rattle.echelon.proofs.reduce.Rows.reduce_word.Given as goal

abbrev pub invariant-loop-pivot : goal.invariant-loop-pivot
invariant-loop-pivot g l =
    Turn l.fn.self.shape.atoms l.width l.number.0 l.i l.initial.words l.initial.constants l.words l.constants l.word l.additions
    × WordsFit l.words

abbrev pub decreases-loop-pivot : goal.decreases-loop-pivot
decreases-loop-pivot g l = rest (worked l.fn.self.shape.atoms l.width l.number.0 l.words l.constants l.i l.word).atoms
