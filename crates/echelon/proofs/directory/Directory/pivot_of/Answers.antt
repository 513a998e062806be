-- What stands in word i's part stands in the whole at its atom.
use Rattle.std.proofs.Common.{◌<◌, arith}
use Rattle.std.proofs.lemmas.Grind.{common_steps}
use Rattle.words.proofs.Lowest.{trailing_form}
use Rattle.echelon.proofs.Looks.{head_at}
use Rattle.echelon.proofs.directory.Directory.pivot_of.Goals as goal

pub returns-then-pivot-eq0 : goal.returns-then-pivot-eq0
returns-then-pivot-eq0 g c =
    let some : 0 < c.args.word = omega arith in
    let h = c.if-pivot-eq0.true in
    let e = head_at c.args.self.now.pivots c.args.i c.args.word some in
    let below = (trailing_form 64 c.args.word some (omega arith)).below in
    grind (arith, common_steps)
