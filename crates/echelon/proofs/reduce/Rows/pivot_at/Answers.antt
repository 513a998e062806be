-- A row whose lowest atom has no pivot is one as it stands.
use Rattle.std.proofs.Common.{◌≡◌, sym, arith}
use Rattle.echelon.proofs.Turns.{row_word}
use Rattle.echelon.proofs.First.{first_some}
use Rattle.echelon.proofs.Finishing.{reduced_start, finished_pivot}
use Rattle.echelon.proofs.reduce.Rows.pivot_at.Goals as goal

pub returns-in-None : goal.returns-in-None
returns-in-None g c p e =
    let r = c.args.self.now in
    let first = first_some c.requires.clean c.requires.first in
    let is : c.new_pivot.result ≡ p = cc in
    rw is at (finished_pivot (reduced_start c.args.first c.requires.clean first.below) c.requires.listed first.inside
    (sym (row_word r.shape.width c.args.number.0 r.words.now c.args.first first.inside)) (omega arith) first.some c.in-None.ensures c.new_pivot.ensures.head
    c.new_pivot.ensures.lowest)
