-- A turn is `Made` by the pivot that is found; at the end the word is written back.
use Rattle.std.proofs.Common.{◌+◌, ◌*◌, arith}
use Rattle.echelon.proofs.Turns.{turn_start, turn_end, row_word}
use Rattle.echelon.proofs.Looks.{Made, turn_made}
use Rattle.echelon.proofs.reduce.Rows.reduce_word.Given.{Over}
use Rattle.echelon.proofs.reduce.Rows.reduce_word.Goals as goal
use Rattle.echelon.proofs.reduce.Rows.reduce_word.Goals.{In-Some}

-- what the pivot that is found makes of the row
made : (g : Over) (c : In-Some g) → let r = c.args.self.now in let l = c.loop-pivot in
    Made r.shape.atoms r.shape.width c.args.number.0 c.args.i r.words.now r.constants.now l.words l.constants l.word l.additions c.in-Some.pivot
made g c = turn_made c.loop-pivot.invariant.0 c.in-Some.ensures c.requires.clean c.requires.listed c.requires.place (omega arith) (omega arith)

pub loop-pivot-init : goal.loop-pivot-init
loop-pivot-init g c =
    let a = c.args in
    let r = a.self.now in
    let t = a.number.0 in
    let same = row_word r.shape.width t r.words.now a.i c.requires.place in
    (rw same at (turn_start a.i c.requires.place c.requires.clean c.requires.empty (rw same (c.type_inv.words (t * r.shape.width + a.i)).fits)), λ i. (c.type_inv.words i).fits)

pub add_words-requires-clause-earlier : goal.add_words-requires-clause-earlier
add_words-requires-clause-earlier g c = (made g (goal.at.add_words-requires-clause-earlier g c).In-Some).earlier

pub bounds-constants-pivot : goal.bounds-constants-pivot
bounds-constants-pivot g c = (made g (goal.at.bounds-constants-pivot g c).In-Some).there

pub overflow_add-additions : goal.overflow_add-additions
overflow_add-additions g c = omega (arith, (made g (goal.at.overflow_add-additions g c).In-Some).few)

pub loop-pivot-smaller : goal.loop-pivot-smaller
loop-pivot-smaller g c = rw c.add_words.ensures (made g (goal.at.loop-pivot-smaller g c).In-Some).falls

pub loop-pivot-preserved : goal.loop-pivot-preserved
loop-pivot-preserved g c = (rw c.add_words.ensures (made g (goal.at.loop-pivot-preserved g c).In-Some).next, λ i. (c.type_inv.words i).fits)

pub returns-clause-left : goal.returns-clause-left
returns-clause-left g c = turn_end c.requires.place c.requires.clean (omega arith) c.loop-pivot.invariant.0 c.loop-pivot.invariant.1
