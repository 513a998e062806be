use Rattle.std.proofs.Common.{◌+◌, ◌*◌, ◌≤◌, arith, length, ◌∙◌}
use Rattle.hull.proofs.Turns.{byte_bit}
use Rattle.rows.proofs.Adding.{earlier}
use Rattle.embed.proofs.Marking.{put_row, put_length}
use Rattle.embed.proofs.Writing.{writing_start, writing_next, words_written, constants_written}
use Rattle.embed.proofs.write_rows.Goals as goal

pub loop-i-init : goal.loop-i-init
loop-i-init c = writing_start _ _ _ _ _ _

pub loop-i-preserved : goal.loop-i-preserved
loop-i-preserved c =
    let f = c.args.first.0 in
    let i = c.loop-i.i in
    let es = c.args.equations.now in
    let words : (f + i) * c.args.width + c.args.width ≤ length c.args.rows.now = omega (arith, c.requires.words, earlier c.args.width (f + length es) (f + i) (omega arith)) in
    let room : (f + i) * c.args.width + c.args.width ≤ length c.loop-i.rows = omega (arith, c.loop-i.invariant.kept) in
    writing_next _ _ es _ _ f _ _ i c.loop-i-test.true words (omega (arith, c.requires.constants)) c.loop-i.invariant _
    (put_row _ _ _ _ _ _ room c.write_row.ensures) (put_length _ _ _ _ _ _ room c.write_row.ensures) _ (c.from.ensures ∙ byte_bit _)

pub returns-clause-words : goal.returns-clause-words
returns-clause-words c = grind (arith, words_written)

pub returns-clause-constants : goal.returns-clause-constants
returns-clause-constants c = grind (arith, constants_written)
