-- The pivot of the lowest atom of a word of a row.
use Rattle.std.proofs.Common.{sym, ap, ◌∙◌, arith}
use lib.ListN.{get_or}
use Rattle.probe.specs.declared.open_row.OpenRow.{OpenRow}
use Rattle.probe.proofs.Reducing.{pivot_none, pivot_read}
use Rattle.probe.proofs.pivots.Pivots.pivot_of.Goals as goal

pub returns-then-word-eq0 : goal.returns-then-word-eq0
returns-then-word-eq0 g c = pivot_none c.args.self.now.rows c.args.i c.args.word c.if-word-eq0.true

pub returns-then-pivot-i-eq0 : goal.returns-then-pivot-i-eq0
returns-then-pivot-i-eq0 g c =
    ap (λ (r : OpenRow g.row.W). get_or r.words c.args.i 0)
    (sym (pivot_read c.args.self.now.rows c.args.i c.args.word (omega arith) (omega (arith, c.requires.atom (omega arith), c.args.self.now.long)) c.index-self-i.result))
    ∙ c.if-pivot-i-eq0.true

pub returns : goal.returns
returns g c = (
  omega arith,
  pivot_read c.args.self.now.rows c.args.i c.args.word (omega arith) (omega (arith, c.requires.atom (omega arith), c.args.self.now.long)) c.index-self-i.result,
)
