-- one word more is joined, and sets of unlike length are left as they are
use Rattle.std.proofs.Common.{rules, arith}
use borrow.Author.Tests.{ne_eqb}
use Rattle.words.specs.Calls.{merged}
use Rattle.words.proofs.Merged.{merged_more, merged_all}
use Rattle.words.proofs.merge.Goals as goal

pub returns-then-left-right-clause-words : goal.returns-then-left-right-clause-words
unfolding merged
returns-then-left-right-clause-words g c = λ f h. simp (ne_eqb _ _ c.if-left-right.true)

pub loop-i-preserved : goal.loop-i-preserved
loop-i-preserved g c = λ f h.
    merged_more f c.args.left.now c.args.right.now c.if-left-right.false c.loop-i.i c.loop-i.left c.op.result (omega arith)
    (c.loop-i.invariant f h) (h _ _ (search rules) (search rules) _ c.op.ensures)

pub returns-clause-words : goal.returns-clause-words
returns-clause-words g c = λ f h.
    merged_all f c.args.left.now c.args.right.now c.if-left-right.false c.loop-i.i c.loop-i.left (omega arith) (c.loop-i.invariant f h)
