-- one word more is summed, and the sum has the parity of the shared atoms
use Rattle.std.proofs.Common.{ap, arith}
use Rattle.std.specs.Prelude.{Ok, eqb}
use borrow.Author.Tests.{eq-eqb}
use Rattle.words.specs.Calls.{parity_of}
use Rattle.words.proofs.Counts.{parity_start, parity_next, parity_end}
use Rattle.words.proofs.intersection_parity.Goals as goal

pub loop-i-init : goal.loop-i-init
loop-i-init c = parity_start c.args.left.now c.args.right.now

pub loop-i-preserved : goal.loop-i-preserved
loop-i-preserved c =
    parity_next c.loop-i.sum c.args.left.now c.args.right.now c.loop-i.i (omega (arith, c.loop-i-test.true)) (omega (arith, c.loop-i-test.true, c.in_ok-alike.ensures))
    (c.type_inv.left c.loop-i.i).fits c.loop-i.invariant

pub returns : goal.returns
unfolding parity_of
returns c =
    simp (eq-eqb _ _ c.in_ok-alike.ensures)
    (ap (λ n. Ok (eqb n 1)) (parity_end c.loop-i.sum c.args.left.now c.args.right.now c.loop-i.i (omega (arith, c.loop-i-test.false)) c.loop-i.invariant))
