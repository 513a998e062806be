-- `by_ref::write` meets its contract: a turn writes one entry more.
use Rattle.std.proofs.Common.{arith}
use Rattle.by_ref.proofs.Lists.{none, one_more}
use Rattle.by_ref.proofs.write.Goals as goal

pub loop-i-init : goal.loop-i-init
loop-i-init c = none c.args.atoms.now c.args.values.now c.args.list.now

pub loop-i-preserved : goal.loop-i-preserved
loop-i-preserved c = grind (arith, one_more)
