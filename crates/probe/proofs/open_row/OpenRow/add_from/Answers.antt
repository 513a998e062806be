-- `add_from`: a turn adds one word more.
use Rattle.std.proofs.Common.{rules}
use Rattle.probe.proofs.OpenRows.{added_start, added_next, added_end}
use Rattle.probe.proofs.open_row.OpenRow.add_from.Goals as goal

pub loop-k-init : goal.loop-k-init
loop-k-init g c = added_start c.args.i c.args.self.now c.args.other.now

pub loop-k-preserved : goal.loop-k-preserved
loop-k-preserved g c = added_next c.loop-k.invariant (search rules)

pub returns : goal.returns
returns g c = added_end c.loop-k.invariant (search rules)
