-- One record more, and all of them.
use Rattle.inspect.specs.Inspect.{filled}
use Rattle.lines.proofs.Onwards.{onward_turn, onward_end}
use Rattle.lines.proofs.put_lines.Goals as goal

pub loop-record-preserved : goal.loop-record-preserved
loop-record-preserved c =
    let l = c.args.prepared.now in
    onward_turn c.args.file.now l.system (filled l.rows.now l.constants.now l.basis.now l.index.now) c.in-Some.ensures.steps c.loop-record.invariant.0
    c.loop-record.invariant.1 c.turn.ensures

pub returns : goal.returns
returns c =
    let l = c.args.prepared.now in
    onward_end c.args.file.now l.system (filled l.rows.now l.constants.now l.basis.now l.index.now) (rw c.loop-record.invariant.0 at c.in-None.ensures.steps)
    c.loop-record.invariant.1
