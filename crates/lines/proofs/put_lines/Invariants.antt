-- The lines that are left lead to all of them.
use Rattle.std.proofs.Common.{◌≡◌}
use Rattle.inspect.specs.Inspect.{filled}
use Rattle.inspect.specs.Run.{begins}
use Rattle.format.specs.Starts.{starts}
use Rattle.lines.specs.Lines.{lines_from}
use Rattle.lines.specs.Steps.{state_of}
use Rattle.lines.proofs.Onwards.{Onward}
use Rattle.lines.proofs.put_lines.Given as goal

abbrev pub invariant-loop-record : goal.invariant-loop-record
invariant-loop-record l =
    let f = filled l.prepared.rows.now l.prepared.constants.now l.prepared.basis.now l.prepared.index.now in
    (l.record-iterator.next.file.now ≡ l.file)
    × Onward l.file l.prepared.system f (lines_from l.file l.prepared.system f (begins l.prepared.system.atoms) (starts l.file 0)) l.fn.text (state_of l.state) l.record-iterator.next.offset l.text
