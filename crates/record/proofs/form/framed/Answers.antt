-- `framed`: written out, so that a wrong body is refused at once.
use Rattle.std.proofs.Common.{rules}
use Rattle.record.proofs.form.framed.Goals as goal

pub returns-then-length-ge2 : goal.returns-then-length-ge2
returns-then-length-ge2 c = search rules
