-- `add_rows`: written out, so that a wrong body is refused at once.
use Rattle.std.proofs.Common.{rules}
use Rattle.records.proofs.bring.add_rows.Goals as goal

pub returns : goal.returns
returns c = search rules
