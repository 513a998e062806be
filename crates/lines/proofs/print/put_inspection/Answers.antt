-- The line of a refused inspection.
use Rattle.lines.proofs.print.put_inspection.Goals as goal

pub returns-in-Err : goal.returns-in-Err
returns-in-Err c = rw c.in-Err.is c.put_two-in-Err.ensures
