-- `check_rows`: written out, so that a wrong body is refused at once.
use Rattle.std.proofs.Common.{rules}
use Rattle.fit.specs.Rows.{rows_check}
use Rattle.fit.proofs.check_rows.Goals as goal

pub any_strays-requires : goal.any_strays-requires
unfolding rows_check
any_strays-requires c = search rules

pub returns-then-any_strays : goal.returns-then-any_strays
unfolding rows_check
returns-then-any_strays c = search rules

pub returns : goal.returns
unfolding rows_check
returns c = search rules

pub returns-then-rows-m : goal.returns-then-rows-m
unfolding rows_check
returns-then-rows-m c = search rules
