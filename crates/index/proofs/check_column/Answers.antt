-- `check_column`: written out, so that a wrong body is refused at once.
use Rattle.std.proofs.Common.{rules}
use Rattle.index.specs.Column.{column_check}
use Rattle.index.proofs.check_column.Goals as goal

pub any_overranks-requires : goal.any_overranks-requires
unfolding column_check
any_overranks-requires c = search rules

pub returns-then-any_overranks : goal.returns-then-any_overranks
unfolding column_check
returns-then-any_overranks c = search rules

pub returns-then-atom-n : goal.returns-then-atom-n
unfolding column_check
returns-then-atom-n c = search rules

pub returns : goal.returns
unfolding column_check
returns c = search rules

pub returns-then-index-n : goal.returns-then-index-n
unfolding column_check
returns-then-index-n c = search rules
