-- `check_table_size`: written out, so that a wrong body is refused at once.
use Rattle.std.proofs.Common.{rules}
use Rattle.record.specs.Form.{table_size_check}
use Rattle.record.proofs.form.check_table_size.Goals as goal

pub returns : goal.returns
unfolding table_size_check
returns c = search rules

pub returns-in_err-unless-2 : goal.returns-in_err-unless-2
unfolding table_size_check
returns-in_err-unless-2 c = search rules
