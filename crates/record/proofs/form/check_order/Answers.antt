-- `check_order`: written out, so that a wrong body is refused at once.
use Rattle.std.proofs.Common.{rules}
use Rattle.record.specs.Form.{kind_check}
use Rattle.record.proofs.form.check_order.Goals as goal

pub returns : goal.returns
unfolding kind_check
returns c = search rules

pub returns-in_err-unless : goal.returns-in_err-unless
unfolding kind_check
returns-in_err-unless c = search rules
