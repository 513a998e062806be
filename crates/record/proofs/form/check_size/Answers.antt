-- `check_size`: written out, so that a wrong body is refused at once.
use Rattle.std.proofs.Common.{rules}
use Rattle.record.specs.Form.{size_check}
use Rattle.record.proofs.form.check_size.Goals as goal

pub returns : goal.returns
unfolding size_check
returns c = search rules
