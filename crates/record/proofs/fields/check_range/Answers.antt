-- `check_range`: written out, so that a wrong body is refused at once.
use Rattle.std.proofs.Common.{rules}
use Rattle.record.specs.Fields.{range_check}
use Rattle.record.proofs.fields.check_range.Goals as goal

pub returns-in-Atoms : goal.returns-in-Atoms
unfolding range_check
returns-in-Atoms c = search rules

pub returns-in_err-unless-in-Row : goal.returns-in_err-unless-in-Row
unfolding range_check
returns-in_err-unless-in-Row c = search rules

pub returns-in_ok-unless-in-Decide : goal.returns-in_ok-unless-in-Decide
unfolding range_check
returns-in_ok-unless-in-Decide c = search rules

pub returns-in_ok-unless-in-Row : goal.returns-in_ok-unless-in-Row
unfolding range_check
returns-in_ok-unless-in-Row c = search rules
