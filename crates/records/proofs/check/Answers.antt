-- `check`: written out, so that a wrong body is refused at once.
use Rattle.std.proofs.Common.{rules}
use Rattle.records.specs.Check.{check_of}
use Rattle.records.proofs.check.Goals as goal

pub returns : goal.returns
unfolding check_of
returns c = search rules

pub returns-in_err-unless : goal.returns-in_err-unless
unfolding check_of
returns-in_err-unless c = search rules

pub returns-in_err-unless-2 : goal.returns-in_err-unless-2
unfolding check_of
returns-in_err-unless-2 c = search rules
