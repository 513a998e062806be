-- The equations before the one reached are written.
use Rattle.embed.proofs.Writing.{Writing}
use Rattle.embed.proofs.write_rows.Given as goal

abbrev pub invariant-loop-i : goal.invariant-loop-i
invariant-loop-i l = Writing l.width l.names l.equations l.initial.rows l.initial.constants l.first.0 l.rows l.constants l.i
