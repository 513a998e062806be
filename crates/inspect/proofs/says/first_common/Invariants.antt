use Rattle.words.proofs.Scan.{From}
use Rattle.words.proofs.Common.{common}
use Rattle.inspect.proofs.says.first_common.Given as goal

abbrev pub invariant-loop-i : goal.invariant-loop-i
invariant-loop-i l = From 64 (common l.row l.mask) l.i
