-- the words passed are empty
use Rattle.words.proofs.Scan.{From}
use Rattle.words.proofs.first.Given as goal

abbrev pub invariant-loop-i : goal.invariant-loop-i
invariant-loop-i l = From 64 l.words l.i
