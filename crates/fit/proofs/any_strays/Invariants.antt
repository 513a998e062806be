-- After so many constants their union tells whether one of them is above 1.
use Rattle.std.proofs.Common.{◌≡◌, ltb}
use Rattle.fit.proofs.Strays.{constants_stray}
use Rattle.fit.proofs.any_strays.Given as goal

abbrev pub invariant-loop-constant : goal.invariant-loop-constant
invariant-loop-constant l = ltb 1 l.union ≡ constants_stray l.constants l.constant-index
