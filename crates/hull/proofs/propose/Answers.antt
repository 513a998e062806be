use Rattle.std.proofs.Common.{◌≡◌, ℕ, ◌≤◌, min, ap, arith}
use Rattle.hull.specs.Equations.{hull_of}
use Rattle.hull.specs.Propose.{limit, table_words}
use Rattle.hull.proofs.Spanned.{found_fits}
use Rattle.hull.proofs.Told.{large, long, fit, told_none, told_some}
use Rattle.hull.proofs.propose.Goals as goal

words : (k : ℕ) → k ≤ limit → table_words (min k limit) ≡ table_words k
words k h = ap table_words (omega arith)

pub returns-then-k-gt-LIMIT : goal.returns-then-k-gt-LIMIT
returns-then-k-gt-LIMIT c = grind (arith, large, long, words)

pub equations-hull-requires : goal.equations-hull-requires
equations-hull-requires c = found_fits _ _ _ c.if-k-gt-LIMIT.false c.in-Some.ensures

pub returns-in-None : goal.returns-in-None
unfolding hull_of
returns-in-None c = grind (arith, told_none, fit, words)

pub returns-in-Some : goal.returns-in-Some
unfolding hull_of
returns-in-Some c = grind (arith, told_some, fit, words)
