-- The basis is that of the anchor and of the patterns allowed below the one reached.
use Rattle.std.proofs.Common.{◌≡◌}
use Rattle.hull.specs.Table.{forbids}
use Rattle.hull.proofs.Spanned.{basis_to}
use Rattle.hull.proofs.span.Given as goal

abbrev pub invariant-loop-pattern : goal.invariant-loop-pattern
invariant-loop-pattern l = l.basis ≡ basis_to (forbids l.forbidden) l.k l.anchor l.pattern
