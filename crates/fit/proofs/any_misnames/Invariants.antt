-- After so many entries it is known how many of them name a row, and so whether one does not.
use Rattle.std.proofs.Common.{◌≡◌, ◌≤◌, ltb}
use Rattle.fit.specs.Rows.{misnames}
use Rattle.fit.proofs.any_misnames.Given as goal

abbrev pub invariant-loop-entry : goal.invariant-loop-entry
invariant-loop-entry l = (l.naming ≤ l.entry-index) × (misnames l.m l.basis l.entry-index ≡ ltb l.naming l.entry-index)
