-- The mask of the value is looked at first, then the other one; `taken`, `same` and `against` say what each finding comes to.
use Rattle.std.proofs.Common.{sym, arith}
use Rattle.region.proofs.Passed.{eight_of}
use Rattle.region.proofs.Deciding.{same, against, taken}
use Rattle.region.proofs.Region.decide.Goals as goal

pub returns-then-contains : goal.returns-then-contains
returns-then-contains c = same c.args.self c.args.atom (sym c.in_default.ensures) (eight_of c.args.self _ c.well_formed.0) c.args.value (cc)

pub returns-then-contains-2 : goal.returns-then-contains-2
returns-then-contains-2 c = against c.args.self c.args.atom (sym c.in_default.ensures) (eight_of c.args.self _ c.well_formed.0) c.args.value (cc)

pub returns-then-value : goal.returns-then-value
returns-then-value c = grind (arith, taken c.args.self c.args.atom (sym c.in_default.ensures) (eight_of c.args.self _ c.well_formed.0) c.args.value (cc) (cc))

pub returns-else-value : goal.returns-else-value
returns-else-value c = grind (arith, taken c.args.self c.args.atom (sym c.in_default.ensures) (eight_of c.args.self _ c.well_formed.0) c.args.value (cc) (cc))
