use Rattle.std.proofs.Common.{refl}
use Rattle.rows.specs.Flat.{mask_of}
use Rattle.hull.specs.Equations.{hull_from}
use Rattle.hull.proofs.impossible.Goals as goal

pub returns : goal.returns
unfolding hull_from mask_of
returns c = refl
