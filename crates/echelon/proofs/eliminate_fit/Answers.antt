-- The rows that were checked, with a directory of any size.
use Rattle.echelon.proofs.Whole.{fit_here, ready_here}
use Rattle.echelon.proofs.eliminate_fit.Goals as goal

pub of-shape-requires : goal.of-shape-requires
of-shape-requires c = (fit_here _ _ _ _ _ c.requires).0.atoms

pub eliminate_rows-requires-clause-ready : goal.eliminate_rows-requires-clause-ready
eliminate_rows-requires-clause-ready c = ready_here _ _ _ _ _ _ c.requires c.of-shape.ensures

pub eliminate_rows-requires-then-n-le128-clause-ready : goal.eliminate_rows-requires-then-n-le128-clause-ready
eliminate_rows-requires-then-n-le128-clause-ready c = ready_here _ _ _ _ _ _ c.requires c.of-shape.ensures

pub eliminate_rows-requires-2-clause-ready : goal.eliminate_rows-requires-2-clause-ready
eliminate_rows-requires-2-clause-ready c = ready_here _ _ _ _ _ _ c.requires c.of-shape.ensures
