use Rattle.words.specs.Set.{set_of}
use Rattle.rows.specs.Flat.{atoms_of}
use Rattle.region.proofs.Visiting.{Visiting}
use Rattle.parity.specs.Basis.{rows_of}
use Rattle.inspect.proofs.Gathering.{Gathering}
use Rattle.inspect.proofs.collect.collect.Given as goal

abbrev pub invariant-loop-j : goal.invariant-loop-j
invariant-loop-j l = record {
  can_next : (goal.iterator-loop-j).can_next l.j-iterator;
  is_finite : (goal.iterator-loop-j).is_finite l.j-iterator;
  visits : Visiting l.j-iterator l.touched l.basis.rank;
  so : Gathering (atoms_of l.basis.atoms (set_of l.masks.held)) (atoms_of l.basis.atoms (set_of l.masks.free))
      (atoms_of l.basis.rank (set_of l.touched)) (rows_of l.basis) l.fn.atoms l.fn.values l.atoms l.values l.forced l.j-iterator.from;
}
