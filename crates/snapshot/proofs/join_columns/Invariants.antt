use Rattle.words.specs.Set.{set_of}
use Rattle.region.proofs.Visiting.{Visiting}
use Rattle.snapshot.proofs.Marking.{Marked}
use Rattle.snapshot.proofs.join_columns.Given as goal

abbrev pub invariant-loop-a : goal.invariant-loop-a
invariant-loop-a l = record {
  can_next : (goal.iterator-loop-a).can_next l.a-iterator;
  is_finite : (goal.iterator-loop-a).is_finite l.a-iterator;
  visits : Visiting l.a-iterator l.atoms l.n;
  marked : Marked (set_of l.atoms) l.width l.index l.fn.rows l.a-iterator.from l.rows;
}
