-- `enter_rows`: before each row the units among the basis rows before it are written (`Collected`), and these rows are entered (`Upto`).
use Rattle.parity.proofs.InOrder.{Ordered}
use Rattle.parity.proofs.Collecting.{Collected}
use Rattle.parity.proofs.Ordinals.{Upto}
use Rattle.parity.proofs.enter.enter_rows.Given as goal

abbrev pub invariant-loop-row : goal.invariant-loop-row
invariant-loop-row l =
    let b = l.basis in
    record {
      can_next : (goal.iterator-loop-row).can_next l.row-iterator;
      is_finite : (goal.iterator-loop-row).is_finite l.row-iterator;
      ordered : Ordered l.row-iterator b;
      collected : Collected b.atoms b.rows.now b.constants.now b.entries.now l.fn.atoms l.fn.values l.atoms l.values l.units l.row-iterator.next;
      entered : Upto b.atoms l.stride b.rows.now b.entries.now l.index l.incidences l.row-iterator.next;
    }
