-- `eliminate_rows`: before each row the pivots are those of the rows before it (`Tabled`); while a row is reduced by them, `Turn`.
use Rattle.std.proofs.Common.{◌≡◌, None}
use mathlib.Core.List.{List}
use lib.ListN.{get_or}
use Rattle.rows.specs.Row.{Row}
use Rattle.parity.proofs.InOrder.{Ordered}
use Rattle.echelon.specs.Steps.{rest}
use Rattle.probe.proofs.OpenRows.{row_of}
use Rattle.probe.proofs.Reducing.{Directory, Turn, Tabled}
use Rattle.probe.proofs.OpenedRows.{opened_at}
use Rattle.probe.proofs.eliminate.eliminate_rows.Given as goal

abbrev pub invariant-loop-row : goal.invariant-loop-row
invariant-loop-row g l =
    let b = l.basis in
    record {
      can_next : (goal.iterator-loop-row g).can_next l.row-iterator;
      is_finite : (goal.iterator-loop-row g).is_finite l.row-iterator;
      ordered : Ordered l.row-iterator b;
      tabled : Tabled b.atoms g.row.W (opened_at b l.masks g.row.W) l.pivots.rows l.kept l.row-iterator.next;
    }

abbrev pub invariant-loop-i : goal.invariant-loop-i
invariant-loop-i g l =
    let n = l.basis.atoms in
    record {
      none : l.lowest ≡ None;
      turn : (rows : List Row) → Directory n rows l.pivots.rows → Turn n rows (row_of n l.initial.left) l.i l.left;
    }

abbrev pub invariant-loop-pivot : goal.invariant-loop-pivot
invariant-loop-pivot g l =
    let n = l.basis.atoms in
    record {
      word : l.word ≡ get_or l.left.words l.i 0;
      turn : (rows : List Row) (begun : Row) → Directory n rows l.pivots.rows → Turn n rows begun l.i l.initial.left → Turn n rows begun l.i l.left;
    }

abbrev pub decreases-loop-pivot : goal.decreases-loop-pivot
decreases-loop-pivot g l = rest (row_of l.basis.atoms l.left).atoms
