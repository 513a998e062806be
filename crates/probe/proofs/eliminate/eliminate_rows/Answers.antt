-- `eliminate_rows`: pivots are added to a row word by word; what is left of it is entered, empty, or refutes.
use Rattle.std.proofs.Common.{rules, ◌≡◌, refl, sym, ap, ap₂, ◌∙◌, ℕ, ◌+◌, ◌≤◌, ◌<◌, arith, Some, None}
use native.Mathlib.Nat.{lt_of_lt_of_le}
use lib.ListN.{get_or, set}
use lib.Bits.{bit_xor}
use mathlib.Core.List.{List}
use Rattle.rows.specs.Row.{Row}
use Rattle.parity.proofs.InOrder.{Given, ordered_start, ordered_some, ordered_none}
use Rattle.probe.specs.Steps.{opened_row, pivot_at}
use Rattle.probe.proofs.OpenRows.{row_of, RowFit, lowest}
use Rattle.probe.proofs.Reducing.{Directory, Turn, atom_below, tabled_start, tabled_few, turn_start, turn_past, turn_next, turn_falls, turn_word, Tabled, tabled_pivot, tabled_empty, tabled_refuted, tabled_end}
use Rattle.probe.proofs.OpenedRows.{opened_at, opened_bounds, told_all}
use Rattle.probe.proofs.eliminate.eliminate_rows.Given.{Over}
use Rattle.probe.proofs.eliminate.eliminate_rows.Goals as goal
use Rattle.probe.proofs.eliminate.eliminate_rows.Goals.{After-of-left, In-Some-pivot_of, In-Some-lowest, In-None-lowest, else-loop-i-test, then-loop-i-test+in_default+then-word-ne0}

-- the row that is visited
given : (g : Over) (c : After-of-left g) → Given c.loop-row.row-iterator c.next.new.self c.args.basis.now c.in-Some.row
given g c = ordered_some c.loop-row.row-iterator c.next.new.self c.args.basis.now c.loop-row.invariant.ordered c.in-Some.row c.in-Some.ensures.steps

-- it is that of its ordinal
opened : (g : Over) (c : After-of-left g) → c.of-left.result ≡ opened_at c.args.basis.now c.args.masks.now g.row.W c.loop-row.row-iterator.next
opened g c = c.of-left.ensures.row ∙ ap₂ (opened_row c.args.masks.now.held c.args.masks.now.free) (given g c).row.words (given g c).row.constant

pub loop-row-init : goal.loop-row-init
loop-row-init g c =
    let b = c.args.basis.now in
    record {
      can_next = tt;
      is_finite = tt;
      ordered = ordered_start c.into_iter-row-iterator.result c.in_order-row-items.result b c.into_iter-row-iterator.ensures.into_iter_gives c.in_order-row-items.ensures.basis c.in_order-row-items.ensures.next;
      tabled =
          rw (c.none-pivots.ensures, c.into_iter-row-iterator.ensures.into_iter_gives, c.in_order-row-items.ensures.next)
          (tabled_start b.atoms g.row.W (opened_at b c.args.masks.now g.row.W) g.row.N c.requires.atoms.0);
    }

pub loop-i-init : goal.loop-i-init
loop-i-init g c =
    let here = (goal.at.loop-i-init g c).After-of-left in
    let bounds = opened_bounds c.args.basis.now c.args.masks.now g.row.W c.loop-row.row-iterator.next (given g here).below in
    let fit : RowFit c.args.basis.now.atoms c.of-left.result =
    record {
      long = c.of-left.ensures.words.0;
      fits = c.of-left.ensures.words.1;
      below = rw (opened g here) bounds.0;
      constant = rw (opened g here) bounds.1;
    } in
    record { none = refl; turn = λ rows dir. turn_start c.args.basis.now.atoms rows c.of-left.result fit }

pub pivot_of-requires : goal.pivot_of-requires
pivot_of-requires g c =
    let dir = c.loop-row.invariant.tabled.directory in
    let turn = c.loop-pivot.invariant.turn _ _ dir (c.loop-i.invariant.turn _ dir) in
    let below : 0 < get_or c.loop-pivot.left.words c.loop-i.i 0 → lowest c.loop-i.i c.loop-pivot.left < g.row.N =
    λ some. lt_of_lt_of_le (atom_below dir turn c.loop-i-test.true some) c.requires.atoms.0 in
    (search rules, (search rules, (c.loop-i-test.true, rw c.loop-pivot.invariant.word below)))

pub loop-pivot-init : goal.loop-pivot-init
loop-pivot-init g c = record { word = refl; turn = λ rows begun dir turn. turn }

-- the pivot that is found, by the row
is_pivot : (g : Over) (c : In-Some-pivot_of g) → c.in-Some-pivot_of.pivot.now ≡ pivot_at c.loop-row.pivots.rows c.loop-i.i (get_or c.loop-pivot.left.words c.loop-i.i 0)
is_pivot g c = rw c.loop-pivot.invariant.word at c.in-Some-pivot_of.ensures.1

pub loop-pivot-smaller : goal.loop-pivot-smaller
loop-pivot-smaller g c =
    let dir = c.loop-row.invariant.tabled.directory in
    turn_falls dir (c.loop-pivot.invariant.turn _ _ dir (c.loop-i.invariant.turn _ dir)) c.loop-i-test.true c.in-Some-pivot_of.pivot.now c.in-Some-pivot_of.ensures.0
    (is_pivot g (goal.at.loop-pivot-smaller g c).In-Some-pivot_of) c.add_from.new.self c.add_from.ensures

pub loop-pivot-preserved : goal.loop-pivot-preserved
loop-pivot-preserved g c =
    let so = c.loop-pivot.invariant in
    let is = is_pivot g (goal.at.loop-pivot-preserved g c).In-Some-pivot_of in
    let dir = c.loop-row.invariant.tabled.directory in
    record {
      word =
          ap (λ (x : ℕ). bit_xor x (get_or c.in-Some-pivot_of.pivot.now.words c.loop-i.i 0)) so.word
          ∙ turn_word dir (so.turn _ _ dir (c.loop-i.invariant.turn _ dir)) c.loop-i-test.true c.in-Some-pivot_of.pivot.now c.in-Some-pivot_of.ensures.0 is c.add_from.new.self
          c.add_from.ensures;
      turn = λ rows begun dir turn.
          turn_next dir (so.turn rows begun dir turn) c.loop-i-test.true c.in-Some-pivot_of.pivot.now c.in-Some-pivot_of.ensures.0 is c.add_from.new.self c.add_from.ensures;
    }

pub loop-i-preserved : goal.loop-i-preserved
loop-i-preserved g c = record {
  none = c.loop-i.invariant.none;
  turn = λ rows dir.
      turn_past dir (c.loop-pivot.invariant.turn rows _ dir (c.loop-i.invariant.turn rows dir)) (sym c.loop-pivot.invariant.word ∙ c.if-word-ne0.false);
}

-- what is left has an atom, which becomes a pivot
kept : (g : Over) (c : In-Some-lowest g) → c.of-left.result ≡ opened_at c.args.basis.now c.args.masks.now g.row.W c.loop-row.row-iterator.next
    → let b = c.args.basis.now in
    (c.in-Some-lowest.atom < b.atoms)
    × Tabled b.atoms g.row.W (opened_at b c.args.masks.now g.row.W) (set c.loop-row.pivots.rows c.in-Some-lowest.atom c.loop-i-test.left) (c.loop-row.kept + 1)
    (c.loop-row.row-iterator.next + 1)
kept g c is_next =
    elim c.loop-i-test.branch [
      | else-loop-i-test w ↦
          let never : None ≡ Some c.in-Some-lowest.atom = sym (w.lowest-is ∙ c.loop-i.invariant.none) ∙ c.in-Some-lowest.is in
          cc
      | then-loop-i-test+in_default+then-word-ne0 w ↦
          let so = c.loop-row.invariant.tabled in
          let turn = w.loop-pivot.invariant.turn _ _ so.directory (c.loop-i.invariant.turn _ so.directory) in
          let word = w.loop-pivot.invariant.word in
          let same : Some c.in-Some-lowest.atom ≡ Some (lowest c.loop-i.i w.loop-pivot.left) = rw word at (sym c.in-Some-lowest.is ∙ w.lowest-is) in
          let atom : c.in-Some-lowest.atom ≡ lowest c.loop-i.i w.loop-pivot.left = cc in
          let some : 0 < get_or w.loop-pivot.left.words c.loop-i.i 0 = let ne = w.if-word-ne0.true in omega (arith, word) in
          rw (atom, w.left-is)
          (atom_below so.directory turn w.loop-i-test.true some, tabled_pivot _ _ _ so is_next turn w.loop-i-test.true some (rw word at w.in_default.ensures))
    ]

-- or it has none
emptied : (g : Over) (c : In-None-lowest g) → let n = c.args.basis.now.atoms in (i : ℕ) × (g.row.W ≤ i)
    × ((rows : List Row) → Directory n rows c.loop-row.pivots.rows → Turn n rows (row_of n c.of-left.result) i c.loop-i-test.left)
emptied g c =
    elim c.loop-i-test.branch [
      | else-loop-i-test w ↦ (c.loop-i.i, w.loop-i-test.false, rw w.left-is c.loop-i.invariant.turn)
      | then-loop-i-test+in_default+then-word-ne0 w ↦
          let never = sym w.lowest-is ∙ c.in-None-lowest.is in
          cc
    ]

pub enter-requires : goal.enter-requires
enter-requires g c =
    let here = goal.at.enter-requires g c in
    (search rules, (search rules, lt_of_lt_of_le (kept g here.In-Some-lowest (opened g here.After-of-left)).0 c.requires.atoms.0))

pub overflow_add-kept : goal.overflow_add-kept
overflow_add-kept g c = omega (arith, tabled_few _ _ _ c.loop-row.invariant.tabled, c.args.basis.now.few)

pub loop-row-preserved-in-Some-lowest : goal.loop-row-preserved-in-Some-lowest
loop-row-preserved-in-Some-lowest g c =
    let here = goal.at.loop-row-preserved-in-Some-lowest g c in
    let row = given g here.After-of-left in
    record {
      can_next = tt;
      is_finite = tt;
      ordered = row.goes;
      tabled = rw (row.after, c.enter.ensures) (kept g here.In-Some-lowest (opened g here.After-of-left)).1;
    }

pub returns-then-left-eq1 : goal.returns-then-left-eq1
returns-then-left-eq1 g c =
    let b = c.args.basis.now in
    let here = goal.at.returns-then-left-eq1 g c in
    let so = c.loop-row.invariant.tabled in
    let left = emptied g here.In-None-lowest in
    told_all b c.args.masks.now g.row.W _
    (tabled_refuted _ _ _ so (opened g here.After-of-left) (left.2 _ so.directory) left.1 b.rank (given g here.After-of-left).below c.if-left-eq1.true)

pub loop-row-preserved : goal.loop-row-preserved
loop-row-preserved g c =
    let here = goal.at.loop-row-preserved g c in
    let so = c.loop-row.invariant.tabled in
    let row = given g here.After-of-left in
    let left = emptied g here.In-None-lowest in
    record {
      can_next = tt;
      is_finite = tt;
      ordered = row.goes;
      tabled = rw row.after (tabled_empty _ _ _ so (opened g here.After-of-left) (left.2 _ so.directory) left.1 c.if-left-eq1.false);
    }

pub returns : goal.returns
returns g c =
    let b = c.args.basis.now in
    let so = c.loop-row.invariant in
    let all = ordered_none c.loop-row.row-iterator c.next.new.self b so.ordered c.in-None.ensures.steps in
    told_all b c.args.masks.now g.row.W _ (rw all at (tabled_end _ _ _ so.tabled))
