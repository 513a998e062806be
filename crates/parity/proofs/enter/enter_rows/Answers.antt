-- `enter_rows`: a turn enters one basis row more, and writes one unit more, if the row is one.
use mathlib.Core.Path.{refl}
use Rattle.std.proofs.Common.{◌≡◌, ◌+◌, ◌^◌, ◌<◌, ℕ, subst, arith}
use lib.ListN.{get_or}
use Rattle.parity.proofs.InOrder.{Given, ordered_start, ordered_some, ordered_none}
use Rattle.parity.proofs.Collecting.{collected_unit, collected_other}
use Rattle.parity.proofs.Naming.{ordinal_mark}
use Rattle.parity.proofs.Ordinals.{Upto, upto_start, ordinal_reaches, ordinal_few, upto_next, upto_words}
use Rattle.parity.proofs.enter.enter_rows.Goals as goal
use Rattle.parity.proofs.enter.enter_rows.Goals.{In-Some, After-enter_row-count}

given : (c : In-Some) → Given c.loop-row.row-iterator c.next.new.self c.args.basis.now c.in-Some.row
given c = ordered_some c.loop-row.row-iterator c.next.new.self c.args.basis.now c.loop-row.invariant.ordered c.in-Some.row c.in-Some.ensures.steps

pub loop-row-init : goal.loop-row-init
loop-row-init c =
    let b = c.args.basis.now in
    let begun = c.in_order-row-items.ensures in
    let is = c.into_iter-row-iterator.ensures.into_iter_gives in
    let ordered = ordered_start c.into_iter-row-iterator.result _ b is begun.basis begun.next in
    let first : c.into_iter-row-iterator.result.next ≡ 0 = cc (is, begun.next) in
    record {
      can_next = tt;
      is_finite = tt;
      ordered = ordered;
      collected = rw first (record { few = omega arith; kept = refl; kept' = refl; number = refl; named = refl; valued = refl });
      entered = rw first (upto_start b.atoms c.args.stride b.rows.now b.entries.now c.clear.new.words (rw c.requires.columns at c.clear.ensures) (λ i. (c.type_inv.index i).fits));
    }

pub enter_row-count-requires-clause-reaches : goal.enter_row-count-requires-clause-reaches
enter_row-count-requires-clause-reaches c =
    let row = given (goal.at.enter_row-count-requires-clause-reaches c).In-Some in
    rw row.row.words (ordinal_reaches c.args.basis.now.named row.below c.loop-row.invariant.entered)

pub overflow_add-incidences : goal.overflow_add-incidences
overflow_add-incidences c =
    let b = c.args.basis.now in
    let row = given (goal.at.overflow_add-incidences c).In-Some in
    let count = rw row.row.words at c.enter_row-count.ensures.count in
    omega (arith, count, ordinal_few b.named row.below c.loop-row.invariant.entered, c.loop-row.invariant.entered.few, row.below, b.named.ranked)

-- the row entered
one_more : (c : After-enter_row-count) → ((i : ℕ) → get_or c.enter_row-count.new.index i 0 < 2 ^ 64) → let b = c.args.basis.now in
    Upto b.atoms c.args.stride b.rows.now b.entries.now c.enter_row-count.new.index (c.loop-row.incidences + c.enter_row-count.result) (c.loop-row.row-iterator.next + 1)
one_more c fits =
    let row = ordered_some c.loop-row.row-iterator c.next.new.self c.args.basis.now c.loop-row.invariant.ordered c.in-Some.row c.in-Some.ensures.steps in
    let entered = c.enter_row-count in
    upto_next c.args.basis.now.named row.below c.loop-row.invariant.entered entered.auto.index fits
    (rw (row.row.words, ordinal_mark c.locate.result c.in-Some.row.ordinal.0 c.locate.ensures, row.row.ordinal) at entered.ensures.index)
    (rw row.row.words at entered.ensures.count)

pub loop-row-preserved-in-Some-unit : goal.loop-row-preserved-in-Some-unit
loop-row-preserved-in-Some-unit c =
    let row = given (goal.at.loop-row-preserved-in-Some-unit c).In-Some in
    record {
      can_next = tt;
      is_finite = tt;
      ordered = row.goes;
      collected =
          rw row.after
          (collected_unit c.args.basis.now.named row.below c.requires.atoms c.requires.values c.loop-row.invariant.collected
          (rw (row.row.words, row.row.constant) at c.in-Some-unit.ensures));
      entered = rw row.after (one_more (goal.at.loop-row-preserved-in-Some-unit c).After-enter_row-count (λ i. (c.type_inv.index i).fits));
    }

pub loop-row-preserved : goal.loop-row-preserved
loop-row-preserved c =
    let row = given (goal.at.loop-row-preserved c).In-Some in
    record {
      can_next = tt;
      is_finite = tt;
      ordered = row.goes;
      collected =
          rw row.after
          (collected_other c.args.basis.now.named row.below c.requires.atoms c.requires.values c.loop-row.invariant.collected
          (rw (row.row.words, row.row.constant) at c.in_default.ensures));
      entered = rw row.after (one_more (goal.at.loop-row-preserved c).After-enter_row-count (λ i. (c.type_inv.index i).fits));
    }

pub returns-clause-index : goal.returns-clause-index
returns-clause-index c =
    let b = c.args.basis.now in
    let l = c.loop-row in
    let all = ordered_none l.row-iterator c.next.new.self b l.invariant.ordered c.in-None.ensures.steps in
    upto_words
    (subst (Upto b.atoms c.args.stride b.rows.now b.entries.now l.index l.incidences) all l.invariant.entered) b.constants.now
