use Rattle.std.proofs.Common.{◌∙◌}
use Rattle.std.proofs.lemmas.List.{set-get_or}
use Rattle.hull.proofs.Turns.{enter_set, enter_add, enter_skip, enter_end}
use Rattle.hull.proofs.enter.Goals as goal
use Rattle.hull.proofs.enter.Goals.{then-left-position-eq1+else-pivot-eq0, else-left-position-eq1}

pub returns-then-pivot-eq0-clause-pivots : goal.returns-then-pivot-eq0-clause-pivots
returns-then-pivot-eq0-clause-pivots c = (enter_set _ _ _ _ _ c.loop-position.invariant c.loop-position-test.true c.if-left-position-eq1.true c.if-pivot-eq0.true).0

pub returns-then-pivot-eq0-clause-came : goal.returns-then-pivot-eq0-clause-came
returns-then-pivot-eq0-clause-came c = (enter_set _ _ _ _ _ c.loop-position.invariant c.loop-position-test.true c.if-left-position-eq1.true c.if-pivot-eq0.true).1

pub loop-position-preserved : goal.loop-position-preserved
loop-position-preserved c =
    let on = c.loop-position.invariant in
    let here = c.loop-position-test.true in
    elim c.if-left-position-eq1.branch [
      | then-left-position-eq1+else-pivot-eq0 w ↦ enter_add _ _ _ _ _ on here (w.pivots-is ∙ set-get_or _ _ _) w.left-is w.if-left-position-eq1.true w.if-pivot-eq0.false
      | else-left-position-eq1 w ↦ enter_skip _ _ _ _ _ on here (w.pivots-is ∙ set-get_or _ _ _) w.left-is w.if-left-position-eq1.false
    ]

pub returns-clause-pivots : goal.returns-clause-pivots
returns-clause-pivots c = (enter_end _ _ _ _ _ c.loop-position.invariant c.loop-position-test.false).0

pub returns-clause-came : goal.returns-clause-came
returns-clause-came c = (enter_end _ _ _ _ _ c.loop-position.invariant c.loop-position-test.false).1
