use Rattle.std.proofs.Common.{refl, ap, ◌∙◌}
use Rattle.region.specs.declared.Atoms.{Atoms}
use Rattle.region.proofs.Visiting.{Given, visiting_start, visiting_some, visiting_none}
use Rattle.snapshot.proofs.Marking.{marks_there, marks_absent, marked_start, marked_next, marked_end}
use Rattle.snapshot.proofs.join_columns.Goals as goal
use Rattle.snapshot.proofs.join_columns.Goals.{In-Some}

-- the step of the visit
given : (c : In-Some) → Given c.loop-a.a-iterator c.next.new.self c.args.atoms.now c.args.n c.in-Some.a
given c = visiting_some _ _ _ _ c.loop-a.invariant.visits c.in-Some.a c.in-Some.ensures.steps

pub loop-a-init : goal.loop-a-init
loop-a-init c =
    let begun = c.atoms_below-a-items.ensures in
    let same = c.into_iter-a-iterator.ensures.into_iter_gives in
    record {
      can_next = tt;
      is_finite = tt;
      visits = visiting_start _ _ _ _ same begun.mask begun.from begun.end;
      marked = marked_start _ _ _ _ _ (ap (λ (s : Atoms). s.from) same ∙ begun.from);
    }

pub loop-a-preserved : goal.loop-a-preserved
loop-a-preserved c =
    let step = given (goal.at.loop-a-preserved c).In-Some in
    record {
      can_next = tt;
      is_finite = tt;
      visits = step.goes;
      marked =
          marked_next step c.loop-a.invariant.marked c.join.auto.rows
          (marks_there c.args.width c.args.index.now c.in-Some.a c.loop-a.rows c.join.new.rows c.in-Some-column_at.column.now c.in-Some-column_at.ensures c.join.ensures);
    }

pub loop-a-preserved-in_default : goal.loop-a-preserved-in_default
loop-a-preserved-in_default c =
    let step = given (goal.at.loop-a-preserved-in_default c).In-Some in
    record {
      can_next = tt;
      is_finite = tt;
      visits = step.goes;
      marked =
          marked_next step c.loop-a.invariant.marked refl
          (marks_absent c.args.width c.args.index.now c.in-Some.a c.loop-a.rows c.in_default.ensures);
    }

pub returns : goal.returns
returns c =
    let at = c.loop-a.invariant in
    marked_end at.marked c.args.n at.visits.below (visiting_none _ c.next.new.self _ _ at.visits c.in-None.ensures.steps)
