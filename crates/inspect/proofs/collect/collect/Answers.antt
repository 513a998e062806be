-- Before row j is read, what the touched rows up to it force is written.
use Rattle.std.proofs.Common.{sym, ◌∙◌}
use Rattle.region.proofs.Visiting.{Given, visiting_some, visiting_none}
use Rattle.inspect.proofs.Visits.{visit_wrong, visit_next, visit_end}
use Rattle.inspect.proofs.collect.collect.Goals as goal
use Rattle.inspect.proofs.collect.collect.Goals.{In-Some}

-- the step of the visit
given : (c : In-Some) → Given c.loop-j.j-iterator c.next.new.self c.args.touched.now c.args.basis.now.rank c.in-Some.j
given c = visiting_some _ _ _ _ c.loop-j.invariant.visits c.in-Some.j c.in-Some.ensures.steps

pub returns-in_default : goal.returns-in_default
returns-in_default c =
    visit_wrong c.args.basis.now c.args.masks.now c.args.touched.now (given (goal.at.returns-in_default c).In-Some) c.loop-j.invariant.so c.in_default.field-0
    (sym c.in_default.is ∙ c.read.ensures)

pub loop-j-preserved : goal.loop-j-preserved
loop-j-preserved c =
    let step = given (goal.at.loop-j-preserved c).In-Some in
    let note = c.note-forced.ensures in
    record {
      can_next = tt;
      is_finite = tt;
      visits = step.goes;
      so =
          visit_next c.args.basis.now c.args.masks.now c.args.touched.now step c.loop-j.invariant.so c.in-Ok.said (sym c.in-Ok.is ∙ c.read.ensures)
          c.requires.0 c.requires.1 note.count note.atoms note.values;
    }

pub returns : goal.returns
returns c =
    let at = c.loop-j.invariant in
    visit_end c.args.basis.now c.args.masks.now c.args.touched.now at.so at.visits.below (visiting_none _ c.next.new.self _ _ at.visits c.in-None.ensures.steps)
