-- An atom in neither mask is open, and its bit is set in the mask of its value.
use Rattle.std.proofs.Common.{sym, ◌∙◌}
use Rattle.inspect.proofs.Applying.{forcing_held, forcing_cut, forcing_into_held, forcing_into_cut}
use Rattle.inspect.proofs.apply.force.Goals as goal

pub returns-then-contains : goal.returns-then-contains
returns-then-contains c n b can is =
    let a = c.args in
    forcing_held a.atom a.value n b can a.held.now a.cut.now a.tally is (sym c.contains.ensures ∙ c.if-contains.true)

pub returns-then-contains-2 : goal.returns-then-contains-2
returns-then-contains-2 c n b can is =
    let a = c.args in
    forcing_cut a.atom a.value n b can a.held.now a.cut.now a.tally is (sym c.contains-2.ensures ∙ c.if-contains-2.true)

pub returns-then-value : goal.returns-then-value
returns-then-value c n b can is =
    let a = c.args in
    forcing_into_held a.atom a.value n b can a.held.now a.cut.now a.tally is (sym c.contains.ensures ∙ c.if-contains.false)
    (sym c.contains-2.ensures ∙ c.if-contains-2.false) c.insert.new.words c.insert.ensures.words c.if-value.true

pub returns : goal.returns
returns c n b can is =
    let a = c.args in
    forcing_into_cut a.atom a.value n b can a.held.now a.cut.now a.tally is (sym c.contains.ensures ∙ c.if-contains.false)
    (sym c.contains-2.ensures ∙ c.if-contains-2.false) c.insert-2.new.words c.insert-2.ensures.words c.if-value.false
