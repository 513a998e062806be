-- After i turns the first i entries are applied, and none of them was against.
use Rattle.std.proofs.Common.{◌<◌, take, length, get_or, eqb, ◌∙◌, arith}
use Rattle.std.proofs.lemmas.List.{length_push}
use Rattle.std.proofs.lemmas.Slice.Zip.{zip_turn}
use lib.Seq.{get_or-take, length-take-le}
use Rattle.region.proofs.Masked.{region_back}
use Rattle.region.proofs.Passed.{eight_of}
use Rattle.inspect.specs.Steps.{Forcing}
use Rattle.inspect.proofs.Applying.{upto_start, upto_next, upto_against, made_at}
use Rattle.inspect.proofs.apply.apply.Goals as goal
use Rattle.inspect.proofs.apply.apply.Goals.{After-force-tally}

pub loop-atom-init : goal.loop-atom-init
loop-atom-init c =
    let a = c.args in
    record {
      can_next = (tt, tt);
      is_finite = tt;
      upto = upto_start a.region a.atoms.now a.values.now (region_back a.region (eight_of a.region _ c.well_formed.0) c.requires.fit);
    }

-- the atom and the value of a turn are an entry of the list
made : (c : After-force-tally) → let a = c.args in let i = length c.loop-atom.yielded in
    (i < a.forced)
    × Forcing (get_or a.atoms.now i 0) (eqb (get_or a.values.now i 0) 1) c.loop-atom.held c.loop-atom.cut c.loop-atom.tally c.force-tally.new.held c.force-tally.new.cut c.force-tally.result
made c =
    let a = c.args in
    let i = length c.loop-atom.yielded in
    let turn = zip_turn (take a.forced a.atoms.now) (take a.forced a.values.now) c.loop-atom.yielded c.into_iter-atom-iterator.result c.loop-atom.atom-iterator c.next.new.self
    c.next.result (cc) (cc) c.loop-atom.yielded_by (c.in-Some.atom, c.in-Some.value) c.in-Some.is c.next.ensures.steps in
    let under : i < a.forced = omega (arith, turn.0, length-take-le a.forced a.atoms.now c.requires.atoms_room) in (
      under,
      made_at a.atoms.now a.values.now i c.in-Some.atom.now c.in-Some.value.now c.loop-atom.held c.loop-atom.cut c.loop-atom.tally
          c.force-tally.new.held c.force-tally.new.cut c.force-tally.result
          (turn.2 0 ∙ get_or-take a.forced a.atoms.now i 0 under) (turn.3 0 ∙ get_or-take a.forced a.values.now i 0 under) c.force-tally.ensures,
    )

pub loop-atom-preserved : goal.loop-atom-preserved
loop-atom-preserved c =
    let turn = made (goal.at.loop-atom-preserved c).After-force-tally in
    record {
      can_next = (tt, tt);
      is_finite = tt;
      upto = rw length_push (upto_next c.requires turn.0 c.loop-atom.invariant.upto turn.1 c.if-tally.false);
    }

pub returns-then-tally : goal.returns-then-tally
returns-then-tally c =
    let turn = made (goal.at.returns-then-tally c).After-force-tally in
    upto_against c.requires turn.0 c.loop-atom.invariant.upto turn.1 c.if-tally.true
