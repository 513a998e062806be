-- One record more, and all of them.
use Rattle.load.proofs.Filled.{going_fit, going_room, going_next, going_end}
use Rattle.load.proofs.Filling.put_records.Goals as goal

pub put_record-requires-clause-fit : goal.put_record-requires-clause-fit
put_record-requires-clause-fit c = going_fit _ _ c.loop-record.invariant c.in-Some.ensures.steps

pub put_record-requires-clause-room : goal.put_record-requires-clause-room
put_record-requires-clause-room c = going_room _ _ c.loop-record.invariant c.in-Some.ensures.steps c.requires.room

pub loop-record-preserved : goal.loop-record-preserved
loop-record-preserved c = going_next _ _ c.loop-record.invariant c.in-Some.ensures.steps c.put_record.ensures

pub returns : goal.returns
returns c = going_end _ _ c.loop-record.invariant c.in-None.ensures.steps
