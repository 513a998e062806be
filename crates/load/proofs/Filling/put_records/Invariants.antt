-- The records that are left are fit, and writing their rows comes to what the whole does.
use Rattle.load.proofs.Filled.{Going}
use Rattle.load.proofs.Filling.put_records.Given as goal

abbrev pub invariant-loop-record : goal.invariant-loop-record
invariant-loop-record l = Going l.file l.fn.self l.record-iterator l.self
