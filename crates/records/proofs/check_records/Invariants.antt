use Rattle.std.proofs.Common.{◌≡◌}
use Rattle.format.specs.Starts.{starts}
use Rattle.records.specs.Check.{nothing_seen, check_from}
use Rattle.records.proofs.check_records.Given as goal

-- the records left come to what all do
abbrev pub invariant-loop-record : goal.invariant-loop-record
invariant-loop-record l = record {
  same_file : l.record-iterator.next.file.now ≡ l.file;
  same : check_from l.file l.seen (starts l.file l.record-iterator.next.offset) ≡ check_from l.file nothing_seen (starts l.file 0);
}
