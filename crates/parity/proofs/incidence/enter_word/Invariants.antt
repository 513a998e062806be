-- `enter_word`: the atoms of the bits left are left to mark (`Left`).
use Prim.Native.Nat.{◌*◌, ◌^◌}
use Rattle.parity.proofs.Marking.{Left}
use Rattle.parity.proofs.incidence.enter_word.Given as goal

abbrev pub invariant-loop-bit : goal.invariant-loop-bit
invariant-loop-bit l = Left l.stride (l.place.bit * 2 ^ (l.place.word * 64)) (l.word * 2 ^ l.base) l.fn.index (l.bit-iterator.remaining * 2 ^ l.base) l.index
