-- `enter_row`: after i turns the words from place i on are left (`Entering`).
use Prim.Native.Nat.{◌*◌, ◌^◌}
use Rattle.parity.proofs.Visiting.{Entering}
use Rattle.parity.proofs.incidence.enter_row.Given as goal

abbrev pub invariant-loop-i : goal.invariant-loop-i
invariant-loop-i l = Entering l.stride (l.place.bit * 2 ^ (l.place.word * 64)) l.words l.fn.index l.index l.count l.i
