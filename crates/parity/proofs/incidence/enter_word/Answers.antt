-- `enter_word`: a turn marks the column of one atom more.
use Prim.Native.Nat.{◌+◌}
use native.Mathlib.Omega.{arith}
use Rattle.parity.proofs.Visiting.{Within, bit_within, bit_next}
use Rattle.parity.proofs.incidence.enter_word.Goals as goal
use Rattle.parity.proofs.incidence.enter_word.Goals.{In-Some}

-- the atom's column lies within the index
within : (c : In-Some) → Within c.args.stride (c.args.base + c.in-Some.bit) c.loop-bit.index
within c =
    let a = c.args in
    bit_within a.place.bit a.place.word a.base c.loop-bit.bit-iterator c.next.new.self c.in-Some.bit c.requires.wide c.loop-bit.invariant c.in-Some.ensures.steps

pub overflow_add-index : goal.overflow_add-index
overflow_add-index c = omega (arith, within (goal.at.overflow_add-index c).In-Some)

pub overflow_mul-index : goal.overflow_mul-index
overflow_mul-index c = omega (arith, within (goal.at.overflow_mul-index c).In-Some)

pub overflow_add-index-in-loop-bit : goal.overflow_add-index-in-loop-bit
overflow_add-index-in-loop-bit c = omega (arith, within (goal.at.overflow_add-index-in-loop-bit c).In-Some)

pub offset_bounds-index-base : goal.offset_bounds-index-base
offset_bounds-index-base c = omega (arith, within (goal.at.offset_bounds-index-base c).In-Some)

pub bounds-index-base : goal.bounds-index-base
bounds-index-base c = omega (arith, within (goal.at.bounds-index-base c).In-Some)

pub bounds-index-base-in-loop-bit : goal.bounds-index-base-in-loop-bit
bounds-index-base-in-loop-bit c = omega (arith, within (goal.at.bounds-index-base-in-loop-bit c).In-Some)

pub loop-bit-preserved : goal.loop-bit-preserved
loop-bit-preserved c =
    let a = c.args in
    bit_next a.place.bit a.place.word a.base c.loop-bit.bit-iterator c.next.new.self c.in-Some.bit c.requires.wide c.loop-bit.invariant c.in-Some.ensures.steps (omega arith)
