-- `of`: a turn writes and sums one word more.
use Rattle.std.proofs.Common.{rules, ap₂, ◌∙◌, ℕ, List, arith}
use lib.Bits.{bit_xor}
use Rattle.probe.proofs.Opening.{opening_next, opening_end}
use Rattle.probe.proofs.open_row.OpenRow.of.Goals as goal

pub loop-i-preserved : goal.loop-i-preserved
loop-i-preserved g c = opening_next c.loop-i.invariant (omega (arith, c.loop-i-test.true, c.requires)) (search rules)

pub returns-clause-row : goal.returns-clause-row
returns-clause-row g c =
    let all = opening_end c.loop-i.invariant (omega (arith, c.loop-i-test.false, c.requires)) in
    ap₂ (λ (l : List ℕ) (k : ℕ). record { words = l; constant = k }) all.0 (ap₂ bit_xor c.from.ensures (c.from-2.ensures ∙ all.1))
