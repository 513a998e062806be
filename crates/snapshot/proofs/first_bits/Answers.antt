-- A count from 64 on keeps the whole word.
use Rattle.std.proofs.Common.{◌≡◌, ◌*◌, ◌-◌, ◌%◌, ◌^◌, ℕ, sym, ap, ◌∙◌, arith}
use native.Mathlib.Nat.{mod-eq_of_lt, lt_of_lt_of_le}
use lib.Bits.{bit_and, and_mask}
use lib.Pow.{pow_mono, shl_exact}
use Rattle.snapshot.proofs.first_bits.Goals as goal

pub returns-then-count-ge64 : goal.returns-then-count-ge64
returns-then-count-ge64 c = sym (mod-eq_of_lt (lt_of_lt_of_le c.ranges.word.fits (pow_mono c.if-count-ge64.true)))

pub returns : goal.returns
returns c =
    let k = c.args.count in
    let one : 1 * 2 ^ k % 2 ^ 64 ≡ 2 ^ k = shl_exact {a = 1} 1 k 64 (omega arith) (omega arith) ∙ omega arith in
    ap (λ (n : ℕ). bit_and c.args.word (n - 1)) one ∙ and_mask c.args.word k
