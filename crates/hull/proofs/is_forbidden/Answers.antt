use Rattle.std.proofs.Common.{ℕ, ◌/◌, not, eqb, get_or, bit_and, ap, ◌∙◌}
use Rattle.words.proofs.Member.{one_bit, has_word}
use Rattle.hull.proofs.is_forbidden.Goals as goal

pub returns : goal.returns
returns c =
    let a = c.args in
    ap (λ (n : ℕ). not (eqb (bit_and (get_or a.forbidden.now (a.pattern / 64) 0) n) 0)) (one_bit a.pattern) ∙ has_word a.forbidden.now a.pattern
