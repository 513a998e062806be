-- The decimal of a tenth, if there is one, and then the last digit.
use Rattle.std.proofs.Common.{ℕ, ◌+◌, sym, ap, ◌∙◌, arith, [], ◌∷◌}
use Rattle.text.proofs.Puts.{puts_both, puts_is}
use Rattle.text.proofs.Decimals.{small, more}
use Rattle.text.proofs.Text.+put_decimal.Goals as goal
use Rattle.text.proofs.Text.+put_decimal.Goals.{then-n-ge10, else-n-ge10}

pub returns : goal.returns
returns t c =
    elim c.if-n-ge10.branch [
      | then-n-ge10 w ↦ puts_is (sym (more c.args.n w.if-n-ge10.true)) (puts_both w.put_decimal.ensures (rw w.self-is at c.put.ensures))
      | else-n-ge10 w ↦ puts_is (ap (λ (d : ℕ). (48 + d) ∷ []) (omega arith) ∙ sym (small c.args.n w.if-n-ge10.false)) (rw w.self-is at c.put.ensures)
    ]
