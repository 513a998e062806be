use Rattle.text.proofs.Text.+put_decimal.Given as goal

-- a tenth is left to write
abbrev pub decreases-put_decimal : goal.decreases-put_decimal
decreases-put_decimal l = l.n
