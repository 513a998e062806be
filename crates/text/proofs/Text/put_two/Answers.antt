-- The three parts, one after another.
use Rattle.text.proofs.Puts.{puts_both}
use Rattle.text.proofs.Text.put_two.Goals as goal

pub returns : goal.returns
returns c = puts_both c.put.ensures (puts_both c.put_decimal.ensures c.put_one.ensures)
