-- The three parts of the line, one after another.
use Rattle.std.proofs.Common.{ℕ, List, [], ap}
use Rattle.text.specs.Text.{two_of}
use Rattle.text.proofs.Puts.{puts_both, puts_is}
use Rattle.lines.specs.Words.{space}
use Rattle.answer.proofs.put_system.Goals as goal

pub returns : goal.returns
returns c =
    let p = c.args.prepared in
    puts_both c.put_two.ensures
    (puts_both c.put_two-2.ensures
    (puts_is (ap (λ (end : List ℕ). two_of [] p.units space p.incidences end) c.sound_word-end.ensures) c.put_two-3.ensures))
