-- the split words, with the earlier row added to the later part's first words
use Rattle.std.proofs.Common.{◌+◌, ◌-◌, ◌*◌, rules, arith}
use Rattle.rows.specs.Calls.{added_words}
use Rattle.rows.proofs.Adding.{added_split}
use Rattle.rows.proofs.add_words.Goals as goal

pub returns : goal.returns
unfolding added_words
returns c =
    let a = c.args in
    let split = c.split_at_mut-earlier in
    let y = a.source.0 * a.width in
    added_split 0 a.width a.width a.target.0 a.source.0 y (y + a.width - y) a.rows.now
    (omega arith) (omega arith) (omega arith) c.requires.0 c.requires.1 split.ensures.front split.ensures.back (search rules)
