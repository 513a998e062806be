-- Each of the returns is a law of Overrank.antt.
use Rattle.std.proofs.Common.{rules}
use Rattle.rows.specs.Calls.{union_at_of}
use Rattle.index.proofs.Overrank.{over_full, over_last, over_high, over_low}
use Rattle.index.proofs.any_overranks.Goals as goal

pub returns-then-used-eq0 : goal.returns-then-used-eq0
returns-then-used-eq0 c =
    let a = c.args in
    over_full a.rank a.width a.index.now a.n c.requires.0 c.requires.1 c.if-used-eq0.true

pub returns-then-used-ge64 : goal.returns-then-used-ge64
unfolding union_at_of
returns-then-used-ge64 c =
    let a = c.args in
    search (rules, over_last a.rank a.width a.index.now a.n c.requires.0 c.requires.1)

pub returns-then-last-ne0 : goal.returns-then-last-ne0
unfolding union_at_of
returns-then-last-ne0 c =
    let a = c.args in
    search (rules, over_high a.rank a.width a.index.now a.n c.requires.0 c.requires.1)

pub returns-else-last-ne0 : goal.returns-else-last-ne0
unfolding union_at_of
returns-else-last-ne0 c =
    let a = c.args in
    search (rules, over_low a.rank a.width a.index.now a.n c.requires.0 c.requires.1)
