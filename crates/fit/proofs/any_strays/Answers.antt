-- Once all constants are joined, each of the three returns is a law of Strays.antt.
use Rattle.std.proofs.Common.{rules, arith}
use Rattle.std.proofs.lemmas.Grind.{common_steps}
use Rattle.rows.specs.Calls.{union_at_of}
use Rattle.fit.proofs.Strays.{constant_more, strays_constant, strays_full, strays_last}
use Rattle.fit.proofs.any_strays.Goals as goal

pub loop-constant-init : goal.loop-constant-init
loop-constant-init c = search rules

pub loop-constant-preserved : goal.loop-constant-preserved
loop-constant-preserved c = constant_more c.args.constants.now c.loop-constant.union _ c.loop-constant.constant-index c.loop-constant.invariant (grind (arith, common_steps))

pub returns-then-union-gt1 : goal.returns-then-union-gt1
returns-then-union-gt1 c =
    let a = c.args in
    strays_constant a.n a.width a.rows.now a.constants.now a.m c.requires.0 c.requires.1 (search rules)

pub returns-then-used-eq0 : goal.returns-then-used-eq0
returns-then-used-eq0 c =
    let a = c.args in
    strays_full a.n a.width a.rows.now a.constants.now a.m c.requires.0 c.requires.1 c.if-used-eq0.true (search rules)

pub returns : goal.returns
unfolding union_at_of
returns c =
    let a = c.args in
    search (
      rules,
      strays_last a.n a.width a.rows.now a.constants.now a.m c.requires.0 c.requires.1 c.if-used-eq0.false,
    )
