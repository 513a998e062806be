use Rattle.std.proofs.Common.{◌≤◌, length, sym, ap, ◌∙◌, arith, Some}
use borrow.Author.Tests.{eq-eqb, ne_eqb}
use Rattle.std.proofs.lemmas.Nat.{zero_from_ones}
use Rattle.words.proofs.Common.{common_next, common_first, common_some, common_empty}
use Rattle.inspect.proofs.says.first_common.Goals as goal

pub returns-then-shared-eq0 : goal.returns-then-shared-eq0
returns-then-shared-eq0 c = rw (eq-eqb _ 0 (zero_from_ones _ (sym c.requires.counted ∙ c.if-shared-eq0.true)))

pub returns-then-common-ne0 : goal.returns-then-common-ne0
returns-then-common-ne0 c =
    let row = c.args.row.now in
    let mask = c.args.mask.now in
    let wide : length row ≤ length mask = omega arith in
    let fits = (c.type_inv.row c.loop-i.i).fits in
    rw (ne_eqb _ 0 (common_some 64 row mask wide c.loop-i.i c.loop-i.invariant (omega arith) (omega arith) fits))
    (ap Some (common_first 64 row mask wide c.loop-i.i c.loop-i.invariant (omega arith) (omega arith) fits))

pub loop-i-preserved : goal.loop-i-preserved
loop-i-preserved c =
    common_next 64 c.args.row.now c.args.mask.now (omega arith) c.loop-i.i c.loop-i.invariant (omega arith) c.if-common-ne0.false

pub returns : goal.returns
returns c = rw (eq-eqb _ 0 (common_empty 64 c.args.row.now c.args.mask.now (omega arith) c.loop-i.i c.loop-i.invariant (omega arith)))
