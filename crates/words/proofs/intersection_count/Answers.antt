-- the sum over the words of both counts what the sets share
use Rattle.std.proofs.Common.{◌<◌, ◌*◌, ◌^◌, length, ap, ◌∙◌, rules, arith}
use Rattle.std.proofs.lemmas.Iterator.{YieldsList-from_slice, YieldsList-from_zip, YieldsList-from_map}
use Rattle.std.proofs.lemmas.Iterator.Consumers.{fits_by_from_yields_list, sum_by_from_yields_List}
use Rattle.std.specs.List.{zip}
use Rattle.std.specs.Prelude.{Ok}
use borrow.Author.Tests.{eq-eqb, lt-ltb}
use Rattle.words.specs.Calls.{intersection_of}
use Rattle.words.proofs.Counts.{shared, sum_shared}
use Rattle.words.proofs.intersection_count.Goals as goal

pub sum-requires-clause-fits : goal.sum-requires-clause-fits
sum-requires-clause-fits c =
    let l = c.args.left.now in
    let r = c.args.right.now in
    let few = (sum_shared 64 l r c.in_ok-alike.ensures (λ i. (c.type_inv.left i).fits)).1 in
    fits_by_from_yields_list shared (zip l r) c.map.result _
    (YieldsList-from_map _ shared (YieldsList-from_zip (YieldsList-from_slice l cc) (YieldsList-from_slice r cc)) c.map.ensures.closure (λ x r q k. search rules))
    (omega (arith, few))

pub returns : goal.returns
unfolding intersection_of
returns c =
    let l = c.args.left.now in
    let r = c.args.right.now in
    let all = sum_by_from_yields_List shared (zip l r) c.map.result c.sum.result c.sum.ensures.ran
    (YieldsList-from_map _ shared (YieldsList-from_zip (YieldsList-from_slice l cc) (YieldsList-from_slice r cc)) c.map.ensures.closure (λ x r q k. search rules)) in
    let narrow : length l * 64 < 2 ^ 64 = omega arith in
    simp (eq-eqb _ _ c.in_ok-alike.ensures, lt-ltb _ _ narrow) (ap Ok (all ∙ (sum_shared 64 l r c.in_ok-alike.ensures (λ i. (c.type_inv.left i).fits)).0))
