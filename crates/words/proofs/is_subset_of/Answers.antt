-- `all` over the words of both says whether each word lies in the other set's
use Rattle.std.proofs.Common.{ap, ◌∙◌, rules}
use Rattle.std.proofs.lemmas.Iterator.{YieldsList-from_slice, YieldsList-from_zip}
use Rattle.std.proofs.lemmas.Iterator.Search.{all_from_yields_List}
use Rattle.std.specs.Prelude.{Ok}
use borrow.Author.Tests.{eq-eqb, tests}
use Rattle.words.specs.Calls.{subset_of}
use Rattle.words.proofs.Subset.{kept, all_kept}
use Rattle.words.proofs.is_subset_of.Goals as goal

pub returns : goal.returns
unfolding subset_of
returns c =
    let l = c.args.left.now in
    let r = c.args.right.now in
    let all = all_from_yields_List kept c.all.new.self _ c.all.result c.all.ensures.ran (YieldsList-from_zip (YieldsList-from_slice l cc) (YieldsList-from_slice r cc)) (λ x b q k. search (rules, tests)) in
    simp (eq-eqb _ _ c.in_ok-alike.ensures) (ap Ok (all ∙ all_kept 64 l r c.in_ok-alike.ensures (λ i. (c.type_inv.left i).fits)))
