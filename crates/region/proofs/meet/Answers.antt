use Rattle.std.proofs.Common.{rules, tests, ◌∙◌}
use Rattle.std.proofs.lemmas.Iterator.{YieldsList-from_slice, YieldsList-from_zip}
use Rattle.std.proofs.lemmas.Iterator.Search.{any_from_yields_List}
use Rattle.region.proofs.Meeting.{meets, any_meets}
use Rattle.region.proofs.meet.Goals as goal

pub returns : goal.returns
returns c =
    any_from_yields_List meets c.any.new.self _ c.any.result c.any.ensures.ran
    (YieldsList-from_zip {s = c.zip.result} (YieldsList-from_slice c.args.left.now (cc)) (YieldsList-from_slice c.args.right.now (cc)))
    (λ x b q k. search (rules, tests))
    ∙ any_meets 64 c.args.left.now c.args.right.now c.fits-left
