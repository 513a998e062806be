use Rattle.std.proofs.Common.{leb, refl, ◌∙◌, arith, rules, tests}
use Rattle.std.proofs.lemmas.Iterator.{YieldsList-from_range}
use Rattle.std.proofs.lemmas.Iterator.Search.{position_from_yields_List}
use Rattle.format.specs.Format.{atom_at}
use Rattle.record.proofs.Leading.{good_is}
use Rattle.record.proofs.fields.good_atoms.Goals as goal

pub returns : goal.returns
returns c =
    let atom = atom_at c.args.at.file.now c.args.at.offset in
    c.unwrap_or.ensures
    ∙ good_is atom c.args.n c.args.count c.position.result
    (position_from_yields_List (λ i. leb c.args.n (atom i)) _ _ _ c.position.ensures.ran (YieldsList-from_range 0 c.args.count c.args.count refl (omega arith)) (λ x b q k. search (rules, tests)))
