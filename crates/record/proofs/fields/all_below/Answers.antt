use Rattle.std.proofs.Common.{eqb, ap, ◌∙◌}
use Rattle.format.specs.Format.{atom_at}
use Rattle.record.proofs.Leading.{below_is}
use Rattle.record.proofs.fields.all_below.Goals as goal

pub returns : goal.returns
returns c =
    let atom = atom_at c.args.at.file.now c.args.at.offset in
    ap (λ k. eqb k c.args.count) c.good_atoms.ensures ∙ below_is atom c.args.n c.args.count
