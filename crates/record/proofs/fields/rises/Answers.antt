use Rattle.std.proofs.Common.{eqb, ap, ◌∙◌}
use Rattle.format.specs.Format.{atom_at}
use Rattle.record.proofs.Leading.{rises_is}
use Rattle.record.proofs.fields.rises.Goals as goal

pub returns : goal.returns
returns c =
    let atom = atom_at c.args.at.file.now c.args.at.offset in
    ap (λ k. eqb k c.args.count) c.rising_atoms.ensures ∙ rises_is atom c.args.count
