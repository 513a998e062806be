use Rattle.std.proofs.Common.{◌∙◌, rules}
use Rattle.format.proofs.Pairs.{pair_atom}
use Rattle.format.proofs.Record.atom.Goals as goal

pub returns-in-Some : goal.returns-in-Some
returns-in-Some c = search rules ∙ pair_atom c.args.self.file.now c.args.self.offset c.args.i (search rules)
