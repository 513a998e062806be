-- What is left to check where the system was looked at.
use Rattle.std.proofs.Common.{◌∙◌}
use Rattle.inspect.specs.Inspect.{filled}
use Rattle.inspect.proofs.Once.{call_is}
use Rattle.inspect.proofs.prepared.PreparedSystem.check.Goals as goal

pub returns-then-self : goal.returns-then-self
returns-then-self c =
    let p = c.args.self.now in
    c.check_call.ensures
    ∙ call_is p.system (filled p.rows.now p.constants.now p.basis.now p.index.now) (p.sound c.if-self.true) c.args.region c.args.known c.args.atoms c.args.values
