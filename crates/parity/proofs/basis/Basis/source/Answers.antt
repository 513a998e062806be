-- `Basis::source`: an ordinal below the rank has an entry.
use mathlib.Core.Path.{refl}
use native.Mathlib.Omega.{arith}
use Rattle.parity.proofs.Naming.{source_named}
use Rattle.parity.proofs.basis.Basis.source.Goals as goal

pub returns : goal.returns
returns c =
    let b = c.args.self.now in
    rw (c.source_at.ensures, source_named b.entries.now c.args.ordinal (omega (arith, b.named.entries))) (c.if-self-ordinal.false, refl)
