-- `size`: up to eight words can be counted.
use mathlib.Core.Path.{◌≡◌, refl, sym, ◌∙◌}
use native.Mathlib.Omega.{arith}
use lib.ListN.{take}
use lib.Seq.{length-take-le}
use lib.Count.{ones}
use Rattle.std.specs.Prelude.{Ok}
use Rattle.words.specs.Set.{set_of}
use Rattle.parity.proofs.Unit.{counted_few}
use Rattle.probe.proofs.size.Goals as goal
use Rattle.probe.proofs.size.Goals.{After-count}

counted : (c : After-count) → c.count.result ≡ Ok (ones (set_of (take c.args.width c.args.mask.now)))
counted c = c.count.ensures ∙ counted_few _ (omega (arith, length-take-le c.args.width c.args.mask.now c.requires.1, c.requires.0))

pub unwrap-requires : goal.unwrap-requires
unwrap-requires c = rw (counted (goal.at.unwrap-requires c).After-count) refl

pub returns : goal.returns
returns c =
    let same = sym c.unwrap.ensures ∙ counted (goal.at.returns c).After-count in
    cc
