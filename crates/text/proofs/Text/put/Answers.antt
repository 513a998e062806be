-- A word is written as far as there is room.
use Rattle.std.proofs.Common.{arith, refl}
use Rattle.text.proofs.Written.{wrote_cut}
use Rattle.text.proofs.Text.put.Goals as goal

pub returns : goal.returns
returns c =
    let t = c.args.self.now in
    record { same_reference = refl; wrote = rw c.copy_from_slice.ensures.after (wrote_cut t.out.now t.at c.args.word.now _ _ t.within c.min-fits.ensures (omega arith)) }
