-- The row's words, then its constant.
use Rattle.std.proofs.Common.{arith, refl}
use Rattle.load.proofs.Loading.{row_put}
use Rattle.load.proofs.Filling.put_row.Goals as goal

pub returns : goal.returns
returns c =
    record {
      same_words = refl;
      same_constants = refl;
      atoms = refl;
      loaded = rw c.constant.ensures
          (row_put _ _ _ _ _ _ _ _ _ c.requires.below c.requires.small c.requires.room
          c.width-width.ensures (omega arith) c.fill_row.ensures);
    }
