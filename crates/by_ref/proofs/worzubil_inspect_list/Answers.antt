-- `by_ref::worzubil_inspect_list` meets its contract: what `gather` tells of lists of up to 512 entries holds of the list that is lent.
use Rattle.std.proofs.Common.{rules}
use Rattle.by_ref.proofs.Relent.{fits, listed}
use Rattle.by_ref.proofs.worzubil_inspect_list.Goals as goal

pub write-requires : goal.write-requires
write-requires c = fits _ _ _ _ _ _ _ _ c.gather-listed.ensures

pub returns : goal.returns
returns c = rw c.write.ensures (listed _ _ _ _ _ _ _ _ c.gather-listed.ensures (search rules) (search rules))
