-- The names from the one reached on are left to mark.
use Rattle.std.proofs.Common.{◌≡◌, drop, length, replicate}
use Rattle.embed.specs.Written.{marked}
use Rattle.embed.proofs.write_row.Given as goal

abbrev pub invariant-loop-name : goal.invariant-loop-name
invariant-loop-name l = marked (drop l.name-index l.names) l.rest l.row ≡ marked l.names l.coefficients (replicate (length l.fn.row) 0)
