-- The atoms from the i-th on are left to insert.
use Rattle.std.proofs.Common.{◌≡◌, ◌-◌, length, replicate}
use Rattle.format.specs.Bytes.{list_from}
use Rattle.format.specs.Format.{atom_at, atom_count, row_atoms}
use Rattle.load.specs.Steps.{inserted_all}
use Rattle.load.proofs.fill_row.Given as goal

abbrev pub invariant-loop-i : goal.invariant-loop-i
invariant-loop-i l =
    let f = l.at.file.now in
    let o = l.at.offset in
    inserted_all (list_from (atom_at f o) l.i (atom_count f o - l.i)) l.row ≡ inserted_all (row_atoms f o) (replicate (length l.fn.row) 0)
