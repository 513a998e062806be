-- A column that no number refuses lies within the index.
use Prim.Native.Nat.{ℕ, ◌+◌, ◌*◌, ◌≤◌}
use mathlib.Core.Path.{◌≡◌, ap}
use mathlib.Core.List.{List}
use mathlib.Core.Bool.{Bool, cond}
use native.Mathlib.Omega.{arith}
use borrow.Author.Tests.{le-leb, leb-false, ltb-false}
use lib.ListN.{length}
use Rattle.std.specs.Prelude.{Some, None, Ok}
use lib.Dec.{leb, ltb}
use Rattle.rows.specs.Flat.{row}
use Rattle.rows.specs.Calls.{part_of}
use Rattle.rows.specs.declared.Atom.{Atom}
use Rattle.rows.proofs.Adding.{earlier}
use Rattle.fit.specs.Rows.{overfull}
use Rattle.fit.proofs.Fitting.{passed}
use Rattle.index.specs.Index.{column_width}
use Rattle.index.specs.Column.{over_rank, column_check}

pub wanted_within : (index : List ℕ) (n rank : ℕ) (a : Atom) → column_check index n rank a ≡ Ok tt
    → a.0 * column_width rank + column_width rank ≤ length index
unfolding column_check
wanted_within index n rank a e =
    let w = column_width rank in
    let limits = passed (overfull n rank) _ _ e in
    let room = passed (ltb (length index) (n * w)) _ _ limits.1 in
    let ranks = passed (over_rank rank w index n) _ _ room.1 in
    let atom = passed (leb n a.0) _ _ ranks.1 in
    omega (arith, earlier w n a.0 (leb-false n a.0 atom.0), ltb-false (length index) (n * w) room.0)

pub wanted_part : (index : List ℕ) (n rank : ℕ) (a : Atom) → column_check index n rank a ≡ Ok tt
    → part_of (column_width rank) index a.0 ≡ Some (row (column_width rank) index a.0)
unfolding part_of
wanted_part index n rank a e =
    ap (λ (t : Bool). cond t (Some (row (column_width rank) index a.0)) None) (le-leb _ _ (wanted_within index n rank a e))
