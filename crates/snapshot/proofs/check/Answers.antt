-- The last checks, where those before them pass.
use Rattle.std.proofs.Common.{sym, ap, ◌∙◌, ◌≤◌, ◌*◌, ℕ, length, arith}
use Rattle.index.specs.Index.{column_width}
use Rattle.snapshot.proofs.Chained.{touched_is}
use Rattle.snapshot.proofs.check.Goals as goal

pub returns : goal.returns
returns c =
    let a = c.args in
    let room : a.system.atoms * column_width a.system.rank ≤ length a.index.now =
    omega (arith, c.if-index-system.false, ap (λ (w : ℕ). a.system.atoms * w) c.column_width.ensures) in
    c.check_last.ensures
    ∙ touched_is a.system a.index.now a.region.now a.known.now (sym c.overfull.ensures ∙ c.if-overfull.false) (omega (arith, c.if-system-min.false, c.min.ensures)) room
    (sym c.in_ok-check.ensures)
