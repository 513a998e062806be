use Rattle.std.proofs.Common.{ℕ, ◌+◌, List, ◌++◌, drop, ap, ap₂, ◌∙◌}
use Rattle.hull.specs.Steps.{bit, seen}
use Rattle.hull.proofs.Turns.{byte_bit}
use Rattle.hull.proofs.Basis.see.Goals as goal

pub returns : goal.returns
unfolding seen
returns c =
    let s = c.args.self.now in
    let e = c.enter-came.ensures in
    ap₂ (λ (ps : List ℕ) (n : ℕ). record s { pivots = ps ++ drop c.args.k s.pivots; rank = s.rank + n; allowed = s.allowed + 1 }) e.pivots
    (c.from.ensures ∙ byte_bit _ ∙ ap bit e.came)
