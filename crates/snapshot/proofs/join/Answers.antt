use Rattle.std.proofs.Common.{List, ℕ, ap, ◌∙◌, arith}
use Rattle.words.specs.Set.{set_of, has}
use Rattle.snapshot.proofs.Joining.{joined_part, joined_has}
use Rattle.snapshot.proofs.join.Goals as goal

pub returns : goal.returns
returns c j h =
    let l = c.args.rows.now in
    let r = c.args.column.now in
    let n = c.min-both.result in
    ap (λ (ws : List ℕ). has (set_of ws) j) (joined_part l r n (omega arith) (omega arith) c.union_assign.new.left c.union_assign.ensures.words)
    ∙ joined_has l r n j (omega arith) h (λ past. omega arith)
