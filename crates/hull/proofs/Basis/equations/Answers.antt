use Rattle.std.proofs.Common.{◌≡◌, ◌<◌, sym, ◌∙◌, length, rules, arith}
use Rattle.std.proofs.Math.Seq.{length-take-le, get_or-take}
use Rattle.hull.specs.Propose.{limit}
use Rattle.hull.proofs.Turns.{one_shl}
use Rattle.hull.proofs.Filed.{filed_skip, filed_add, filed_all}
use Rattle.hull.proofs.Basis.equations.Goals as goal
use Rattle.hull.proofs.Basis.equations.Goals.{then-pivot-eq0, else-pivot-eq0}

pub loop-free-preserved : goal.loop-free-preserved
loop-free-preserved c =
    let s = c.args.self.now in
    let f = c.loop-free.invariant.0 in
    let eight : length s.pivots ≡ 8 = search rules in
    let all = length-take-le c.args.k s.pivots (omega arith) in
    let here : c.loop-free.free < c.args.k = omega arith in
    let pivot = get_or-take c.args.k s.pivots c.loop-free.free 0 here in
    let room : c.loop-free.count < limit = omega arith in
    elim c.if-pivot-eq0.branch [
      | then-pivot-eq0 w ↦ (
        filed_add s.anchor s.pivots c.args.k _ _ _ f here room (sym pivot ∙ w.if-pivot-eq0.true) w.equation-coefficients.ensures w.is_odd.ensures w.equations-is w.count-is,
        omega (arith, w.count-is),
      )
      | else-pivot-eq0 w ↦ (
        filed_skip s.anchor s.pivots c.args.k _ _ _ f here (λ e. w.if-pivot-eq0.false (pivot ∙ e)) w.equations-is w.count-is,
        omega (arith, w.count-is),
      )
    ]

pub returns : goal.returns
returns c = grind (arith, length-take-le, one_shl 64 c.args.self.now.rank, filed_all _ _ _ _ _ _ c.loop-free.invariant.0)
