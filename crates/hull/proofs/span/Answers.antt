use Rattle.std.proofs.Common.{◌≡◌, ℕ, ◌+◌, ◌-◌, ◌*◌, ◌%◌, ◌^◌, ◌≤◌, arith}
use lib.Pow.{pow_mono}
use Rattle.hull.specs.Table.{forbids, allowed}
use Rattle.hull.specs.Propose.{limit}
use Rattle.hull.proofs.Turns.{one_shl}
use Rattle.hull.proofs.Spanned.{to_start, to_skip, to_see, to_full, to_few, count_few, found_some, found_none}
use Rattle.hull.proofs.span.Goals as goal

-- how many patterns there are
all : (k : ℕ) → k ≤ limit → (1 * 2 ^ k % 2 ^ 64 ≡ 2 ^ k) × (2 ^ k ≤ 2 ^ 8)
all k h = (one_shl 64 k (omega arith), pow_mono {j = 8} h)

pub returns-in_err-anchor : goal.returns-in_err-anchor
unfolding allowed
returns-in_err-anchor c = grind (arith, all, found_none)

pub loop-pattern-init : goal.loop-pattern-init
loop-pattern-init c = grind (arith, all, to_start)

pub see-requires : goal.see-requires
see-requires c = grind (arith, all, to_few)

pub overflow_add-basis : goal.overflow_add-basis
overflow_add-basis c =
    let q = c.loop-pattern.pattern + 1 in
    grind (arith, all, to_see, to_few, count_few (forbids c.args.forbidden.now) q (1 * 2 ^ c.args.k % 2 ^ 64 - q))

pub returns-then-basis-k : goal.returns-then-basis-k
unfolding allowed
returns-then-basis-k c =
    let q = c.loop-pattern.pattern + 1 in
    grind (arith, all, to_see, to_full (forbids c.args.forbidden.now) c.args.k c.in_ok-anchor.anchor q (1 * 2 ^ c.args.k % 2 ^ 64 - q), found_some)

pub loop-pattern-preserved : goal.loop-pattern-preserved
loop-pattern-preserved c = grind (arith, all, to_see, to_skip)

pub returns : goal.returns
unfolding allowed
returns c = grind (arith, all, found_some)
