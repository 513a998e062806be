-- a word that is not empty has the set's lowest atom
use Rattle.std.proofs.Common.{◌≡◌, ◌<◌, ◌^◌, ◌*◌, length, sym, ap, ◌∙◌, arith, zero-mul, slice_index_or}
use Rattle.std.specs.Prelude.{Ok, Some}
use borrow.Author.Tests.{eq-eqb, ne_eqb, lt-ltb}
use Rattle.words.specs.Set.{set_of}
use Rattle.words.specs.Calls.{first_of}
use Rattle.words.proofs.Packed.{left_none}
use Rattle.words.proofs.Scan.{from_next, first_at, first_some}
use Rattle.words.proofs.first.Goals as goal

pub returns-then-word-ne0 : goal.returns-then-word-ne0
unfolding first_of
returns-then-word-ne0 c =
    let ws = c.args.words.now in
    let i = c.loop-i.i in
    let narrow : length ws * 64 < 2 ^ 64 = omega arith in
    let some : 0 < slice_index_or ws i 0 = omega arith in
    let fits = (c.type_inv.words i).fits in
    simp (lt-ltb _ _ narrow, ne_eqb _ _ (first_some 64 ws i (omega arith) c.loop-i.invariant some fits))
    (ap (λ n. Ok (Some n)) (sym (first_at 64 ws i (omega arith) c.loop-i.invariant some fits)))

pub loop-i-preserved : goal.loop-i-preserved
loop-i-preserved c = from_next 64 c.args.words.now c.loop-i.i (omega arith) c.loop-i.invariant c.if-word-ne0.false

pub returns : goal.returns
unfolding first_of
returns c =
    let ws = c.args.words.now in
    let narrow : length ws * 64 < 2 ^ 64 = omega arith in
    let empty : set_of ws ≡ 0 = c.loop-i.invariant ∙ ap (λ n. n * 2 ^ (c.loop-i.i * 64)) (left_none 64 ws c.loop-i.i (omega arith)) ∙ zero-mul _ in
    simp (lt-ltb _ _ narrow, eq-eqb _ _ empty)
