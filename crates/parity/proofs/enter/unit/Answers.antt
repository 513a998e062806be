-- `unit`: a row with just one atom has a lowest one.
use mathlib.Core.Path.{◌≡◌, refl, sym, ◌∙◌}
use borrow.Author.Tests.{eq-eqb}
use Rattle.std.specs.Int.Count.{ones}
use Rattle.words.specs.Set.{set_of}
use Rattle.parity.proofs.Unit.{unit_first}
use Rattle.parity.proofs.enter.unit.Goals as goal

pub unwrap-requires : goal.unwrap-requires
unwrap-requires c = rw (c.first.ensures, unit_first c.args.row.now.words.now c.args.row.now.few (sym c.requires ∙ c.if-count-ne1.false)) refl

pub returns-in_err-atom : goal.returns-in_err-atom
returns-in_err-atom c =
    let first = unit_first c.args.row.now.words.now c.args.row.now.few (sym c.requires ∙ c.if-count-ne1.false) in
    let none = c.in_err-atom.ensures in
    let z : ⊥ = cc in
    absurd z

pub returns : goal.returns
returns c =
    let one : ones (set_of c.args.row.now.words.now) ≡ 1 = sym c.requires ∙ c.if-count-ne1.false in
    let first = unit_first c.args.row.now.words.now c.args.row.now.few one in
    let found = c.in_ok-atom.ensures in
    rw (eq-eqb _ 1 one) cc
