-- A row is read by how many open atoms it shares and by the parity of its held ones.
use Rattle.std.proofs.Common.{◌≡◌, ℕ, Option, Some, None, cond, eqb, ◌∙◌, arith, rules}
use Rattle.std.specs.Int.Bits.{bit_and}
use Rattle.std.specs.Int.Count.{ones}
use Rattle.words.specs.Set.{set_of, low}
use Rattle.inspect.specs.Steps.{reading_at}
use Rattle.inspect.proofs.Overlaps.{count_is, odd_is}
use Rattle.inspect.proofs.Readings.{says_quiet, said_lowest, by_lowest}
use Rattle.inspect.proofs.says.read.Goals as goal
use Rattle.inspect.proofs.says.read.Goals.{After-unwrap_or-open, After-unwrap_or-parity}

shared : (c : After-unwrap_or-open) → c.unwrap_or-open.result ≡ ones (bit_and (set_of c.in-Some.row.words.now) (set_of c.args.masks.now.free))
shared c =
    c.unwrap_or-open.ensures ∙ count_is c.in-Some.row.words.now c.args.masks.now.free c.in-Some.row.few (search rules) c.intersection_count.result c.intersection_count.ensures

-- what the row says by the lowest of its open atoms, where it has at most one
lowest : (c : After-unwrap_or-parity) → (a : Option ℕ)
    → (let common = bit_and (set_of c.in-Some.row.words.now) (set_of c.args.masks.now.free) in a ≡ cond (eqb common 0) None (Some (low common)))
    → by_lowest c.unwrap_or-parity.result (eqb c.in-Some.row.constant 1) a ≡ reading_at c.args.basis.now c.args.masks.now c.args.place.0
lowest c a is =
    let b = c.args.basis.now in
    let m = c.args.masks.now in
    let row = c.in-Some.row in
    let told = c.in-Some.ensures.1 in
    let common = c.unwrap_or-open.ensures ∙ count_is row.words.now m.free row.few (search rules) _ c.intersection_count.ensures in
    let held = c.unwrap_or-parity.ensures ∙ odd_is row.words.now m.held row.few (search rules) _ c.intersection_parity.ensures in
    let few = rw told.words at common in
    rw told.constant
    (said_lowest b.atoms b.rows.now b.constants.now _ (set_of m.held) (set_of m.free) (b.named.legible c.args.place.0 c.requires) c.unwrap_or-parity.result
    (rw told.words at held) (omega (arith, few)) a (rw told.words at is))

pub returns-then-open-gt1 : goal.returns-then-open-gt1
returns-then-open-gt1 c =
    let b = c.args.basis.now in
    let m = c.args.masks.now in
    let common = rw c.in-Some.ensures.1.words at (shared (goal.at.returns-then-open-gt1 c).After-unwrap_or-open) in
    says_quiet b.atoms b.rows.now b.constants.now _ (set_of m.held) (set_of m.free) (b.named.legible c.args.place.0 c.requires) (omega (arith, common))

pub first_common-requires : goal.first_common-requires
first_common-requires c = record { few = c.in-Some.row.few; counted = shared (goal.at.first_common-requires c).After-unwrap_or-open }

pub returns-in-Some-first_common : goal.returns-in-Some-first_common
returns-in-Some-first_common c =
    lowest (goal.at.returns-in-Some-first_common c).After-unwrap_or-parity (Some c.in-Some-first_common.atom) c.in-Some-first_common.ensures

pub returns-in-None : goal.returns-in-None
returns-in-None c = rw c.if-parity-constant.true at (lowest (goal.at.returns-in-None c).After-unwrap_or-parity None c.in-None.ensures)

pub returns-in-None-2 : goal.returns-in-None-2
returns-in-None-2 c = rw c.if-parity-constant.false at (lowest (goal.at.returns-in-None-2 c).After-unwrap_or-parity None c.in-None.ensures)
