-- Held, cut and undecided atoms make up all.
use Rattle.std.proofs.Common.{◌≡◌, ◌+◌, ◌≤◌, length, take, rules, arith}
use Rattle.std.specs.Int.Count.{ones}
use Rattle.words.specs.Set.{set_of}
use Rattle.rows.specs.Decisions.{undecided}
use Rattle.region.specs.Masks.{decisions}
use Rattle.region.proofs.Masked.{fitting}
use Rattle.probe.proofs.Tallies.{tallied}
use Rattle.probe.proofs.open_count.Goals as goal
use Rattle.probe.proofs.open_count.Goals.{After-width-width}

few : (c : After-width-width) → c.width-width.result ≤ 8
few c = omega (arith, c.width-width.ensures, (fitting c.args.region.now c.requires).few)

eight : (c : After-width-width) → (length c.args.region.now.held ≡ 8) × (length c.args.region.now.cut ≡ 8)
eight c = (search rules, search rules)

all : (c : After-width-width) → let r = c.args.region.now in
    undecided (decisions r) + ones (set_of (take c.width-width.result r.held)) + ones (set_of (take c.width-width.result r.cut)) ≡ r.atoms
all c = tallied c.args.region.now (fitting c.args.region.now c.requires) (eight c).0 (eight c).1 c.width-width.result c.width-width.ensures

pub size-held-requires : goal.size-held-requires
size-held-requires c = let here = (goal.at.size-held-requires c).After-width-width in (few here, omega (arith, few here, (eight here).0))

pub size-cut-requires : goal.size-cut-requires
size-cut-requires c = let here = (goal.at.size-cut-requires c).After-width-width in (few here, omega (arith, few here, (eight here).1))

pub overflow_sub-result : goal.overflow_sub-result
overflow_sub-result c = omega (arith, c.size-held.ensures, c.size-cut.ensures, all (goal.at.overflow_sub-result c).After-width-width)

pub overflow_sub-result-2 : goal.overflow_sub-result-2
overflow_sub-result-2 c = omega (arith, c.size-held.ensures, c.size-cut.ensures, all (goal.at.overflow_sub-result-2 c).After-width-width)

pub returns : goal.returns
returns c = omega (arith, c.size-held.ensures, c.size-cut.ensures, all (goal.at.returns c).After-width-width)
