-- The theorems of `region`, as statements; src/promises.rt holds each.
use Rattle.std.specs.Prelude.{ℕ, ◌^◌, ◌≤◌, ◌<◌, ◌≡◌, Bool, true, false, length, get_or, Result, Ok}
use Rattle.std.proofs.Math.Option.{none, some}
use Rattle.rows.specs.Decisions.{Decisions}
use Rattle.rows.specs.declared.Atom.{Atom}
use Rattle.region.specs.Masks.{decisions, region_of}
use Rattle.region.specs.Calls.{accepted, region_check, hold_of, cut_of}
use Rattle.region.specs.declared.Region.{Region}
use Rattle.region.specs.declared.Answer.{Answer}
use Rattle.refusal.specs.declared.Refusal.{Refusal}

-- The call that decides an atom to be so.
abbrev pub deciding : Bool → Region → Atom → Result Answer Refusal × Region
deciding true = hold_of
deciding false = cut_of

-- A decision that is accepted stands in the region handed back.
abbrev pub AcceptedStands : Type 0
AcceptedStands = (v : Bool) (r : Region) (a : Atom) → accepted (deciding v r a).0 ≡ true
    → get_or (decisions (deciding v r a).1) a.0 none ≡ some v

-- Every other atom is as it was, and where the decision is not accepted all are.
abbrev pub OthersStay : Type 0
OthersStay = (v : Bool) (r : Region) (a : Atom)
    → ((b : ℕ) → (b ≡ a.0 → ⊥) → get_or (decisions (deciding v r a).1) b none ≡ get_or (decisions r) b none)
    × (accepted (deciding v r a).0 ≡ false → decisions (deciding v r a).1 ≡ decisions r)

-- What is decided is never undone: the region only gains decisions.
abbrev pub DecisionsStay : Type 0
DecisionsStay = (v : Bool) (r : Region) (a : Atom) (b : ℕ) (w : Bool) → get_or (decisions r) b none ≡ some w
    → get_or (decisions (deciding v r a).1) b none ≡ some w

-- Any decisions on up to 512 atoms are those of a region, and it is fit.
abbrev pub RegionHolds : Type 0
RegionHolds = (p : Decisions) → length p ≤ 512 → (decisions (region_of p) ≡ p) × (region_check (region_of p) ≡ Ok tt)

-- And back: a fit region of eight words is the region of its decisions, so what has the same decisions is the same region.
abbrev pub DecisionsFix : Type 0
DecisionsFix = (r : Region) → length r.held ≡ 8 → length r.cut ≡ 8
    → ((i : ℕ) → get_or r.held i 0 < 2 ^ 64) → ((i : ℕ) → get_or r.cut i 0 < 2 ^ 64)
    → region_check r ≡ Ok tt → region_of (decisions r) ≡ r
