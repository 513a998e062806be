-- What each call of `region` answers, for fit and unfit regions.
use Rattle.std.specs.Prelude.{ℕ, ◌^◌, List, [], ◌∷◌, Bool, true, false, cond, not, ◌||◌, get_or, set, replicate, leb, ltb, eqb, Result, Ok, Err}
use Rattle.std.specs.Bool.{beq}
use Rattle.std.proofs.Math.Option.{Option, none, some}
use Rattle.std.specs.Int.Bits.{bit_and}
use Rattle.words.specs.Set.{set_of}
use Rattle.rows.specs.Decisions.{Decisions}
use Rattle.rows.specs.declared.Atom.{Atom}
use Rattle.refusal.specs.Refusal.{checked, answered, left}
use Rattle.refusal.specs.declared.Refusal.{Refusal}
use Rattle.refusal.specs.declared.Refusal.TheVariants.{Overfull, Stray, Clash, Atom as NoAtom}
use Rattle.fit.specs.Rows.{limit}
use Rattle.region.specs.Masks.{decisions, region_of}
use Rattle.region.specs.declared.Region.{Region}
use Rattle.region.specs.declared.Answer.{Answer}
use Rattle.region.specs.declared.Answer.TheVariants.{Taken, Same, Against}

-- "a decision answered taken or same is accepted, one answered against, or refused, is not"
abbrev pub accepted : Result Answer Refusal → Bool
accepted (Ok Taken) = true
accepted (Ok Same) = true
accepted (Ok Against) = false
accepted (Err refusal) = false

-- "11: a bit set at or above n in a .. region". (A set with an atom from n on is a number from 2^n on.)
abbrev pub strayed : Region → Bool
strayed r = leb (2 ^ r.atoms) (set_of r.held) || leb (2 ^ r.atoms) (set_of r.cut)

-- "12: an atom held and cut"
abbrev pub clashes : Region → Bool
clashes r = not (eqb (bit_and (set_of r.held) (set_of r.cut)) 0)

-- 10, 11 and 12, and the checks that a call has after them.
abbrev pub region_checks : Region → List (Refusal × Bool) → List (Refusal × Bool)
region_checks r more = (Overfull, ltb limit r.atoms) ∷ (Stray, strayed r) ∷ (Clash, clashes r) ∷ more

unfoldable pub region_check : Region → Result Unit Refusal
region_check r = checked (region_checks r [])

-- "18: an atom not below n in hold, cut"
unfoldable pub decide_check : Region → Atom → Result Unit Refusal
decide_check r a = checked (region_checks r ((NoAtom, leb r.atoms a.0) ∷ []))

-- "hold and cut hand back the region with that decision made, and answer taken (was open), same, or against (nothing altered)": atom a
-- made v, by what was decided of it.
abbrev pub decided : Decisions → ℕ → Bool → Option Bool → Answer × Region
decided p a v none = (Taken, region_of (set p a (some v)))
decided p a v (some b) = (cond (beq b v) Same Against, region_of p)

-- A refused call leaves the region as passed.
abbrev pub decide_of : Bool → Region → Atom → Result Answer Refusal × Region
decide_of v r a =
    let p = decisions r in
    let check = decide_check r a in
    let d = decided p a.0 v (get_or p a.0 none) in
    (answered check d.0, left check d.1 r)

unfoldable pub hold_of : Region → Atom → Result Answer Refusal × Region
hold_of = decide_of true

unfoldable pub cut_of : Region → Atom → Result Answer Refusal × Region
cut_of = decide_of false

-- "one region that begins undecided"; above 512 atoms it is refused with 10.
unfoldable pub undecided_of : ℕ → Result Region Refusal
undecided_of n = answered (checked ((Overfull, ltb limit n) ∷ [])) (region_of (replicate n none))
