-- What `probe` answers, for fit and unfit input.
use Rattle.std.specs.Prelude.{ℕ, min, List, [], ◌∷◌, Bool, false, cond, not, ◌||◌, length, take, ltb, eqb, Result}
use Rattle.rows.specs.Decisions.{undecided}
use Rattle.rows.specs.Flat.{width_of}
use Rattle.refusal.specs.Refusal.{checked, answered}
use Rattle.refusal.specs.declared.Refusal.{Refusal}
use Rattle.refusal.specs.declared.Refusal.TheVariants.{Short, Overfull, Stray, Clash, Basis, Unequal}
use Rattle.fit.specs.Rows.{limit, overfull, short, strays, misnames}
use Rattle.parity.specs.Basis.{basis_of}
use Rattle.parity.specs.declared.System.{System}
use Rattle.region.specs.Masks.{decisions}
use Rattle.region.specs.Calls.{strayed, clashes}
use Rattle.region.specs.declared.Region.{Region}
use Rattle.probe.specs.Elimination.{eliminated}
use Rattle.probe.specs.declared.Probed.{Probed}

-- The checks in their order: 10, 13 for the rank, 9, 11, 12, 13, 15.
unfoldable pub probe_check : System → List ℕ → List ℕ → List ℕ → Region → Result Unit Refusal
probe_check s ws cs ps r =
    checked (
    (Overfull, overfull s.atoms s.rows || ltb limit r.atoms) ∷
    (Basis, ltb (min s.rows s.atoms) s.rank) ∷
    (Short, short s.atoms s.rows ws cs || ltb (length ps) (min s.rows s.atoms)) ∷
    (Stray, strays s.atoms (width_of s.atoms) ws cs s.rows || strayed r) ∷
    (Clash, clashes r) ∷
    (Basis, misnames s.rows ps s.rank) ∷
    (Unequal, not (eqb r.atoms s.atoms)) ∷
    [])

-- A result by its fields: yes, u, k.
abbrev pub told_of : Bool → ℕ → ℕ → Probed
told_of said u k = record { yes = said; undecided = u; kept = k }

-- "k counts the rows kept, on no those kept until then .. u counts atoms neither held nor cut. The Rust ignores a refuted preparation and may
-- say yes; here it is no, k = 0"
abbrev pub probed : System → List ℕ → List ℕ → List ℕ → Region → Probed
probed s ws cs ps r =
    let p = decisions r in
    let kept = eliminated p (basis_of s.atoms ws cs (take s.rank ps)) in
    cond s.refuted (told_of false (undecided p) 0) (told_of kept.sound (undecided p) (length kept.rows))

unfoldable pub probe_of : System → List ℕ → List ℕ → List ℕ → Region → Result Probed Refusal
probe_of s ws cs ps r = answered (probe_check s ws cs ps r) (probed s ws cs ps r)
