-- The rows kept are independent: a sum of some of them that is empty has none of them in it. The oldest one chosen has a pivot that no
-- other one chosen has.
use Prim.Native.Nat.{ℕ, zero, suc, ◌<◌, suc-le-suc}
use mathlib.Core.Path.{◌≡◌, refl, sym, ◌∙◌}
use mathlib.Core.List.{List, [], ◌∷◌}
use mathlib.Core.Bool.{Bool, true, false, xor, true≢false}
use native.Mathlib.Nat.{le_of_suc-le-suc}
use native.Mathlib.Omega.{arith}
use lib.ListN.{length, get_or}
use Rattle.rows.specs.Row.{Row, has_atom, add, sum_of}
use Rattle.rows.specs.Decisions.{Decisions}
use Rattle.rows.specs.Triangular.{HasNone, Triangular}
use Rattle.echelon.specs.Forward.{empty}
use Rattle.echelon.proofs.Lows.{some_atom}
use Rattle.hull.proofs.Only.{get_d_zeros}
use Rattle.probe.specs.Elimination.{eliminated}
use Rattle.probe.specs.Promises.{KeptIndependent}
use Rattle.probe.specs.Steps.{pivots}
use Rattle.probe.proofs.Undecided.{has_sum}
use Rattle.probe.proofs.Pivoted.{kept_triangular}

-- what would be false if it were true
never : (b : Bool) → (b ≡ true → true ≡ false) → b ≡ false
never true h = h refl
never false h = refl

-- no row of the list is chosen
abbrev NoneChosen : List Bool → List Row → Type 0
NoneChosen bs ks = (i : ℕ) → i < length ks → get_or bs i false ≡ false

-- then the sum has no atom
sum_none : (n : ℕ) (bs : List Bool) (ks : List Row) (a : ℕ) → NoneChosen bs ks → has_atom (sum_of n bs ks) a ≡ false
sum_none n [] ks a h = get_d_zeros n a
sum_none n (b ∷ bs) [] a h = get_d_zeros n a
sum_none n (true ∷ bs) (k ∷ ks) a h = absurd (true≢false (h 0 (omega arith)))
sum_none n (false ∷ bs) (k ∷ ks) a h = sum_none n bs ks a (λ i l. h (suc i) (suc-le-suc l))

-- atoms that a sum and one part lack, the other part lacks
rest_none : (r s : Row) (ps : List ℕ) → HasNone (add r s) ps → HasNone r ps → HasNone s ps
unfolding xor
rest_none r s [] h g = tt
rest_none r s (a ∷ ps) h g =
    (never (has_atom s a) (λ e. sym (has_sum r s a false true g.0 e) ∙ h.0), rest_none r s ps h.1 g.1)

-- a sum without any of the pivots chooses no row
chooses_none : (n : ℕ) (p : Decisions) (ps : List ℕ) (bs : List Bool) (ks : List Row) → Triangular p ps ks
    → HasNone (sum_of n bs ks) ps → NoneChosen bs ks
unfolding xor
chooses_none n p ps [] ks t h i l = refl
chooses_none n p ps (b ∷ bs) [] t h i l = let z : ⊥ = omega arith in absurd z
chooses_none n p [] (b ∷ bs) (k ∷ ks) t h i l = absurd t
chooses_none n p (a ∷ ps) (true ∷ bs) (k ∷ ks) t h i l =
    let s = sum_of n bs ks in
    let none = chooses_none n p ps bs ks t.3 (rest_none k s ps h.1 t.2) in
    absurd (true≢false (sym (has_sum k s a true false t.1 (sum_none n bs ks a none)) ∙ h.0))
chooses_none n p (a ∷ ps) (false ∷ bs) (k ∷ ks) t h zero l = refl
chooses_none n p (a ∷ ps) (false ∷ bs) (k ∷ ks) t h (suc i) l = chooses_none n p ps bs ks t.3 h.1 i (le_of_suc-le-suc l)

empty_lacks : (r : Row) (ps : List ℕ) → empty r.atoms ≡ true → HasNone r ps
empty_lacks r [] e = tt
empty_lacks r (a ∷ ps) e = (never (has_atom r a) (λ h. sym e ∙ some_atom r.atoms a h), empty_lacks r ps e)

pub kept_independent : KeptIndependent
kept_independent p rs n bs i l h =
    let ks = (eliminated p rs).rows in
    let s = sum_of n bs ks in
    never (empty s.atoms)
    (λ e. sym h ∙ chooses_none n p (pivots ks) bs ks (kept_triangular p rs) (empty_lacks s (pivots ks) e) i l)
