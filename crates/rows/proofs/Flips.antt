-- An assignment with one atom turned over: a row without the atom does not see it, and a row with the atom is met after it exactly when
-- it was not met before.
use Prim.Native.Nat.{ℕ, zero, suc, ◌%◌, ◌<◌, suc-le-suc}
use mathlib.Core.Path.{◌≡◌, refl, sym, ap, ◌∙◌}
use mathlib.Core.List.{List, [], ◌∷◌}
use mathlib.Core.Bool.{Bool, true, false, not, beq}
use native.Mathlib.Nat.{le_of_suc-le-suc}
use native.Mathlib.Omega.{arith}
use lib.Dec.{eqb}
use lib.ListN.{length, get_or}
use Rattle.words.specs.Set.{odd}
use Rattle.rows.specs.Row.{Row, Assignment, has_atom, overlap, meets}
use Rattle.rows.proofs.Odd.{odd_suc, meets_odd}

-- Atom a turned over, where there is one.
abbrev pub flip : ℕ → Assignment → Assignment
flip a [] = []
flip zero (v ∷ x) = not v ∷ x
flip (suc a) (v ∷ x) = v ∷ flip a x

-- The test P does not see atom a.
abbrev pub Blind : (Assignment → Bool) → ℕ → Type 0
Blind P a = (x : Assignment) → P (flip a x) ≡ P x

overlap_blind : (r x : List Bool) (a : ℕ) → get_or r a false ≡ false → overlap r (flip a x) ≡ overlap r x
overlap_blind [] x a h = refl
overlap_blind (b ∷ r) [] a h = refl
overlap_blind (true ∷ r) (v ∷ x) zero h = cc
overlap_blind (false ∷ r) (v ∷ x) zero h = refl
overlap_blind (true ∷ r) (true ∷ x) (suc a) h = ap suc (overlap_blind r x a h)
overlap_blind (true ∷ r) (false ∷ x) (suc a) h = overlap_blind r x a h
overlap_blind (false ∷ r) (v ∷ x) (suc a) h = overlap_blind r x a h

overlap_turns : (r x : List Bool) (a : ℕ) → a < length x → get_or r a false ≡ true → overlap r (flip a x) % 2 ≡ suc (overlap r x) % 2
overlap_turns [] x a l h = cc
overlap_turns (b ∷ r) [] a l h = omega arith
overlap_turns (true ∷ r) (true ∷ x) zero l h = omega arith
overlap_turns (true ∷ r) (false ∷ x) zero l h = refl
overlap_turns (false ∷ r) (v ∷ x) zero l h = cc
overlap_turns (true ∷ r) (true ∷ x) (suc a) l h = omega (arith, overlap_turns r x a (le_of_suc-le-suc l) h)
overlap_turns (true ∷ r) (false ∷ x) (suc a) l h = overlap_turns r x a (le_of_suc-le-suc l) h
overlap_turns (false ∷ r) (v ∷ x) (suc a) l h = overlap_turns r x a (le_of_suc-le-suc l) h

pub row_blind : (r : Row) (a : ℕ) → has_atom r a ≡ false → Blind (meets r) a
row_blind r a h x = ap (λ (k : ℕ). beq (odd k) r.constant) (overlap_blind r.atoms x a h)

pub row_turns : (r : Row) (a : ℕ) (x : Assignment) → a < length x → has_atom r a ≡ true → meets r (flip a x) ≡ not (meets r x)
row_turns r a x l h =
    let p = r.constant ∷ r.atoms in
    let o = overlap p (true ∷ x) in
    let e : suc (overlap p (true ∷ flip a x)) % 2 ≡ suc (suc o) % 2 = omega (arith, overlap_turns p (true ∷ x) (suc a) (suc-le-suc l) h) in
    meets_odd r (flip a x) ∙ ap (λ (d : ℕ). eqb d 1) e ∙ odd_suc (suc o) ∙ sym (ap not (meets_odd r x))
