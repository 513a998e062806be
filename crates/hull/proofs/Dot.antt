-- The parity of an overlap: it is symmetric, and the parity over a sum is the sum of the parities.
use Prim.Native.Nat.{ℕ, zero, suc, ◌+◌}
use mathlib.Core.Path.{◌≡◌, refl, sym, ap, ap₂, ◌∙◌}
use mathlib.Core.List.{List, [], ◌∷◌}
use mathlib.Core.Bool.{Bool, true, false, not, xor, beq, not-not}
use lib.Dec.{eqb}
use Rattle.words.specs.Set.{odd}
use Rattle.rows.specs.Row.{Row, overlap, meets, plus}
use Rattle.rows.proofs.Odd.{odd_suc, odd_beq}
use Rattle.rows.proofs.Sums.{overlap_plus}
use Rattle.hull.specs.Equations.{zeros}
use Rattle.rows.proofs.Plus.{xor_false}

abbrev pub dot : List Bool → List Bool → Bool
dot c x = odd (overlap c x)

overlap_comm : (c x : List Bool) → overlap c x ≡ overlap x c
overlap_comm [] [] = refl
overlap_comm [] (v ∷ x) = refl
overlap_comm (b ∷ c) [] = refl
overlap_comm (true ∷ c) (true ∷ x) = ap suc (overlap_comm c x)
overlap_comm (true ∷ c) (false ∷ x) = overlap_comm c x
overlap_comm (false ∷ c) (true ∷ x) = overlap_comm c x
overlap_comm (false ∷ c) (false ∷ x) = overlap_comm c x

pub dot_comm : (c x : List Bool) → dot c x ≡ dot x c
dot_comm c x = ap odd (overlap_comm c x)

pub odd_sum : (m n : ℕ) → odd (m + n) ≡ xor (odd m) (odd n)
unfolding xor
odd_sum m n = sym (not-not (odd (m + n))) ∙ ap not (sym (odd_suc (m + n)) ∙ sym (odd_beq m n))

pub dot_plus : (r s x : List Bool) → dot (plus r s) x ≡ xor (dot r x) (dot s x)
dot_plus r s x = ap (λ (d : ℕ). eqb d 1) (overlap_plus r s x) ∙ odd_sum (overlap r x) (overlap s x)

pub dot_sum : (c x y : List Bool) → dot c (plus x y) ≡ xor (dot c x) (dot c y)
dot_sum c x y = dot_comm c (plus x y) ∙ dot_plus x y c ∙ ap₂ xor (dot_comm x c) (dot_comm y c)

pub overlap_zeros : (n : ℕ) (x : List Bool) → overlap (zeros n) x ≡ 0
overlap_zeros zero x = refl
overlap_zeros (suc n) [] = refl
overlap_zeros (suc n) (v ∷ x) = overlap_zeros n x

pub dot_zeros : (n : ℕ) (x : List Bool) → dot (zeros n) x ≡ false
dot_zeros n x = ap odd (overlap_zeros n x)

-- one place more
pub dot_on : (b : Bool) (c x : List Bool) → dot (b ∷ c) (true ∷ x) ≡ xor b (dot c x)
unfolding xor
dot_on true c x = odd_suc (overlap c x) ∙ same (dot c x)
  where
    same : (b : Bool) → not b ≡ xor true b
    same true = refl
    same false = refl
dot_on false c x = sym (xor_false (dot c x))

pub dot_off : (b : Bool) (c x : List Bool) → dot (b ∷ c) (false ∷ x) ≡ dot c x
dot_off true c x = refl
dot_off false c x = refl

pub dot_met : (r : Row) (x : List Bool) → meets r x ≡ true → dot r.atoms x ≡ r.constant
dot_met r x = same (dot r.atoms x) r.constant
  where
    same : (a b : Bool) → beq a b ≡ true → a ≡ b
    same true true h = refl
    same true false h = sym h
    same false true h = h
    same false false h = refl
