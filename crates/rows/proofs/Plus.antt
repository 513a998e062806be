-- The sum of two sets, and of two rows, is commutative and associative; what is added twice is as if never added; and no atoms added
-- change nothing.
use Prim.Native.Nat.{ℕ, zero, suc}
use mathlib.Core.Path.{◌≡◌, refl, sym, ap, ap₂, ◌∙◌}
use mathlib.Core.List.{List, [], ◌∷◌}
use mathlib.Core.Bool.{Bool, true, false, xor}
use native.Mathlib.Omega.{arith}
use lib.ListN.{length, replicate}
use Rattle.rows.specs.Row.{Row, plus, add}

pub xor_comm : (a b : Bool) → xor a b ≡ xor b a
unfolding xor
xor_comm true true = refl
xor_comm true false = refl
xor_comm false true = refl
xor_comm false false = refl

pub xor_assoc : (a b c : Bool) → xor (xor a b) c ≡ xor a (xor b c)
unfolding xor
xor_assoc true true true = refl
xor_assoc true true false = refl
xor_assoc true false true = refl
xor_assoc true false false = refl
xor_assoc false true true = refl
xor_assoc false true false = refl
xor_assoc false false true = refl
xor_assoc false false false = refl

pub xor_self : (a : Bool) → xor a a ≡ false
unfolding xor
xor_self true = refl
xor_self false = refl

pub xor_false : (b : Bool) → xor false b ≡ b
unfolding xor
xor_false true = refl
xor_false false = refl

pub xor_twice : (a b : Bool) → xor a (xor a b) ≡ b
xor_twice a b = sym (xor_assoc a a b) ∙ ap (λ c. xor c b) (xor_self a) ∙ xor_false b

pub xor_same : (a b : Bool) → xor a b ≡ false → a ≡ b
unfolding xor
xor_same true true h = refl
xor_same true false h = h
xor_same false true h = sym h
xor_same false false h = refl

pub plus_comm : (x y : List Bool) → plus x y ≡ plus y x
plus_comm [] [] = refl
plus_comm [] (b ∷ y) = refl
plus_comm (a ∷ x) [] = refl
plus_comm (a ∷ x) (b ∷ y) = ap₂ ◌∷◌ (xor_comm a b) (plus_comm x y)

pub plus_assoc : (x y z : List Bool) → plus (plus x y) z ≡ plus x (plus y z)
plus_assoc [] y z = refl
plus_assoc (a ∷ x) [] z = refl
plus_assoc (a ∷ x) (b ∷ y) [] = refl
plus_assoc (a ∷ x) (b ∷ y) (c ∷ z) = ap₂ ◌∷◌ (xor_assoc a b c) (plus_assoc x y z)

pub length_plus : (x y : List Bool) → length x ≡ length y → length (plus x y) ≡ length y
length_plus [] y e = refl
length_plus (a ∷ x) [] e = e
length_plus (a ∷ x) (b ∷ y) e = let l : length x ≡ length y = omega arith in ap suc (length_plus x y l)

pub plus_twice : (x y : List Bool) → length x ≡ length y → plus x (plus x y) ≡ y
plus_twice [] y e = refl
plus_twice (a ∷ x) [] e = let z : ⊥ = omega arith in absurd z
plus_twice (a ∷ x) (b ∷ y) e = let l : length x ≡ length y = omega arith in ap₂ ◌∷◌ (xor_twice a b) (plus_twice x y l)

pub plus_self : (x : List Bool) → plus x x ≡ replicate (length x) false
unfolding xor
plus_self [] = refl
plus_self (true ∷ x) = ap (◌∷◌ false) (plus_self x)
plus_self (false ∷ x) = ap (◌∷◌ false) (plus_self x)

pub plus_zeros : (n : ℕ) (x : List Bool) → length x ≡ n → plus (replicate n false) x ≡ x
plus_zeros zero x e = refl
plus_zeros (suc n) [] e = let z : ⊥ = omega arith in absurd z
plus_zeros (suc n) (b ∷ x) e = let l : length x ≡ n = omega arith in ap₂ ◌∷◌ (xor_false b) (plus_zeros n x l)

-- ---- the same of rows, with their constants

abbrev both : List Bool → Bool → Row
both l c = record { atoms = l; constant = c }

pub add_comm : (r s : Row) → add r s ≡ add s r
add_comm r s = ap₂ both (plus_comm r.atoms s.atoms) (xor_comm r.constant s.constant)

pub add_assoc : (r s t : Row) → add (add r s) t ≡ add r (add s t)
add_assoc r s t = ap₂ both (plus_assoc r.atoms s.atoms t.atoms) (xor_assoc r.constant s.constant t.constant)

pub add_twice : (r s : Row) → length r.atoms ≡ length s.atoms → add r (add r s) ≡ s
add_twice r s e = ap₂ both (plus_twice r.atoms s.atoms e) (xor_twice r.constant s.constant)

pub add_zeros : (n : ℕ) (r : Row) → length r.atoms ≡ n → add (both (replicate n false) false) r ≡ r
add_zeros n r e = ap₂ both (plus_zeros n r.atoms e) (xor_false r.constant)
