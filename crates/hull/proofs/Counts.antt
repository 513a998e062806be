-- Laws of counting: a sum moves the lists counted without changing their count; a test that implies another passes at most as often, and if
-- it passes as often the two are the same.
use Prim.Native.Nat.{ℕ, zero, suc, ◌+◌, ◌≤◌}
use mathlib.Core.Path.{◌≡◌, refl, ap, ap₂}
use mathlib.Core.List.{List, [], ◌∷◌}
use mathlib.Core.Bool.{Bool, true, false, xor, cond}
use native.Mathlib.Omega.{arith}
use lib.ListN.{length}
use Rattle.rows.specs.Row.{Assignment, plus}
use Rattle.rows.specs.Count.{count}

pub count_moved : (t : List Bool) (P : List Bool → Bool) → count (length t) (λ x. P (plus x t)) ≡ count (length t) P
unfolding count xor
count_moved [] P = refl
count_moved (false ∷ t) P = ap₂ ◌+◌ (count_moved t (λ x. P (false ∷ x))) (count_moved t (λ x. P (true ∷ x)))
count_moved (true ∷ t) P = omega (arith, count_moved t (λ x. P (false ∷ x)), count_moved t (λ x. P (true ∷ x)))

pub count_le : (n : ℕ) (P Q : Assignment → Bool) → ((x : Assignment) → length x ≡ n → P x ≡ true → Q x ≡ true) → count n P ≤ count n Q
unfolding count
count_le zero P Q h = one (P []) (Q []) (h [] refl)
  where
    one : (p q : Bool) → (p ≡ true → q ≡ true) → cond p 1 0 ≤ cond q 1 0
    one true q i = rw (i refl) (omega arith)
    one false q i = omega arith
count_le (suc n) P Q h =
    let half : (b : Bool) → count n (λ x. P (b ∷ x)) ≤ count n (λ x. Q (b ∷ x)) =
    λ b. count_le n (λ x. P (b ∷ x)) (λ x. Q (b ∷ x)) (λ x e. h (b ∷ x) (ap suc e)) in
    omega (arith, half false, half true)

-- what implies a test and passes as often is the same test
pub count_same : (n : ℕ) (P Q : Assignment → Bool) → ((x : Assignment) → length x ≡ n → P x ≡ true → Q x ≡ true) → count n P ≡ count n Q
    → (x : Assignment) → length x ≡ n → P x ≡ Q x
unfolding count
count_same zero P Q h e [] l = one (P []) (Q []) e
  where
    one : (p q : Bool) → cond {A = ℕ} p 1 0 ≡ cond q 1 0 → p ≡ q
    one true true i = refl
    one true false i = let no : ⊥ = omega arith in absurd no
    one false true i = let no : ⊥ = omega arith in absurd no
    one false false i = refl
count_same zero P Q h e (v ∷ x) l = let no : ⊥ = omega arith in absurd no
count_same (suc n) P Q h e [] l = let no : ⊥ = omega arith in absurd no
count_same (suc n) P Q h e (v ∷ x) l =
    count_same n (λ y. P (v ∷ y)) (λ y. Q (v ∷ y)) (after v) (equal v) x (omega arith)
  where
    after : (b : Bool) (y : Assignment) → length y ≡ n → P (b ∷ y) ≡ true → Q (b ∷ y) ≡ true
    after b y d = h (b ∷ y) (ap suc d)

    half : (b : Bool) → count n (λ y. P (b ∷ y)) ≤ count n (λ y. Q (b ∷ y))
    half b = count_le n (λ y. P (b ∷ y)) (λ y. Q (b ∷ y)) (after b)

    equal : (b : Bool) → count n (λ y. P (b ∷ y)) ≡ count n (λ y. Q (b ∷ y))
    equal true = omega (arith, half true, half false)
    equal false = omega (arith, half true, half false)
