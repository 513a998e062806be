-- Laws of counting: a count depends on the test's values only, splits by a second test, and is not changed by a flip of one atom. So a row
-- with an atom that the test does not see is met by just half of what passes the test.
use Prim.Native.Nat.{ℕ, zero, suc, ◌+◌, ◌*◌, ◌<◌}
use mathlib.Core.Path.{◌≡◌, refl, ap, ap₂}
use mathlib.Core.List.{[], ◌∷◌}
use mathlib.Core.Bool.{Bool, true, false, not, cond, ◌&&◌}
use native.Mathlib.Omega.{arith}
use lib.ListN.{length}
use Rattle.rows.specs.Row.{Row, Assignment, has_atom, meets}
use Rattle.rows.specs.Count.{count}
use Rattle.rows.proofs.Flips.{flip, Blind, row_turns}

pub count_ext : {n : ℕ} {P Q : Assignment → Bool} → ((x : Assignment) → length x ≡ n → P x ≡ Q x) → count n P ≡ count n Q
unfolding count
count_ext {n = zero} h = ap (λ (b : Bool). cond b 1 0) (h [] refl)
count_ext {n = suc n} h = ap₂ ◌+◌ (count_ext (λ x e. h (false ∷ x) (ap suc e))) (count_ext (λ x e. h (true ∷ x) (ap suc e)))

pub count_none : (n : ℕ) → count n (λ x. false) ≡ 0
unfolding count
count_none zero = refl
count_none (suc n) = omega (arith, count_none n)

pub count_split : (n : ℕ) (P M : Assignment → Bool) → count n P ≡ count n (λ x. P x && M x) + count n (λ x. P x && not (M x))
unfolding count
count_split zero P M = parts (P []) (M [])
  where
    parts : (p m : Bool) → cond p 1 0 ≡ cond (p && m) 1 0 + cond (p && not m) 1 0
    parts true true = refl
    parts true false = refl
    parts false m = refl
count_split (suc n) P M =
    omega (arith, count_split n (λ x. P (false ∷ x)) (λ x. M (false ∷ x)), count_split n (λ x. P (true ∷ x)) (λ x. M (true ∷ x)))

pub count_flip : (n a : ℕ) (P : Assignment → Bool) → count n (λ x. P (flip a x)) ≡ count n P
unfolding count
count_flip zero a P = refl
count_flip (suc n) zero P = omega arith
count_flip (suc n) (suc a) P = ap₂ ◌+◌ (count_flip n a (λ x. P (false ∷ x))) (count_flip n a (λ x. P (true ∷ x)))

pub halving : (n a : ℕ) (P : Assignment → Bool) (r : Row) → a < n → has_atom r a ≡ true → Blind P a → 2 * count n (λ x. P x && meets r x) ≡ count n P
halving n a P r l h blind = omega (arith, turned, count_flip n a (λ x. P x && meets r x), count_split n P (meets r))
  where
    turned : count n (λ x. P (flip a x) && meets r (flip a x)) ≡ count n (λ x. P x && not (meets r x))
    turned = count_ext (λ x e. ap₂ ◌&&◌ (blind x) (row_turns r a x (rw e l) h))
