-- Additions to one row: what each addition keeps holds of the row left, and when they end no pivot is left for it.
use Prim.Native.Nat.{ℕ, zero, suc, ◌≤◌}
use mathlib.Core.Path.{◌≡◌, refl, sym, subst, ◌∙◌}
use mathlib.Core.List.{List, [], ◌∷◌}
use mathlib.Core.Bool.{Bool, true, false, cond}
use mathlib.Core.Option.{Option, none, some, some-injective, none-ne-some}
use native.Mathlib.Omega.{arith}
use lib.ListN.{length}
use Rattle.rows.specs.Row.{Row, add}
use Rattle.echelon.specs.Forward.{same_low, empty, find, forward, reduced}
use Rattle.echelon.specs.Promises.{Sized, ReductionEnds}
use Rattle.echelon.specs.Steps.{rest}
use Rattle.echelon.proofs.Lows.{find_none, rest_le, rest_falls}
use Rattle.rows.proofs.Plus.{length_plus}

abbrev pub Each : (Row → Type 0) → List Row → Type 0
Each P [] = Unit {0}
Each P (r ∷ rs) = P r × Each P rs

pub each_map : {P Q : Row → Type 0} → ((r : Row) → P r → Q r) → (rs : List Row) → Each P rs → Each Q rs
each_map f [] h = tt
each_map f (r ∷ rs) h = (f r h.0, each_map f rs h.1)

abbrev pub Long : ℕ → Row → Type 0
Long n r = length r.atoms ≡ n

pub each_long : (n : ℕ) (rs : List Row) → Sized n rs → Each (Long n) rs
each_long n [] h = tt
each_long n (r ∷ rs) h = (h.0, each_long n rs h.1)

pub long_add : (n : ℕ) (r s : Row) → Long n r → Long n s → Long n (add r s)
long_add n r s h k = length_plus r.atoms s.atoms (h ∙ sym k) ∙ k

-- ---- the row found

abbrev pub Fits : (Row → Type 0) → Row → Row → Type 0
Fits Q r b = (same_low r.atoms b.atoms ≡ true) × Q b

first_or : (Q : Row → Type 0) (r b c : Row) (o : Option Row) (t : Bool) → same_low r.atoms c.atoms ≡ t → Q c → (o ≡ some b → Fits Q r b)
    → cond t (some c) o ≡ some b → Fits Q r b
first_or Q r b c o true s q older e = subst (Fits Q r) (some-injective c b e) (s, q)
first_or Q r b c o false s q older e = older e

pub found : (Q : Row → Type 0) (r b : Row) (bs : List Row) → Each Q bs → find r bs ≡ some b → Fits Q r b
found Q r b [] q e = absurd (none-ne-some b e)
found Q r b (c ∷ bs) q e = first_or Q r b c (find r bs) (same_low r.atoms c.atoms) refl q.0 (found Q r b bs q.1) e

-- ---- what an addition of a row with Q keeps

module _ (P Q : Row → Type 0) (keeps : (r b : Row) → P r → Q b → P (add r b)) (bs : List Row) (each : Each Q bs) where
  forward_keeps : (f : ℕ) (o : Option Row) (r : Row) (k : ℕ) → find r bs ≡ o → P r → P (forward f bs o r k).0
  unfolding forward
  forward_keeps zero o r k e p = p
  forward_keeps (suc f) none r k e p = p
  forward_keeps (suc f) (some b) r k e p =
      forward_keeps f (find (add r b) bs) (add r b) (suc k) refl (keeps r b p (found Q r b bs each e).1)

  pub reduced_keeps : (n : ℕ) (r : Row) → P r → P (reduced n bs r).0
  reduced_keeps n r p = forward_keeps n (find r bs) r 0 refl p

-- ---- the end

rest_none : (r : List Bool) → rest r ≤ 0 → empty r ≡ true
rest_none [] h = refl
rest_none (true ∷ r) h = let z : ⊥ = omega arith in absurd z
rest_none (false ∷ r) h = rest_none r h

module _ (n : ℕ) (bs : List Row) (each : Each (Long n) bs) where
  forward_ends : (f : ℕ) (o : Option Row) (r : Row) (k : ℕ) → find r bs ≡ o → Long n r → rest r.atoms ≤ f → find (forward f bs o r k).0 bs ≡ none
  unfolding forward
  forward_ends zero o r k e l h = find_none r (rest_none r.atoms h) bs
  forward_ends (suc f) none r k e l h = e
  forward_ends (suc f) (some b) r k e l h =
      let is = found (Long n) r b bs each e in
      forward_ends f (find (add r b) bs) (add r b) (suc k) refl (long_add n r b l is.1)
      (omega (arith, rest_falls r.atoms b.atoms is.0 (l ∙ sym is.1)))

pub reduction_ends : ReductionEnds
reduction_ends n bs r sized l = forward_ends n bs (each_long n bs sized) n (find r bs) r 0 refl l (omega (arith, rest_le r.atoms))
