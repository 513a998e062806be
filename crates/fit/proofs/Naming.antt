-- Whether a basis names rows, asked one entry after another.
use Prim.Native.Nat.{ℕ, suc, ◌+◌, ◌≤◌, ◌<◌, min}
use mathlib.Core.Path.{◌≡◌, refl, ap, ◌∙◌}
use mathlib.Core.List.{List}
use mathlib.Core.Bool.{Bool, false, ◌||◌}
use native.Mathlib.Numerals.{add-one}
use native.Mathlib.Omega.{arith}
use borrow.Author.Tests.{leb-false, lt-leb}
use lib.ListN.{length, get_or}
use lib.Dec.{leb}
use Rattle.fit.specs.Rows.{misnames}
use Rattle.fit.proofs.Among.{any_each, any_none}

module _ (m : ℕ) (basis : List ℕ) where
  abbrev misnames_at : ℕ → Bool
  misnames_at j = leb m (get_or basis j 0)

  pub misnames_start : misnames m basis 0 ≡ false
  unfolding misnames
  misnames_start = refl

  misnames_more : (rank : ℕ) → misnames m basis (suc rank) ≡ (misnames m basis rank || misnames_at rank)
  unfolding misnames
  misnames_more rank = refl

  pub misnames_step : (j : ℕ) → misnames m basis (j + 1) ≡ (misnames m basis j || misnames_at j)
  misnames_step j = ap (misnames m basis) (add-one j) ∙ misnames_more j

  pub names_each : (rank : ℕ) → misnames m basis rank ≡ false → (j : ℕ) → j < rank → get_or basis j 0 < m
  names_each rank none j h = leb-false m _ (any_each (misnames m basis) misnames_at misnames_start misnames_more rank none j h)

  pub names_none : (rank : ℕ) → ((j : ℕ) → j < rank → get_or basis j 0 < m) → misnames m basis rank ≡ false
  names_none rank each = any_none (misnames m basis) misnames_at misnames_start misnames_more rank (λ j h. lt-leb m _ (each j h))

  -- of a basis that has the entries all are asked
  pub misnames_all : (rank : ℕ) → rank ≤ length basis → misnames m basis (min rank (length basis)) ≡ misnames m basis rank
  misnames_all rank h = let e : min rank (length basis) ≡ rank = omega arith in ap (misnames m basis) e
