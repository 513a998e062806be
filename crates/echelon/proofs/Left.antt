-- The rows left, row by row: how many, of which length, and that none has the lowest atom of an older one.
use Prim.Native.Nat.{ℕ, suc, ◌≤◌}
use mathlib.Core.Path.{◌≡◌, refl, sym, ap, ◌∙◌}
use mathlib.Core.List.{List, [], ◌∷◌}
use mathlib.Core.Bool.{Bool, true, false, cond, true≢false}
use mathlib.Core.Option.{none}
use native.Mathlib.Omega.{arith}
use lib.ListN.{length}
use Rattle.rows.specs.Row.{Row}
use Rattle.echelon.specs.Forward.{find, reduced, State, start, next, eliminated}
use Rattle.echelon.specs.Promises.{Sized}
use Rattle.echelon.proofs.Reducing.{Long, each_long, long_add, reduced_keeps, reduction_ends}

-- What holds at the start, stays when a refuted state is kept, and goes on with each row left, holds of every state.
module _ (n : ℕ) (P : List Row → State → Type 0)
    (begins : P [] start)
    (stays : (r : Row) (rs : List Row) (st : State) → st.refuted ≡ true → P rs st → P (r ∷ rs) st)
    (goes : (r : Row) (rs : List Row) (st : State) → st.refuted ≡ false → P rs st → P (r ∷ rs) (next st (reduced n st.rows r))) where
  step : (r : Row) (rs : List Row) (st : State) (t : Bool) → st.refuted ≡ t → P rs st → P (r ∷ rs) (cond t st (next st (reduced n st.rows r)))
  step r rs st true e p = stays r rs st e p
  step r rs st false e p = goes r rs st e p

  pub by_rows : (rs : List Row) → P rs (eliminated n rs)
  unfolding eliminated
  by_rows [] = begins
  by_rows (r ∷ rs) = step r rs (eliminated n rs) (eliminated n rs).refuted refl (by_rows rs)

pub refuted_stays : (n : ℕ) (r : Row) (rs : List Row) → (eliminated n rs).refuted ≡ true → eliminated n (r ∷ rs) ≡ eliminated n rs
unfolding eliminated
refuted_stays n r rs e = let st = eliminated n rs in ap (λ (t : Bool). cond t st (next st (reduced n st.rows r))) e

pub rows_le : (n : ℕ) (rs : List Row) → length (eliminated n rs).rows ≤ length rs
rows_le n =
    by_rows n (λ rs st. length st.rows ≤ length rs) (omega arith) (λ r rs st e h. omega arith) (λ r rs st e h. omega arith)

pub rows_all : (n : ℕ) (rs : List Row) → (eliminated n rs).refuted ≡ false → length (eliminated n rs).rows ≡ length rs
rows_all n =
    by_rows n (λ rs st. st.refuted ≡ false → length st.rows ≡ length rs) (λ e. refl) (λ r rs st e h k. absurd (true≢false (sym e ∙ k)))
    (λ r rs st e h k. ap suc (h e))

-- No pivot among the older ones.
abbrev pub Settled : List Row → Type 0
Settled [] = Unit {0}
Settled (r ∷ rs) = (find r rs ≡ none) × Settled rs

pub left_settled : (n : ℕ) (rs : List Row) → Sized n rs → Sized n (eliminated n rs).rows × Settled (eliminated n rs).rows
left_settled n =
    by_rows n (λ rs st. Sized n rs → Sized n st.rows × Settled st.rows) (λ sized. (tt, tt)) (λ r rs st e h sized. h sized.1)
    (λ r rs st e h sized.
    let so = h sized.1 in (
      (reduced_keeps (Long n) (Long n) (long_add n) st.rows (each_long n st.rows so.0) n r sized.0, so.0),
      (reduction_ends n st.rows r so.0 sized.0, so.1),
    ))

pub left_sized : (n : ℕ) (rs : List Row) → Sized n rs → Sized n (eliminated n rs).rows
left_sized n rs sized = (left_settled n rs sized).0
