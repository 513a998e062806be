-- Row number s of rows that stand last first: the last one, and those before it.
use Prim.Native.Nat.{ℕ, ◌<◌}
use mathlib.Core.Path.{◌≡◌, refl, sym, ap, subst}
use mathlib.Core.Logic.{⊎_elim}
use mathlib.Core.List.{List, [], ◌∷◌}
use mathlib.Core.Bool.{Bool, cond}
use native.Mathlib.Nat.{le_of_suc-le-suc, eq-or-lt_of_le}
use native.Mathlib.Omega.{arith}
use borrow.Author.Tests.{eq-eqb, ne_eqb}
use lib.ListN.{length}
use Rattle.rows.specs.Row.{Row}
use Rattle.echelon.specs.Promises.{numbered}
use Rattle.echelon.proofs.Reducing.{Each}

pub numbered_last : (r : Row) (rs : List Row) → numbered (r ∷ rs) (length rs) ≡ r
numbered_last r rs = ap (λ (b : Bool). cond b r (numbered rs (length rs))) (eq-eqb (length rs) (length rs) refl)

pub numbered_before : (r : Row) (rs : List Row) (s : ℕ) → s < length rs → numbered (r ∷ rs) s ≡ numbered rs s
numbered_before r rs s h = ap (λ (b : Bool). cond b r (numbered rs s)) (ne_eqb s (length rs) (λ e. omega arith))

-- What holds of the last one and of those before it holds of each.
pub numbered_each : (P : ℕ → Row → Type 0) (r : Row) (rs : List Row) → P (length rs) r → ((s : ℕ) → s < length rs → P s (numbered rs s))
    → (s : ℕ) → s < length (r ∷ rs) → P s (numbered (r ∷ rs) s)
numbered_each P r rs own older s h =
    ⊎_elim
    (λ e. subst (λ (t : ℕ). P t (numbered (r ∷ rs) t)) (sym e) (subst (P (length rs)) (sym (numbered_last r rs)) own))
    (λ l. subst (P s) (sym (numbered_before r rs s l)) (older s l))
    (eq-or-lt_of_le (le_of_suc-le-suc h))

pub each_numbered : (P : Row → Type 0) (rs : List Row) → Each P rs → (s : ℕ) → s < length rs → P (numbered rs s)
each_numbered P [] h s l = let z : ⊥ = omega arith in absurd z
each_numbered P (r ∷ rs) h s l = numbered_each (λ _ q. P q) r rs h.0 (each_numbered P rs h.1) s l
