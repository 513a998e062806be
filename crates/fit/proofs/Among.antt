-- Whether one of the first m has what is looked for, asked one after another: `any` of m is that of those before, or the last one's.
use Prim.Native.Nat.{ℕ, zero, suc, ◌<◌}
use mathlib.Core.Path.{◌≡◌, refl, sym, ap, ap₂, ◌∙◌}
use mathlib.Core.Bool.{Bool, true, false, ◌||◌, true≢false}
use native.Mathlib.Omega.{arith}
use borrow.Author.Tests.{eqb-true, eqb-false}
use lib.Arith.{lt_of_le-ne}
use lib.Dec.{eqb}
use Rattle.std.proofs.lemmas.Bool.{or_right}

abbrev pub among : (ℕ → Bool) → ℕ → Bool
among one zero = false
among one (suc m) = among one m || one m

pub among_same : (f g : ℕ → Bool) (m : ℕ) → ((r : ℕ) → r < m → f r ≡ g r) → among f m ≡ among g m
among_same f g zero each = refl
among_same f g (suc m) each = ap₂ ◌||◌ (among_same f g m (λ r h. each r (omega arith))) (each m (omega arith))

-- one of two things
pub among_either : (f g : ℕ → Bool) (m : ℕ) → among (λ (r : ℕ). f r || g r) m ≡ (among f m || among g m)
among_either f g zero = refl
among_either f g (suc m) = ap (λ (t : Bool). t || (f m || g m)) (among_either f g m) ∙ cross (among f m) (among g m) (f m) (g m)
  where
    cross : (a b p q : Bool) → ((a || b) || (p || q)) ≡ ((a || p) || (b || q))
    cross true b p q = refl
    cross false true true q = refl
    cross false true false q = refl
    cross false false p q = refl

module _ (any one : ℕ → Bool) (start : any 0 ≡ false) (more : (m : ℕ) → any (suc m) ≡ (any m || one m)) where
  pub any_found : (m r : ℕ) → r < m → one r ≡ true → any m ≡ true
  any_found zero r h this = let z : ⊥ = omega arith in absurd z
  any_found (suc m) r h this = more m ∙ go (eqb r m) refl (λ l. any_found m r l this)
    where
      go : (t : Bool) → eqb r m ≡ t → (r < m → any m ≡ true) → (any m || one m) ≡ true
      go true e earlier = or_right (any m) (one m) (ap one (sym (eqb-true r m e)) ∙ this)
      go false e earlier = ap (λ (t : Bool). t || one m) (earlier (lt_of_le-ne (omega arith) (eqb-false r m e)))

  pub any_each : (m : ℕ) → any m ≡ false → (r : ℕ) → r < m → one r ≡ false
  any_each m none r h = go (one r) refl
    where
      go : (t : Bool) → one r ≡ t → t ≡ false
      go true e = absurd (true≢false (sym (any_found m r h e) ∙ none))
      go false e = refl

  pub any_none : (m : ℕ) → ((r : ℕ) → r < m → one r ≡ false) → any m ≡ false
  any_none zero each = start
  any_none (suc m) each = more m ∙ ap₂ ◌||◌ (any_none m (λ r l. each r (omega arith))) (each m (omega arith))

  pub any_among : (m : ℕ) → any m ≡ among one m
  any_among zero = start
  any_among (suc m) = more m ∙ ap (λ (t : Bool). t || one m) (any_among m)
