-- What lent rows that no number refuses have: the bounds, no atom from n on, no constant above 1. And checks that join more to these.
use Prim.Native.Nat.{ℕ, suc, ◌*◌, ◌^◌, ◌≤◌, ◌<◌}
use mathlib.Core.Path.{◌≡◌, refl, ap₂}
use mathlib.Core.List.{List, [], ◌∷◌}
use mathlib.Core.Bool.{Bool, true, false, cond, ◌||◌, or-false}
use Rattle.std.specs.Prelude.{Result, Ok, Err}
use native.Mathlib.Omega.{arith}
use borrow.Author.Tests.{leb-false, ltb-false, lt-leb, le-ltb}
use lib.ListN.{length, get_or}
use lib.Dec.{leb, ltb}
use Rattle.words.specs.Set.{set_of}
use Rattle.rows.specs.Flat.{width_of, row}
use Rattle.refusal.specs.Refusal.{checked}
use Rattle.refusal.specs.declared.Refusal.{Refusal}
use Rattle.refusal.specs.declared.Refusal.TheVariants.{Short, Overfull, Stray}
use Rattle.fit.specs.Rows.{overfull, short, strays, rows_check}
use Rattle.std.proofs.lemmas.Bool.{or_parts}
use Rattle.fit.proofs.Among.{any_each, any_none}

pub record Fit (n m : ℕ) (ws cs : List ℕ) : Type 0 where
  pub atoms : n ≤ 512
  pub rows : m ≤ 512
  pub words : m * width_of n ≤ length ws
  pub constants : m ≤ length cs
  pub clean : (r : ℕ) → r < m → set_of (row (width_of n) ws r) < 2 ^ n
  pub small : (r : ℕ) → r < m → get_or cs r 0 < 2

-- ---- one row after another

module _ (n w : ℕ) (ws cs : List ℕ) where
  abbrev pub row_strays : ℕ → Bool
  row_strays r = leb (2 ^ n) (set_of (row w ws r)) || ltb 1 (get_or cs r 0)

  pub strays_start : strays n w ws cs 0 ≡ false
  unfolding strays
  strays_start = refl

  pub strays_more : (m : ℕ) → strays n w ws cs (suc m) ≡ (strays n w ws cs m || row_strays m)
  unfolding strays
  strays_more m = refl

  pub strays_none : (m : ℕ) → ((r : ℕ) → r < m → (set_of (row w ws r) < 2 ^ n) × (get_or cs r 0 < 2)) → strays n w ws cs m ≡ false
  strays_none m clean =
      any_none (strays n w ws cs) row_strays strays_start strays_more m
      (λ r h. ap₂ ◌||◌ (lt-leb (2 ^ n) _ (clean r h).0) (le-ltb 1 (get_or cs r 0) (omega (arith, (clean r h).1))))

  row_clean : (m : ℕ) → strays n w ws cs m ≡ false → (r : ℕ) → r < m → (leb (2 ^ n) (set_of (row w ws r)) ≡ false) × (ltb 1 (get_or cs r 0) ≡ false)
  row_clean m none r h = or_parts _ _ (any_each (strays n w ws cs) row_strays strays_start strays_more m none r h)

pub fit_of : (n m : ℕ) (ws cs : List ℕ) → strays n (width_of n) ws cs m ≡ false → n ≤ 512 → m ≤ 512 → m * width_of n ≤ length ws → m ≤ length cs → Fit n m ws cs
fit_of n m ws cs none atoms rows words constants = record {
  atoms = atoms;
  rows = rows;
  words = words;
  constants = constants;
  clean = λ r h. leb-false (2 ^ n) _ (row_clean n (width_of n) ws cs m none r h).0;
  small = λ r h. omega (arith, ltb-false 1 (get_or cs r 0) (row_clean n (width_of n) ws cs m none r h).1);
}

-- ---- the checks, and `more` that a caller may lend too little of

pub passed : (t : Bool) (e : Refusal) (rest : Result Unit Refusal) → cond t (Err e) rest ≡ Ok tt → (t ≡ false) × (rest ≡ Ok tt)
passed true e rest p = cc
passed false e rest p = (refl, p)

module _ (n m : ℕ) (ws cs : List ℕ) (more : Bool) where
  abbrev pub joined : Result Unit Refusal
  joined = checked ((Overfull, overfull n m) ∷ (Short, short n m ws cs || more) ∷ (Stray, strays n (width_of n) ws cs m) ∷ [])

  pub joined_fit : joined ≡ Ok tt → Fit n m ws cs × (more ≡ false)
  joined_fit e =
      let full = passed (overfull n m) _ _ e in
      let lent = passed (short n m ws cs || more) _ _ full.1 in
      let limits = or_parts (ltb 512 n) (ltb 512 m) full.0 in
      let room = or_parts (short n m ws cs) more lent.0 in
      let each = or_parts (ltb (length ws) (m * width_of n)) (ltb (length cs) m) room.0 in (
        fit_of n m ws cs (passed (strays n (width_of n) ws cs m) _ _ lent.1).0 (ltb-false 512 n limits.0) (ltb-false 512 m limits.1)
            (ltb-false (length ws) (m * width_of n) each.0) (ltb-false (length cs) m each.1),
        room.1,
      )

-- and back: what is fit is not refused, and rows that are fit are joined to nothing
pub fit_joined : (n m : ℕ) (ws cs : List ℕ) (more : Bool) → Fit n m ws cs → more ≡ false → joined n m ws cs more ≡ Ok tt
fit_joined n m ws cs more fit none =
    simp (
      le-ltb 512 n fit.atoms,
      le-ltb 512 m fit.rows,
      le-ltb (length ws) (m * width_of n) fit.words,
      le-ltb (length cs) m fit.constants,
      none,
      strays_none n (width_of n) ws cs m (λ r h. (fit.clean r h, fit.small r h)),
    )

pub joined_none : (n m : ℕ) (ws cs : List ℕ) → rows_check n m ws cs ≡ joined n m ws cs false
unfolding rows_check
joined_none n m ws cs = simp or-false refl
