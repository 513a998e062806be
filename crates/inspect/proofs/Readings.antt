-- What a fit row says, by what it has in common with the sets of held and of open atoms.
use Prim.Native.Nat.{ℕ, zero, suc, ◌/◌, ◌≤◌, ◌<◌}
use mathlib.Core.Path.{◌≡◌, refl, sym, ap, ap₂, ◌∙◌}
use mathlib.Core.List.{List, ◌∷◌, zip_with}
use mathlib.Core.Bool.{Bool, true, false, cond, not, xor, ◌&&◌, beq}
use native.Mathlib.Nat.{lt_of_le_of_lt}
use native.Mathlib.Omega.{arith}
use borrow.Author.Tests.{eqb-true, eqb-false}
use lib.ListN.{get_or}
use lib.Bits.{bit_and, and_mod, and_shr, and_le_l}
use lib.Count.{ones}
use lib.Dec.{eqb}
use Rattle.words.specs.Set.{set_of, odd, low}
use Rattle.words.proofs.Bitwise.{two}
use Rattle.rows.specs.Row.{overlap}
use Rattle.rows.specs.Flat.{width_of, row, atoms_of, row_at}
use Rattle.rows.proofs.Digits.{atoms_overlap}
use Rattle.echelon.specs.Forward as forward
use Rattle.std.proofs.lemmas.Nat.{zero_from_ones}
use Rattle.parity.proofs.Unit.{low_atoms}
use Rattle.std.specs.Prelude.{Option, Some, None, Ok, Err}
use Rattle.inspect.specs.Consequences.{Reading, says_by, reading_of, wrong}
use Rattle.parity.specs.Named.{Legible}

pub atoms_and : (n a b : ℕ) → zip_with ◌&&◌ (atoms_of n a) (atoms_of n b) ≡ atoms_of n (bit_and a b)
unfolding atoms_of zip_with
atoms_and zero a b = refl
atoms_and (suc n) a b =
    ap₂ ◌∷◌
    (sym (ap (λ (d : ℕ). eqb d 1) (and_mod a b 1) ∙ two (λ p q. eqb (bit_and p q) 1 ≡ (eqb p 1 && eqb q 1)) refl refl refl refl a b))
    (atoms_and n (a / 2) (b / 2) ∙ ap (atoms_of n) (sym (and_shr a b 1)))

many : (k : ℕ) (p c : Bool) (a : ℕ) → 1 < k → Ok None ≡ says_by k p c a
many zero p c a h = let z : ⊥ = omega arith in absurd z
many (suc zero) p c a h = let z : ⊥ = omega arith in absurd z
many (suc (suc k)) p c a h = refl

-- what a row says by the lowest of its open atoms, which are one or none
abbrev pub by_lowest : Bool → Bool → Option ℕ → Reading
by_lowest p c None = cond (beq p c) (Ok None) (Err wrong)
by_lowest p c (Some a) = Ok (Some (record { atom = record { 0 = a }; value = not (beq c p) }))

no_ones : ones 0 ≡ 0
unfolding ones
no_ones = refl

-- a set that is not empty has an atom
single_most : (x : ℕ) → 0 < x → 1 ≤ ones x
single_most x some = go (ones x) refl
  where
    go : (k : ℕ) → ones x ≡ k → 1 ≤ ones x
    go zero e = let none = zero_from_ones x e in let z : ⊥ = omega arith in absurd z
    go (suc k) e = omega arith

module _ (n : ℕ) (ws cs : List ℕ) (s held free : ℕ) (fit : Legible n ws cs s) where
  abbrev own : ℕ
  own = set_of (row (width_of n) ws s)

  abbrev says : Reading
  says = reading_of (atoms_of n held) (atoms_of n free) (row_at n (width_of n) ws cs s)

  said : says_by (ones (bit_and own free)) (odd (ones (bit_and own held))) (eqb (get_or cs s 0) 1) (forward.low (atoms_of n (bit_and own free))) ≡ says
  unfolding reading_of row_at
  said =
      ap (λ (k : ℕ). says_by (ones (bit_and own free)) (odd k) (eqb (get_or cs s 0) 1) (forward.low (atoms_of n (bit_and own free)))) (sym (atoms_overlap n own held fit.below))
      ∙ ap₂ (λ (k : ℕ) (l : List Bool). says_by k (odd (overlap (atoms_of n own) (atoms_of n held))) (eqb (get_or cs s 0) 1) (forward.low l))
      (sym (atoms_overlap n own free fit.below)) (sym (atoms_and n own free))

  -- with several open atoms
  pub says_quiet : 1 < ones (bit_and own free) → Ok None ≡ says
  says_quiet h = many (ones (bit_and own free)) _ _ _ h ∙ said

  module _ (p : Bool) (parity : p ≡ odd (ones (bit_and own held))) where
    -- with one
    says_forces : ones (bit_and own free) ≤ 1 → 0 < bit_and own free
        → by_lowest p (eqb (get_or cs s 0) 1) (Some (low (bit_and own free))) ≡ says
    unfolding xor
    says_forces few some =
        let one : ones (bit_and own free) ≡ 1 = omega (arith, single_most (bit_and own free) some) in
        let below = lt_of_le_of_lt (and_le_l own free) fit.below in
        ap₂ (λ (b : ℕ) (q : Bool). by_lowest q (eqb (get_or cs s 0) 1) (Some b)) (sym (low_atoms n (bit_and own free) some below)) parity
        ∙ ap (λ (k : ℕ). says_by k (odd (ones (bit_and own held))) (eqb (get_or cs s 0) 1) (forward.low (atoms_of n (bit_and own free)))) (sym one) ∙ said

    -- with none
    says_whether : bit_and own free ≡ 0 → by_lowest p (eqb (get_or cs s 0) 1) None ≡ says
    says_whether none =
        let zero-ones : ones (bit_and own free) ≡ 0 = ap ones none ∙ no_ones in
        ap (λ (q : Bool). by_lowest q (eqb (get_or cs s 0) 1) None) parity
        ∙ ap (λ (k : ℕ). says_by k (odd (ones (bit_and own held))) (eqb (get_or cs s 0) 1) (forward.low (atoms_of n (bit_and own free)))) (sym zero-ones) ∙ said

    -- by the lowest open atom, where there is at most one
    pub said_lowest : ones (bit_and own free) ≤ 1 → (a : Option ℕ) → a ≡ cond (eqb (bit_and own free) 0) None (Some (low (bit_and own free)))
        → by_lowest p (eqb (get_or cs s 0) 1) a ≡ says
    said_lowest few a is = rw is (go (eqb (bit_and own free) 0) refl)
      where
        go : (t : Bool) → eqb (bit_and own free) 0 ≡ t → by_lowest p (eqb (get_or cs s 0) 1) (cond t None (Some (low (bit_and own free)))) ≡ says
        go true e = says_whether (eqb-true (bit_and own free) 0 e)
        go false e = let unempty = eqb-false (bit_and own free) 0 e in says_forces few (omega arith)
