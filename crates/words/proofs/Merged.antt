-- Two lists joined word by word: the turns of `merge`.
use Prim.Native.Nat.{ℕ, zero, suc, ◌+◌, ◌≤◌, ◌<◌}
use mathlib.Core.Path.{◌≡◌, refl, sym, ap, ap₂, ◌∙◌}
use mathlib.Core.List.{List, [], ◌∷◌, ◌++◌, zip_with, append-nil}
use mathlib.Core.Bool.{Bool, cond}
use native.Mathlib.Nat.{le_refl, le_of_eq}
use native.Mathlib.Numerals.{add-one}
use native.Mathlib.Omega.{arith}
use borrow.Author.Tests.{eq-eqb}
use lib.ListN.{length, get_or, take, drop, set}
use lib.Seq.{take-length, take_all, drop-length}
use Rattle.words.specs.Calls.{merged}

-- the first i entries joined with another list's
abbrev pub up_to : (ℕ → ℕ → ℕ) → ℕ → List ℕ → List ℕ → List ℕ
up_to op zero l r = l
up_to op (suc i) [] r = []
up_to op (suc i) (x ∷ l) [] = x ∷ l
up_to op (suc i) (x ∷ l) (y ∷ r) = op x y ∷ up_to op i l r

up_to_suc : (op : ℕ → ℕ → ℕ) (l r : List ℕ) (i : ℕ) → i < length l → i < length r
    → set (up_to op i l r) i (op (get_or (up_to op i l r) i 0) (get_or r i 0)) ≡ up_to op (suc i) l r
up_to_suc op [] r i hl hr = let z : ⊥ = omega arith in absurd z
up_to_suc op (x ∷ l) [] i hl hr = let z : ⊥ = omega arith in absurd z
up_to_suc op (x ∷ l) (y ∷ r) zero hl hr = refl
up_to_suc op (x ∷ l) (y ∷ r) (suc i) hl hr = ap (λ (m : List ℕ). op x y ∷ m) (up_to_suc op l r i (omega arith) (omega arith))

pub up_to_next : (op : ℕ → ℕ → ℕ) (l r : List ℕ) (i : ℕ) → i < length l → i < length r
    → set (up_to op i l r) i (op (get_or (up_to op i l r) i 0) (get_or r i 0)) ≡ up_to op (i + 1) l r
up_to_next op l r i hl hr = up_to_suc op l r i hl hr ∙ ap (λ (n : ℕ). up_to op n l r) (sym (add-one i))

pub up_to_part : (op : ℕ → ℕ → ℕ) (n : ℕ) (l r : List ℕ) → n ≤ length l → n ≤ length r → up_to op n l r ≡ zip_with op (take n l) (take n r) ++ drop n l
unfolding zip_with
up_to_part op zero l r hl hr = refl
up_to_part op (suc n) [] r hl hr = let z : ⊥ = omega arith in absurd z
up_to_part op (suc n) (x ∷ l) [] hl hr = let z : ⊥ = omega arith in absurd z
up_to_part op (suc n) (x ∷ l) (y ∷ r) hl hr = ap (λ (m : List ℕ). op x y ∷ m) (up_to_part op n l r (omega arith) (omega arith))

pub up_to_all : (op : ℕ → ℕ → ℕ) (l r : List ℕ) → length l ≡ length r → up_to op (length l) l r ≡ zip_with op l r
up_to_all op l r h =
    up_to_part op (length l) l r (le_refl (length l)) (le_of_eq h)
    ∙ ap₂ (λ (a b : List ℕ). zip_with op a b ++ drop (length l) l) (take-length l) (take_all (length l) r (le_of_eq (sym h)))
    ∙ ap (λ (m : List ℕ). zip_with op l r ++ m) (drop-length l) ∙ append-nil (zip_with op l r)

module _ (op : ℕ → ℕ → ℕ) (l r : List ℕ) (same : length l ≡ length r) (i : ℕ) where
  -- one word more
  pub merged_more : (l' : List ℕ) (v : ℕ) → i < length l → l' ≡ up_to op i l r → v ≡ op (get_or l' i 0) (get_or r i 0) → set l' i v ≡ up_to op (i + 1) l r
  merged_more l' v h words e =
      ap (set l' i) e ∙ ap (λ (w : List ℕ). set w i (op (get_or w i 0) (get_or r i 0))) words ∙ up_to_next op l r i h (omega arith)

  -- and at the end
  pub merged_all : (l' : List ℕ) → i ≡ length l → l' ≡ up_to op i l r → l' ≡ merged op l r
  unfolding merged
  merged_all l' done words =
      words ∙ ap (λ (n : ℕ). up_to op n l r) done ∙ up_to_all op l r same
      ∙ sym (ap (λ (t : Bool). cond t (zip_with op l r) l) (eq-eqb (length l) (length r) same))
