-- A list of c numbers: its length, its first number before a turn, and its last one after it.
use Prim.Native.Nat.{ℕ, zero, suc, ◌+◌, ◌-◌, ◌<◌}
use mathlib.Core.Path.{◌≡◌, refl, sym, ap, ap₂, ◌∙◌}
use mathlib.Core.List.{List, [], ◌∷◌, ◌++◌}
use native.Mathlib.Nat.{zero-add, add-zero, add-suc, suc-add}
use native.Mathlib.Numerals.{add-one}
use native.Mathlib.Omega.{arith}
use lib.ListN.{length, set, take}
use lib.Seq.{take-suc-set}
use Rattle.format.specs.Bytes.{list_from}

module _ {A : Type 0} (number : ℕ → A) where
  pub list_length : (i c : ℕ) → length (list_from number i c) ≡ c
  unfolding list_from
  list_length i zero = refl
  list_length i (suc c) = ap suc (list_length (suc i) c)

  pub list_next : (i c : ℕ) → i < c → list_from number i (c - i) ≡ number i ∷ list_from number (i + 1) (c - (i + 1))
  unfolding list_from
  list_next i c h =
      let more : c - i ≡ suc (c - (i + 1)) = omega arith in
      ap (list_from number i) more ∙ ap (λ (j : ℕ). number i ∷ list_from number j (c - (i + 1))) (sym (add-one i))

  list_last : (i c : ℕ) → list_from number i (suc c) ≡ list_from number i c ++ (number (i + c) ∷ [])
  unfolding list_from
  list_last i zero = ap (λ (j : ℕ). number j ∷ []) (sym (add-zero i))
  list_last i (suc c) =
      ap (λ (l : List A). number i ∷ l) (list_last (suc i) c ∙ ap (λ (j : ℕ). list_from number (suc i) c ++ (number j ∷ [])) (suc-add i c ∙ sym (add-suc i c)))

  -- lent places filled one after another: the first i hold the list
  pub fill_next : (l : List A) (i : ℕ) (v : A) → i < length l → take i l ≡ list_from number 0 i → v ≡ number i
      → take (i + 1) (set l i v) ≡ list_from number 0 (i + 1)
  fill_next l i v h e is =
      ap (λ (j : ℕ). take j (set l i v)) (add-one i) ∙ take-suc-set l i v h ∙ ap₂ (λ (t : List A) (x : A). t ++ (x ∷ [])) e (is ∙ ap number (sym (zero-add i)))
      ∙ sym (ap (list_from number 0) (add-one i) ∙ list_last 0 i)
