-- A set with the atoms of a column joined to it, word by word as far as both go.
use Prim.Native.Nat.{ℕ, zero, suc, ◌/◌, ◌%◌, ◌≤◌, ◌<◌}
use mathlib.Core.Path.{◌≡◌, refl, sym, ap, ap₂, ◌∙◌}
use mathlib.Core.List.{List, [], ◌∷◌, ◌++◌}
use mathlib.Core.Bool.{◌||◌}
use native.Mathlib.Omega.{arith}
use lib.ListN.{length, get_or, take, drop, get_or-eq_default}
use lib.Bits.{bit_or, or_zero_r}
use lib.Seq.{length-take-le}
use Rattle.words.specs.Set.{set_of, has}
use Rattle.words.specs.Calls.{merged}
use Rattle.words.proofs.Merged.{up_to, up_to_part, up_to_all, merged_all}
use Rattle.words.proofs.Meaning.{atom_is_bit, has_or}

-- one word, where the shorter list is used up
joined_word : (op : ℕ → ℕ → ℕ) → ((a : ℕ) → op a 0 ≡ a) → (l r : List ℕ) (i q : ℕ) → i ≤ length r → q < length l → (i ≤ q → length r ≤ q)
    → get_or (up_to op i l r) q 0 ≡ op (get_or l q 0) (get_or r q 0)
joined_word op unit [] r i q hr hq past = let z : ⊥ = omega arith in absurd z
joined_word op unit (x ∷ l) r zero q hr hq past = sym (ap (op (get_or (x ∷ l) q 0)) (get_or-eq_default r 0 (past (omega arith))) ∙ unit _)
joined_word op unit (x ∷ l) [] (suc i) q hr hq past = let z : ⊥ = omega arith in absurd z
joined_word op unit (x ∷ l) (y ∷ r) (suc i) zero hr hq past = refl
joined_word op unit (x ∷ l) (y ∷ r) (suc i) (suc q) hr hq past =
    joined_word op unit l r i q (omega arith) (omega arith) (λ h. let p : suc (length r) ≤ suc q = past (omega arith) in omega arith)

pub joined_has : (l r : List ℕ) (i a : ℕ) → i ≤ length r → a / 64 < length l → (i ≤ a / 64 → length r ≤ a / 64)
    → has (set_of (up_to bit_or i l r)) a ≡ (has (set_of l) a || has (set_of r) a)
joined_has l r i a hr ha past =
    atom_is_bit (up_to bit_or i l r) a ∙ ap (λ (w : ℕ). has w (a % 64)) (joined_word bit_or or_zero_r l r i (a / 64) hr ha past)
    ∙ has_or (get_or l (a / 64) 0) (get_or r (a / 64) 0) (a % 64) ∙ sym (ap₂ ◌||◌ (atom_is_bit l a) (atom_is_bit r a))

-- the first words joined, and the rest after them
pub joined_part : (l r : List ℕ) (n : ℕ) → n ≤ length l → n ≤ length r → (l' : List ℕ) → l' ≡ merged bit_or (take n l) (take n r) → l' ++ drop n l ≡ up_to bit_or n l r
joined_part l r n hl hr l' is =
    let same : length (take n l) ≡ length (take n r) = length-take-le n l hl ∙ sym (length-take-le n r hr) in
    let whole = sym (merged_all bit_or (take n l) (take n r) same (length (take n l)) _ refl refl) ∙ up_to_all bit_or (take n l) (take n r) same in
    ap (λ (m : List ℕ). m ++ drop n l) (is ∙ whole) ∙ sym (up_to_part bit_or n l r hl hr)
