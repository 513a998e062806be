-- A set's atoms below a number, word by word, at any width of a word.
use Prim.Native.Nat.{ℕ, zero, suc, ◌+◌, ◌-◌, ◌*◌, ◌/◌, ◌%◌, ◌^◌, ◌<◌}
use mathlib.Core.Path.{◌≡◌, refl, sym, ap, ap₂, ◌∙◌}
use mathlib.Core.List.{List, [], ◌∷◌}
use mathlib.Core.Bool.{Bool, true, false}
use native.Mathlib.Nat.{mod-eq_of_lt, mod-le, suc-mul, mod-one, zero-mul, lt_of_lt_of_le, lt_of_le_of_lt}
use native.Mathlib.Numerals.{add-one}
use native.Mathlib.Omega.{arith}
use borrow.Author.Tests.{leb-true, leb-false}
use lib.ListN.{length, get_or, set}
use lib.Dec.{leb}
use lib.Pow.{pow_mono, high, low, mod-pow-add, mod-mod-pow}
use Rattle.words.specs.Set.{packed}
use Rattle.rows.specs.Flat.{unpack}

-- the first i words without their atoms from r on
abbrev pub kept_to : ℕ → ℕ → ℕ → List ℕ → List ℕ
kept_to k zero r ws = ws
kept_to k (suc i) r [] = []
kept_to k (suc i) r (w ∷ ws) = w % 2 ^ r ∷ kept_to k i (r - k) ws

kept_suc : (k : ℕ) (ws : List ℕ) (i r : ℕ) → i < length ws
    → set (kept_to k i r ws) i (get_or (kept_to k i r ws) i 0 % 2 ^ (r - i * k)) ≡ kept_to k (suc i) r ws
kept_suc k [] i r h = let z : ⊥ = omega arith in absurd z
kept_suc k (w ∷ ws) zero r h =
    let e : r - 0 * k ≡ r = omega (arith, zero-mul k) in
    ap (λ (n : ℕ). w % 2 ^ n ∷ ws) e
kept_suc k (w ∷ ws) (suc i) r h =
    let e : r - suc i * k ≡ r - k - i * k = omega (arith, suc-mul i k) in
    let rest = kept_to k i (r - k) ws in
    ap (λ (n : ℕ). w % 2 ^ r ∷ set rest i (get_or rest i 0 % 2 ^ n)) e ∙ ap (◌∷◌ (w % 2 ^ r)) (kept_suc k ws i (r - k) (omega arith))

pub kept_next : (k : ℕ) (ws : List ℕ) (i r : ℕ) → i < length ws
    → set (kept_to k i r ws) i (get_or (kept_to k i r ws) i 0 % 2 ^ (r - i * k)) ≡ kept_to k (i + 1) r ws
kept_next k ws i r h = kept_suc k ws i r h ∙ ap (λ (n : ℕ). kept_to k n r ws) (sym (add-one i))

-- a word below others
below_word : (k p w r : ℕ) → w < 2 ^ k → (p * 2 ^ k + w) % 2 ^ r ≡ p % 2 ^ (r - k) * 2 ^ k + w % 2 ^ r
below_word k p w r h = go (leb r k) refl
  where
    go : (b : Bool) → leb r k ≡ b → (p * 2 ^ k + w) % 2 ^ r ≡ p % 2 ^ (r - k) * 2 ^ k + w % 2 ^ r
    go true e =
        let le = leb-true r k e in
        let up : k - r + r ≡ k = omega arith in
        let none : r - k ≡ 0 = omega arith in
        let above : p % 2 ^ (r - k) * 2 ^ k ≡ 0 = ap (λ (n : ℕ). p % 2 ^ n * 2 ^ k) none ∙ ap (λ (n : ℕ). n * 2 ^ k) (mod-one p) ∙ zero-mul (2 ^ k) in
        let word = sym (mod-mod-pow (p * 2 ^ k + w) (k - r) r) ∙ ap (λ (n : ℕ). (p * 2 ^ k + w) % 2 ^ n % 2 ^ r) up ∙ ap (λ (n : ℕ). n % 2 ^ r) (low p k h) in
        omega (arith, word, above)
    go false e =
        let lt = leb-false r k e in
        let up : r ≡ r - k + k = omega arith in
        let fits : w < 2 ^ r = lt_of_lt_of_le h (pow_mono (omega arith)) in
        ap (λ (n : ℕ). (p * 2 ^ k + w) % 2 ^ n) up ∙ mod-pow-add (p * 2 ^ k + w) (r - k) k
        ∙ ap₂ (λ (a b : ℕ). a % 2 ^ (r - k) * 2 ^ k + b) (high p k h) (low p k h ∙ sym (mod-eq_of_lt fits))

pub kept_all : (k : ℕ) (ws : List ℕ) (r : ℕ) → ((i : ℕ) → get_or ws i 0 < 2 ^ k) → kept_to k (length ws) r ws ≡ unpack k (length ws) (packed k ws % 2 ^ r)
unfolding packed unpack
kept_all k [] r fits = refl
kept_all k (w ∷ ws) r fits =
    let p = packed k ws in
    let x : packed k (w ∷ ws) % 2 ^ r ≡ p % 2 ^ (r - k) * 2 ^ k + w % 2 ^ r =
    ap (λ (n : ℕ). (p * 2 ^ k + n) % 2 ^ r) (mod-eq_of_lt (fits 0)) ∙ below_word k p w r (fits 0) in
    let word : w % 2 ^ r < 2 ^ k = lt_of_le_of_lt (mod-le w (2 ^ r)) (fits 0) in
    ap₂ ◌∷◌ (sym (ap (λ (n : ℕ). n % 2 ^ k) x ∙ low (p % 2 ^ (r - k)) k word))
    (kept_all k ws (r - k) (λ i. fits (suc i)) ∙ ap (unpack k (length ws)) (sym (ap (λ (n : ℕ). n / 2 ^ k) x ∙ high (p % 2 ^ (r - k)) k word)))
