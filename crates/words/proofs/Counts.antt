-- Counts of atoms, and their parity.
use Prim.Native.Nat.{ℕ, suc, ◌+◌, ◌*◌, ◌/◌, ◌%◌, ◌^◌, ◌≤◌, ◌<◌, min}
use mathlib.Core.Path.{◌≡◌, refl, ap, ap₂, ◌∙◌}
use mathlib.Core.List.{List, [], ◌∷◌}
use native.Mathlib.Nat.{mod-lt, mod-eq_of_lt, lt_of_le_of_lt, suc-mul}
use native.Mathlib.Omega.{arith}
use lib.Arith.{bin_ind}
use lib.Bits.{bit_and, bit_xor, differ, and_step, xor_step, and_le_l}
use lib.Count.{ones, ones_step, ones_cat, ones-le}
use lib.Pow.{pow_pos}
use lib.ListN.{length, get_or, drop}
use Rattle.std.proofs.lemmas.List.Sums.{sum_by-cons}
use Rattle.std.specs.List.{zip, sum_by}
use Rattle.words.specs.Set.{packed}
use Rattle.words.proofs.Bitwise.{by_and, join_words, two}
use Rattle.words.proofs.Packed.{left_cons, left_none}

pub ones_xor : (a b : ℕ) → ones (bit_xor a b) + ones (bit_and a b) * 2 ≡ ones a + ones b
unfolding ones
ones_xor =
    bin_ind (λ (n : ℕ). (b : ℕ) → ones (bit_xor n b) + ones (bit_and n b) * 2 ≡ ones n + ones b) (λ b. omega arith)
    (λ n ih b.
    let x : ones (bit_xor n b) ≡ ones (bit_xor (n / 2) (b / 2)) + ones (differ (n % 2) (b % 2)) =
    ap ones (xor_step n b) ∙ ones_cat 1 (bit_xor (n / 2) (b / 2)) (differ (n % 2) (b % 2)) (two (λ (p q : ℕ). differ p q < 2) (omega arith) (omega arith) (omega arith) (omega arith) n b) in
    let y : ones (bit_and n b) ≡ ones (bit_and (n / 2) (b / 2)) + ones (min (n % 2) (b % 2)) =
    ap ones (and_step n b) ∙ ones_cat 1 (bit_and (n / 2) (b / 2)) (min (n % 2) (b % 2)) (two (λ (p q : ℕ). min p q < 2) (omega arith) (omega arith) (omega arith) (omega arith) n b) in
    let d : ones (differ (n % 2) (b % 2)) + ones (min (n % 2) (b % 2)) * 2 ≡ n % 2 + b % 2 = two (λ (p q : ℕ). ones (differ p q) + ones (min p q) * 2 ≡ p + q) refl refl refl refl n b in
    omega (arith, ih (b / 2), ones_step n, ones_step b))

-- one word more on either side
share_more : (k a b x y : ℕ) → x < 2 ^ k → ones (bit_and (a * 2 ^ k + x % 2 ^ k) (b * 2 ^ k + y % 2 ^ k)) ≡ ones (bit_and a b) + ones (bit_and x y)
share_more k a b x y lt =
    ap ones (join_words by_and k a b x y) ∙ ones_cat k (bit_and a b) (bit_and x y % 2 ^ k) (mod-lt (bit_and x y) (pow_pos k))
    ∙ ap (λ (n : ℕ). ones (bit_and a b) + ones n) (mod-eq_of_lt (lt_of_le_of_lt (and_le_l x y) lt))

-- what two lists share from place i on: the words there, and the rest
pub shared_cons : (k : ℕ) (l r : List ℕ) (i : ℕ) → i < length l → i < length r → get_or l i 0 < 2 ^ k
    → ones (bit_and (packed k (drop i l)) (packed k (drop i r)))
    ≡ ones (bit_and (packed k (drop (i + 1) l)) (packed k (drop (i + 1) r))) + ones (bit_and (get_or l i 0) (get_or r i 0))
shared_cons k l r i hl hr lt =
    ap ones (ap₂ bit_and (left_cons k l i hl) (left_cons k r i hr)) ∙ share_more k (packed k (drop (i + 1) l)) (packed k (drop (i + 1) r)) (get_or l i 0) (get_or r i 0) lt

-- ... and past the end nothing
pub shared_none : (k : ℕ) (l r : List ℕ) (i : ℕ) → length l ≤ i → ones (bit_and (packed k (drop i l)) (packed k (drop i r))) ≡ 0
unfolding ones
shared_none k l r i h = ap (λ (n : ℕ). ones (bit_and n (packed k (drop i r)))) (left_none k l i h)

-- how many atoms two words share
abbrev pub shared : ℕ × ℕ → ℕ
shared p = ones (bit_and p.0 p.1)

pub sum_shared : (k : ℕ) (l r : List ℕ) → length l ≡ length r → ((i : ℕ) → get_or l i 0 < 2 ^ k)
    → (sum_by shared (zip l r) ≡ ones (bit_and (packed k l) (packed k r))) × (sum_by shared (zip l r) ≤ length l * k)
unfolding packed ones
sum_shared k [] [] h fits = (refl, omega arith)
sum_shared k [] (y ∷ r) h fits = let z : ⊥ = omega arith in absurd z
sum_shared k (x ∷ l) [] h fits = let z : ⊥ = omega arith in absurd z
sum_shared k (x ∷ l) (y ∷ r) h fits =
    let rest = sum_shared k l r (omega arith) (λ i. fits (suc i)) in
    let few : ones (bit_and x y) ≤ k = ones-le k (bit_and x y) (lt_of_le_of_lt (and_le_l x y) (fits 0)) in
    let sum : sum_by shared (zip (x ∷ l) (y ∷ r)) ≡ ones (bit_and x y) + sum_by shared (zip l r) = sum_by-cons shared (x, y) (zip l r) in
    let all : ones (bit_and (packed k (x ∷ l)) (packed k (y ∷ r))) ≡ ones (bit_and (packed k l) (packed k r)) + ones (bit_and x y) = share_more k (packed k l) (packed k r) x y (fits 0) in
    (omega (arith, rest.0), omega (arith, rest.1, suc-mul (length l) k))

-- the sum of the words that two sets share before place i, with what they share from there on, has the parity of all that they share
abbrev pub Parity : ℕ → List ℕ → List ℕ → ℕ → Type 0
Parity sum l r i = (ones sum + ones (bit_and (packed 64 (drop i l)) (packed 64 (drop i r)))) % 2 ≡ ones (bit_and (packed 64 l) (packed 64 r)) % 2

pub parity_start : (l r : List ℕ) → Parity 0 l r 0
unfolding ones
parity_start l r = omega arith

pub parity_next : (sum : ℕ) (l r : List ℕ) (i : ℕ) → i < length l → i < length r → get_or l i 0 < 2 ^ 64 → Parity sum l r i
    → Parity (bit_xor sum (bit_and (get_or l i 0) (get_or r i 0))) l r (i + 1)
parity_next sum l r i hl hr lt p = omega (arith, p, shared_cons 64 l r i hl hr lt, ones_xor sum (bit_and (get_or l i 0) (get_or r i 0)))

pub parity_end : (sum : ℕ) (l r : List ℕ) (i : ℕ) → length l ≤ i → Parity sum l r i → ones sum % 2 ≡ ones (bit_and (packed 64 l) (packed 64 r)) % 2
parity_end sum l r i h p = omega (arith, p, shared_none 64 l r i h)
