-- Words as one number, at any width k of a word.
use Prim.Native.Nat.{ℕ, zero, suc, ◌+◌, ◌-◌, ◌*◌, ◌/◌, ◌%◌, ◌^◌, ◌≤◌, ◌<◌}
use mathlib.Core.Path.{◌≡◌, sym, ap, ap₂, ◌∙◌}
use mathlib.Core.List.{List, [], ◌∷◌, zip_with}
use native.Mathlib.Nat.{mod-lt, zero-mul, suc-mul, mul_assoc, add-zero, mod-eq_of_lt, div-add-mod', zero-div}
use native.Mathlib.Numerals.{add-one}
use native.Mathlib.Omega.{arith}
use lib.ListN.{length, get_or, drop, set, drop_of_length-le}
use lib.Seq.{drop-cons}
use lib.Pow.{pow_pos, pow-add, high, low, shr-shr, field, mod-mod-pow}
use Rattle.words.specs.Set.{packed, digit}
use Rattle.words.proofs.Bitwise.{Bitwise, join_words}

-- ---- what is left of a list from place i on

pub left_cons : (k : ℕ) (ws : List ℕ) (i : ℕ) → i < length ws → packed k (drop i ws) ≡ packed k (drop (i + 1) ws) * 2 ^ k + get_or ws i 0 % 2 ^ k
unfolding packed
left_cons k ws i h = rw (add-one, drop-cons ws i 0)

pub left_none : (k : ℕ) (ws : List ℕ) (i : ℕ) → length ws ≤ i → packed k (drop i ws) ≡ 0
unfolding packed
left_none k ws i h = rw (drop_of_length-le ws h)

-- ---- one word changed

shifted : (k v i : ℕ) → v * 2 ^ (suc i * k) ≡ v * 2 ^ (i * k) * 2 ^ k
shifted k v i = ap (λ (n : ℕ). v * 2 ^ n) (suc-mul i k) ∙ ap (λ (n : ℕ). v * n) (pow-add 2 (i * k) k) ∙ sym (mul_assoc v (2 ^ (i * k)) (2 ^ k))

pub packed_set : {op : ℕ → ℕ → ℕ} → Bitwise op → ((a : ℕ) → op a 0 ≡ a) → (k v : ℕ) → v < 2 ^ k → (ws : List ℕ) (i : ℕ) → i < length ws
    → packed k (set ws i (op (get_or ws i 0) v)) ≡ op (packed k ws) (v * 2 ^ (i * k))
unfolding packed
packed_set bw unit k v hv [] i h = let z : ⊥ = omega arith in absurd z
packed_set {op} bw unit k v hv (w ∷ ws) zero h =
    let e : 0 * 2 ^ k + v % 2 ^ k ≡ v * 2 ^ (0 * k) = omega (arith, mod-eq_of_lt hv, ap (λ (n : ℕ). v * 2 ^ n) (zero-mul k)) in
    ap (λ (n : ℕ). n * 2 ^ k + op w v % 2 ^ k) (sym (unit (packed k ws))) ∙ sym (join_words bw k (packed k ws) 0 w v)
    ∙ ap (op (packed k ws * 2 ^ k + w % 2 ^ k)) e
packed_set {op} bw unit k v hv (w ∷ ws) (suc i) h =
    let lt : i < length ws = omega arith in
    ap₂ (λ (a r : ℕ). a * 2 ^ k + r) (packed_set bw unit k v hv ws i lt) (sym (unit (w % 2 ^ k)))
    ∙ sym (bw.block k (packed k ws) (v * 2 ^ (i * k)) (w % 2 ^ k) 0 (mod-lt w (pow_pos k)) (pow_pos k))
    ∙ ap (op (packed k ws * 2 ^ k + w % 2 ^ k)) (add-zero _ ∙ sym (shifted k v i))

-- ---- two lists word by word

pub packed_zip : {op : ℕ → ℕ → ℕ} → Bitwise op → (k : ℕ) (l r : List ℕ) → length l ≡ length r → packed k (zip_with op l r) ≡ op (packed k l) (packed k r)
unfolding packed zip_with
packed_zip bw k [] [] h = sym bw.none
packed_zip bw k [] (y ∷ r) h = let z : ⊥ = omega arith in absurd z
packed_zip bw k (x ∷ l) [] h = let z : ⊥ = omega arith in absurd z
packed_zip {op} bw k (x ∷ l) (y ∷ r) h =
    let e : length l ≡ length r = omega arith in
    ap (λ (n : ℕ). n * 2 ^ k + op x y % 2 ^ k) (packed_zip bw k l r e) ∙ sym (join_words bw k (packed k l) (packed k r) x y)

-- ---- digits

-- a digit below k is one of the number's low part
pub digit_low : (x k b : ℕ) → b < k → digit (x % 2 ^ k) b ≡ digit x b
digit_low x k b h =
    let e : k ≡ k - b - 1 + 1 + b = omega arith in
    ap (λ (n : ℕ). digit (x % 2 ^ n) b) e ∙ ap (λ (n : ℕ). n % 2) (field x (k - b - 1 + 1) b) ∙ mod-mod-pow (x / 2 ^ b) (k - b - 1) 1

pub digit_packed : (k : ℕ) (ws : List ℕ) (i b : ℕ) → b < k → digit (packed k ws) (i * k + b) ≡ digit (get_or ws i 0) b
unfolding packed
digit_packed k [] i b h = ap (λ (n : ℕ). n % 2) (zero-div _ ∙ sym (zero-div _))
digit_packed k (w ∷ ws) zero b h =
    let x = packed k ws * 2 ^ k + w % 2 ^ k in
    let e : 0 * k + b ≡ b = omega (arith, zero-mul k) in
    ap (digit x) e ∙ sym (digit_low x k b h) ∙ ap (λ (n : ℕ). digit n b) (low (packed k ws) k (mod-lt w (pow_pos k))) ∙ digit_low w k b h
digit_packed k (w ∷ ws) (suc i) b h =
    let x = packed k ws * 2 ^ k + w % 2 ^ k in
    let e : suc i * k + b ≡ k + (i * k + b) = omega (arith, suc-mul i k) in
    ap (digit x) e ∙ ap (λ (n : ℕ). n % 2) (sym (shr-shr x k (i * k + b)))
    ∙ ap (λ (n : ℕ). digit n (i * k + b)) (high (packed k ws) k (mod-lt w (pow_pos k))) ∙ digit_packed k ws i b h

-- "Atom a is bit a mod 64 of word a div 64", for words of any width
pub digit_at : (k : ℕ) → 0 < k → (ws : List ℕ) (a : ℕ) → digit (packed k ws) a ≡ digit (get_or ws (a / k) 0) (a % k)
digit_at k h ws a = ap (digit (packed k ws)) (sym (div-add-mod' a k)) ∙ digit_packed k ws (a / k) (a % k) (mod-lt a h)
