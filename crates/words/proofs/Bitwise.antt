-- What `bit_and`, `bit_or` and `bit_xor` share, stated once: each works digit by digit, so a law of the operation is a law of two digits.
use Prim.Native.Nat.{ℕ, zero, suc, ◌+◌, ◌*◌, ◌/◌, ◌%◌, ◌^◌, ◌<◌}
use mathlib.Core.Path.{◌≡◌, refl, sym, ap, ap₂, ◌∙◌}
use native.Mathlib.Nat.{mod-lt, zero-lt-suc, div-one, add-zero}
use native.Mathlib.Omega.{arith}
use lib.Arith.{bin_ind}
use lib.Bits.{bit_and, bit_or, bit_xor, and_block, or_block, xor_block, and_mod, or_mod, xor_mod, and_shr, or_shr, xor_shr, and_mask, and_zero_r}
use lib.Pow.{pow_pos, split, shr-shr}
use Rattle.words.specs.Set.{digit}

pub record Bitwise (op : ℕ → ℕ → ℕ) : Type 0 where
  pub block : (k a b r s : ℕ) → r < 2 ^ k → s < 2 ^ k → op (a * 2 ^ k + r) (b * 2 ^ k + s) ≡ op a b * 2 ^ k + op r s
  pub lows : (a b k : ℕ) → op a b % 2 ^ k ≡ op (a % 2 ^ k) (b % 2 ^ k)
  pub highs : (a b k : ℕ) → op a b / 2 ^ k ≡ op (a / 2 ^ k) (b / 2 ^ k)
  pub none : op 0 0 ≡ 0

pub by_and : Bitwise bit_and
by_and = record { block = and_block; lows = and_mod; highs = and_shr; none = refl }

pub by_or : Bitwise bit_or
by_or = record { block = or_block; lows = or_mod; highs = or_shr; none = refl }

pub by_xor : Bitwise bit_xor
by_xor = record { block = xor_block; lows = xor_mod; highs = xor_shr; none = refl }

-- one word more on either side
pub join_words : {op : ℕ → ℕ → ℕ} → Bitwise op → (k a b x y : ℕ) → op (a * 2 ^ k + x % 2 ^ k) (b * 2 ^ k + y % 2 ^ k) ≡ op a b * 2 ^ k + op x y % 2 ^ k
join_words {op} bw k a b x y =
    bw.block k a b (x % 2 ^ k) (y % 2 ^ k) (mod-lt x (pow_pos k)) (mod-lt y (pow_pos k))
    ∙ ap (λ (n : ℕ). op a b * 2 ^ k + n) (sym (bw.lows x y k))

-- a law of a digit, or of two, holds when it holds of 0 and 1
pub one : (P : ℕ → Type 0) → P 0 → P 1 → (n : ℕ) → P (n % 2)
one P p q n = go (n % 2) (mod-lt n (zero-lt-suc 1))
  where
    go : (d : ℕ) → d < 2 → P d
    go zero h = p
    go (suc zero) h = q
    go (suc (suc d)) h = let z : ⊥ = omega arith in absurd z

pub two : (P : ℕ → ℕ → Type 0) → P 0 0 → P 0 1 → P 1 0 → P 1 1 → (m n : ℕ) → P (m % 2) (n % 2)
two P a b c d m n = one (λ p. P p (n % 2)) (one (P 0) a b n) (one (P 1) c d n) m

pub digit_op : {op : ℕ → ℕ → ℕ} → Bitwise op → (x y a : ℕ) → digit (op x y) a ≡ op (digit x a) (digit y a)
digit_op bw x y a = ap (λ (n : ℕ). n % 2) (bw.highs x y a) ∙ bw.lows (x / 2 ^ a) (y / 2 ^ a) 1

-- equal digits, equal numbers
digit_zero : (x : ℕ) → digit x 0 ≡ x % 2
digit_zero x = ap (λ (n : ℕ). n % 2) (div-one x)

digit_half : (x a : ℕ) → digit x (1 + a) ≡ digit (x / 2) a
digit_half x a = ap (λ (n : ℕ). n % 2) (sym (shr-shr x 1 a))

digits_agree : (x y : ℕ) → ((a : ℕ) → digit x a ≡ digit y a) → (((a : ℕ) → digit (x / 2) a ≡ digit (y / 2) a) → x / 2 ≡ y / 2) → x ≡ y
digits_agree x y h ih =
    let e : x / 2 ≡ y / 2 = ih (λ a. sym (digit_half x a) ∙ h (1 + a) ∙ digit_half y a) in
    omega (arith, sym (digit_zero x) ∙ h 0 ∙ digit_zero y)

pub digit_ext : (x y : ℕ) → ((a : ℕ) → digit x a ≡ digit y a) → x ≡ y
digit_ext =
    bin_ind (λ (n : ℕ). (y : ℕ) → ((a : ℕ) → digit n a ≡ digit y a) → n ≡ y)
    (bin_ind (λ (y : ℕ). ((a : ℕ) → digit 0 a ≡ digit y a) → 0 ≡ y) (λ h. refl) (λ y ih h. digits_agree 0 y h ih))
    (λ n ih y h. digits_agree n y h (ih (y / 2)))

-- a single bit picks a digit
pub and_bit : (x b : ℕ) → bit_and x (2 ^ b) ≡ digit x b * 2 ^ b
and_bit x b =
    ap₂ bit_and (sym (split x b)) one_word ∙ and_block b (x / 2 ^ b) 1 (x % 2 ^ b) 0 (mod-lt x (pow_pos b)) (pow_pos b)
    ∙ ap₂ (λ (h l : ℕ). h * 2 ^ b + l) (and_mask (x / 2 ^ b) 1) (and_zero_r (x % 2 ^ b)) ∙ add-zero _
  where
    one_word : 2 ^ b ≡ 1 * 2 ^ b + 0
    one_word = omega arith
