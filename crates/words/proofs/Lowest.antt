-- The lowest atom. A set that has one is an odd number shifted up by it, so every law is one on numbers `(m * 2 + 1) * 2 ^ t`.
use Prim.Native.Nat.{ℕ, zero, suc, ◌+◌, ◌-◌, ◌*◌, ◌/◌, ◌%◌, ◌^◌, ◌≤◌, ◌<◌}
use mathlib.Core.Path.{◌≡◌, refl, sym, ap, ap₂, ◌∙◌}
use native.Mathlib.Nat.{pow-suc, mul_assoc, mul_comm, suc-mul, add-mul, add-zero, mod-lt, zero-lt-suc}
use native.Mathlib.Numerals.{add-one}
use native.Mathlib.Omega.{arith}
use lib.Bits.{bit_and, and_block, and_self}
use lib.Count.{count_trailing_zeros, under}
use lib.Pow.{pow_pos, pow-add, ones_lt}
use Rattle.words.specs.Set.{low}

-- n is an odd number shifted up by t
pub record Form (n t : ℕ) : Type 0 where
  pub half : ℕ
  pub is : n ≡ (half * 2 + 1) * 2 ^ t

double : (m t : ℕ) → (m * 2 + 1) * 2 ^ suc t ≡ (m * 2 + 1) * 2 ^ t * 2
double m t = ap (λ (p : ℕ). (m * 2 + 1) * p) (pow-suc 2 t) ∙ sym (mul_assoc (m * 2 + 1) (2 ^ t) 2)

pub trailing_is : (k m t : ℕ) → t < k → count_trailing_zeros k ((m * 2 + 1) * 2 ^ t) ≡ t
unfolding count_trailing_zeros
trailing_is zero m t h = let z : ⊥ = omega arith in absurd z
trailing_is (suc k) m zero h =
    let e : (m * 2 + 1) * 2 ^ 0 % 2 ≡ 1 = omega arith in
    ap (λ (d : ℕ). under d (count_trailing_zeros k ((m * 2 + 1) * 2 ^ 0 / 2))) e
trailing_is (suc k) m (suc t) h =
    let even : (m * 2 + 1) * 2 ^ suc t % 2 ≡ 0 = omega (arith, double m t) in
    let half : (m * 2 + 1) * 2 ^ suc t / 2 ≡ (m * 2 + 1) * 2 ^ t = omega (arith, double m t) in
    let lt : t < k = omega arith in
    ap₂ (λ (d n : ℕ). under d (count_trailing_zeros k n)) even half ∙ ap suc (trailing_is k m t lt)

-- t is one of k digits, and the lowest set one
pub record Trailing (k n t : ℕ) : Type 0 where
  pub below : t < k
  pub form : Form n t

trailing_more : (k n d t : ℕ) → n % 2 ≡ d → d < 2 → (0 < n → d ≡ 0 → Trailing k (n / 2) t) → 0 < n → Trailing (suc k) n (under d t)
trailing_more k n zero t e l rest h =
    let r = rest h refl in
    let even : n ≡ n / 2 * 2 = omega arith in
    record {
      below = omega (arith, r.below);
      form = record { half = r.form.half; is = even ∙ ap (λ (x : ℕ). x * 2) r.form.is ∙ sym (double r.form.half t) };
    }
trailing_more k n (suc zero) t e l rest h = record { below = omega arith; form = record { half = n / 2; is = omega arith } }
trailing_more k n (suc (suc d)) t e l rest h = let z : ⊥ = omega arith in absurd z

pub trailing_form : (k n : ℕ) → 0 < n → n < 2 ^ k → Trailing k n (count_trailing_zeros k n)
unfolding count_trailing_zeros
trailing_form zero n h l = let z : ⊥ = omega arith in absurd z
trailing_form (suc k) n h l =
    trailing_more k n (n % 2) (count_trailing_zeros k (n / 2)) refl (mod-lt n (zero-lt-suc 1))
    (λ p e. trailing_form k (n / 2) (omega arith) (omega (arith, pow-suc 2 k))) h

lt_pow : (n : ℕ) → n < 2 ^ n
lt_pow zero = omega arith
lt_pow (suc n) = omega (arith, pow-suc 2 n, lt_pow n)

pub low_form : (n : ℕ) → 0 < n → Form n (low n)
unfolding low
low_form n h = (trailing_form n n h (lt_pow n)).form

pub low_is : (n t : ℕ) → Form n t → low n ≡ t
unfolding low
low_is n t f =
    let odd = f.half * 2 + 1 in
    let some : 2 ^ t ≤ odd * 2 ^ t = omega (arith, suc-mul (f.half * 2) (2 ^ t), ap (λ (m : ℕ). m * 2 ^ t) (add-one (f.half * 2))) in
    let lt : t < odd * 2 ^ t = omega (arith, lt_pow t) in
    ap (λ (m : ℕ). count_trailing_zeros m m) f.is ∙ trailing_is (odd * 2 ^ t) f.half t lt

-- the lowest atom of a word that is not empty
pub low_word : (k w : ℕ) → 0 < w → w < 2 ^ k → low w ≡ count_trailing_zeros k w
low_word k w h l = low_is w (count_trailing_zeros k w) (trailing_form k w h l).form

-- what lies above digit t is an even number shifted up by t
pub even_above : (m k t : ℕ) → t < k → m * 2 ^ k ≡ m * 2 ^ (k - t - 1) * 2 * 2 ^ t
even_above m k t h =
    let p = 2 ^ (k - t - 1) in
    let e : k ≡ k - t - 1 + 1 + t = omega arith in
    ap (λ (x : ℕ). m * x) (ap (λ (x : ℕ). 2 ^ x) e ∙ pow-add 2 (k - t - 1 + 1) t ∙ ap (λ (x : ℕ). x * 2 ^ t) (pow-add 2 (k - t - 1) 1))
    ∙ sym (mul_assoc m (p * 2) (2 ^ t)) ∙ ap (λ (x : ℕ). x * 2 ^ t) (sym (mul_assoc m p 2))

-- ... and of a set whose words below it are empty: it lies in the first word that is not
shifted_form : (n t s : ℕ) → Form n t → Form (n * 2 ^ s) (s + t)
shifted_form n t s f = record {
  half = f.half;
  is =
      ap (λ (x : ℕ). x * 2 ^ s) f.is ∙ mul_assoc (f.half * 2 + 1) (2 ^ t) (2 ^ s)
      ∙ ap (λ (x : ℕ). (f.half * 2 + 1) * x) (mul_comm (2 ^ t) (2 ^ s) ∙ sym (pow-add 2 s t));
}

above_form : (k N w t : ℕ) → Trailing k w t → Form (N * 2 ^ k + w) t
above_form k N w t f =
    let p = 2 ^ (k - t - 1) in
    let odd : N * p * 2 + (f.form.half * 2 + 1) ≡ (N * p + f.form.half) * 2 + 1 = omega arith in
    record {
      half = N * p + f.form.half;
      is =
          ap₂ ◌+◌ (even_above N k t f.below) f.form.is ∙ sym (add-mul (N * p * 2) (f.form.half * 2 + 1) (2 ^ t))
          ∙ ap (λ (x : ℕ). x * 2 ^ t) odd;
    }

pub low_words : (k N w s : ℕ) → 0 < w → w < 2 ^ k → low ((N * 2 ^ k + w) * 2 ^ s) ≡ s + count_trailing_zeros k w
low_words k N w s h l =
    let t = count_trailing_zeros k w in
    low_is ((N * 2 ^ k + w) * 2 ^ s) (s + t) (shifted_form (N * 2 ^ k + w) t s (above_form k N w t (trailing_form k w h l)))

-- `w & (w - 1)` is w without its lowest atom
clear_form : (m t : ℕ) → bit_and ((m * 2 + 1) * 2 ^ t) ((m * 2 + 1) * 2 ^ t - 1) ≡ (m * 2 + 1) * 2 ^ t - 2 ^ t
clear_form m t =
    let more : (m * 2 + 1) * 2 ^ t ≡ m * 2 * 2 ^ t + 2 ^ t = ap (λ (x : ℕ). x * 2 ^ t) (add-one (m * 2)) ∙ suc-mul (m * 2) (2 ^ t) in
    let less : (m * 2 + 1) * 2 ^ t - 1 ≡ m * 2 * 2 ^ t + (2 ^ t - 1) = omega (arith, pow_pos t) in
    let whole : (m * 2 + 1) * 2 ^ t ≡ (m * 2 + 1) * 2 ^ t + 0 = omega arith in
    let one : bit_and (m * 2 + 1) (m * 2) ≡ m * 2 = ap (bit_and (m * 2 + 1)) (sym (add-zero (m * 2))) ∙ and_block 1 m m 1 0 (omega arith) (omega arith) ∙ add-zero _ ∙ ap (λ (x : ℕ). x * 2) (and_self m) in
    let last : m * 2 * 2 ^ t + 0 ≡ (m * 2 + 1) * 2 ^ t - 2 ^ t = omega arith in
    ap₂ bit_and whole less ∙ and_block t (m * 2 + 1) (m * 2) 0 (2 ^ t - 1) (pow_pos t) (ones_lt t)
    ∙ ap (λ (x : ℕ). x * 2 ^ t + 0) one ∙ last

pub clear_low : (w : ℕ) → 0 < w → bit_and w (w - 1) ≡ w - 2 ^ low w
clear_low w h =
    let f = low_form w h in
    ap (λ (x : ℕ). bit_and x (x - 1)) f.is ∙ clear_form f.half (low w) ∙ ap (λ (x : ℕ). x - 2 ^ low w) (sym f.is)
