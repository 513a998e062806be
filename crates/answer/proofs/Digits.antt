-- How many bytes a number, and two numbers between words, take.
use Prim.Native.Nat.{ℕ, ◌+◌, ◌*◌, ◌/◌, ◌≤◌, ◌<◌}
use mathlib.Core.Path.{ap, ◌∙◌}
use mathlib.Core.List.{List}
use native.Mathlib.Decide.{dec_le}
use native.Mathlib.Omega.{arith}
use lib.ListN.{length, length-append}
use Rattle.text.specs.Text.{decimal_of, two_of}
use Rattle.text.proofs.Decimals.{small, more}

pub one_digit : (n : ℕ) → n < 10 → length (decimal_of n) ≤ 1
one_digit n h = omega (arith, ap length (small n h))

-- a digit more for ten times as many
one_more : (k b : ℕ) → 1 ≤ k → ((n : ℕ) → n < b → length (decimal_of n) ≤ k) → (n : ℕ) → n < b * 10 → length (decimal_of n) ≤ k + 1
one_more k b some fewer n h = by (dec_le 10 n)
  where
    by : Dec (10 ≤ n) → length (decimal_of n) ≤ k + 1
    by (yes large) = omega (arith, ap length (more n large) ∙ length-append (decimal_of (n / 10)) _, fewer (n / 10) (omega arith))
    by (no z) = omega (arith, one_digit n (omega arith))

two_digits : (n : ℕ) → n < 100 → length (decimal_of n) ≤ 2
two_digits n h = one_more 1 10 (omega arith) one_digit n h

pub three_digits : (n : ℕ) → n < 1000 → length (decimal_of n) ≤ 3
three_digits n h = one_more 2 100 (omega arith) two_digits n h

four_digits : (n : ℕ) → n < 10000 → length (decimal_of n) ≤ 4
four_digits n h = one_more 3 1000 (omega arith) three_digits n h

pub five_digits : (n : ℕ) → n < 100000 → length (decimal_of n) ≤ 5
five_digits n h = one_more 4 10000 (omega arith) four_digits n h

pub six_digits : (n : ℕ) → n < 1000000 → length (decimal_of n) ≤ 6
six_digits n h = one_more 5 100000 (omega arith) five_digits n h

pub two_long : (first middle last : List ℕ) (a b i j : ℕ) → length (decimal_of a) ≤ i → length (decimal_of b) ≤ j
    → length (two_of first a middle b last) ≤ length first + i + length middle + j + length last
two_long first middle last a b i j x y =
    simp (length-append) (omega arith)
