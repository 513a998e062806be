-- The decimal of a number: one digit below 10, else the decimal of its tenth and its last digit.
use Prim.Native.Nat.{ℕ, zero, suc, ◌+◌, ◌/◌, ◌%◌, ◌≤◌, ◌<◌}
use mathlib.Core.Path.{◌≡◌, sym, ap, ◌∙◌}
use mathlib.Core.List.{List, [], ◌∷◌, ◌++◌}
use native.Mathlib.Decide.{dec_le}
use native.Mathlib.Omega.{arith}
use borrow.Author.Tests.{lt-ltb, le-ltb}
use Rattle.text.specs.Text.{digits_from, decimal_of}

one_digit : (fuel n : ℕ) → n < 10 → digits_from fuel n ≡ (48 + n) ∷ []
unfolding digits_from
one_digit zero n h = ap (λ (d : ℕ). (48 + d) ∷ []) (omega arith)
one_digit (suc f) n h = rw (lt-ltb n 10 h)

next_digit : (fuel n : ℕ) → 10 ≤ n → digits_from (suc fuel) n ≡ digits_from fuel (n / 10) ++ ((48 + n % 10) ∷ [])
unfolding digits_from
next_digit f n h = rw (le-ltb n 10 h)

-- the fuel does not matter where there is enough of it
enough : (f g n : ℕ) → n ≤ f → n ≤ g → digits_from f n ≡ digits_from g n
enough zero g n h k = one_digit zero n (omega arith) ∙ sym (one_digit g n (omega arith))
enough (suc f) zero n h k = one_digit (suc f) n (omega arith) ∙ sym (one_digit zero n (omega arith))
enough (suc f) (suc g) n h k = by (dec_le 10 n) (enough f g (n / 10))
  where
    by : Dec (10 ≤ n) → (n / 10 ≤ f → n / 10 ≤ g → digits_from f (n / 10) ≡ digits_from g (n / 10)) → digits_from (suc f) n ≡ digits_from (suc g) n
    by (yes m) rest = next_digit f n m ∙ ap (λ (l : List ℕ). l ++ ((48 + n % 10) ∷ [])) (rest (omega arith) (omega arith)) ∙ sym (next_digit g n m)
    by (no z) rest = let s : n < 10 = omega arith in one_digit (suc f) n s ∙ sym (one_digit (suc g) n s)

pub small : (n : ℕ) → n < 10 → decimal_of n ≡ (48 + n) ∷ []
unfolding decimal_of
small n h = one_digit n n h

pub more : (n : ℕ) → 10 ≤ n → decimal_of n ≡ decimal_of (n / 10) ++ ((48 + n % 10) ∷ [])
unfolding decimal_of
more zero h = absurd (omega arith)
more (suc f) h =
    next_digit f (suc f) h ∙ ap (λ (l : List ℕ). l ++ ((48 + suc f % 10) ∷ [])) (enough f (suc f / 10) (suc f / 10) (omega arith) (omega arith))
