-- Whether an atom is in a set, read off its word.
use Prim.Native.Nat.{ℕ, zero, suc, ◌+◌, ◌*◌, ◌/◌, ◌%◌, ◌^◌, ◌≤◌, ◌<◌}
use mathlib.Core.Path.{◌≡◌, sym, ap, ◌∙◌}
use mathlib.Core.List.{List}
use mathlib.Core.Bool.{false, not}
use native.Mathlib.Nat.{mod-lt, zero-lt-suc}
use native.Mathlib.Omega.{arith}
use borrow.Author.Tests.{eq-eqb, ne_eqb}
use lib.ListN.{length, get_or, get_or-eq_default}
use lib.Dec.{eqb}
use lib.Bits.{bit_and}
use lib.Pow.{pow_pos, shl_exact}
use Rattle.words.specs.Set.{set_of, digit, has}
use Rattle.words.proofs.Bitwise.{and_bit}
use Rattle.words.proofs.Packed.{digit_at}

-- what `1 << (a % 64)` comes to
pub one_bit : (a : ℕ) → 1 * 2 ^ (a % 64) % 2 ^ 64 ≡ 2 ^ (a % 64)
one_bit a =
    let h : 1 + a % 64 ≤ 64 = omega (arith, mod-lt a (zero-lt-suc 63)) in
    shl_exact {a = 1} 1 (a % 64) 64 (omega arith) h ∙ (omega arith)

digit_test : (d p : ℕ) → d < 2 → 0 < p → not (eqb (d * p) 0) ≡ eqb d 1
digit_test zero p l h = ap not (eq-eqb (0 * p) 0 (omega arith))
digit_test (suc zero) p l h = ap not (ne_eqb (1 * p) 0 (λ e. omega arith))
digit_test (suc (suc d)) p l h = let z : ⊥ = omega arith in absurd z

pub has_word : (ws : List ℕ) (a : ℕ) → not (eqb (bit_and (get_or ws (a / 64) 0) (2 ^ (a % 64))) 0) ≡ has (set_of ws) a
has_word ws a =
    let w = get_or ws (a / 64) 0 in
    let b = a % 64 in
    ap (λ (n : ℕ). not (eqb n 0)) (and_bit w b) ∙ digit_test (digit w b) (2 ^ b) (mod-lt (w / 2 ^ b) (zero-lt-suc 1)) (pow_pos b)
    ∙ ap (λ (d : ℕ). eqb d 1) (sym (digit_at 64 (zero-lt-suc 63) ws a))

pub has_past : (ws : List ℕ) (a : ℕ) → length ws ≤ a / 64 → false ≡ has (set_of ws) a
has_past ws a h =
    ap (λ (n : ℕ). not (eqb (bit_and n (2 ^ (a % 64))) 0)) (sym (get_or-eq_default ws 0 h)) ∙ has_word ws a
