-- Lists of bits as numbers: sums, overlaps, the head bit, and all of it shifted to a place j.
use Prim.Native.Nat.{ℕ, zero, suc, ◌+◌, ◌*◌, ◌/◌, ◌^◌, ◌<◌}
use mathlib.Core.Path.{◌≡◌, refl, sym, ap, ap₂, ◌∙◌}
use mathlib.Core.List.{List, [], ◌∷◌}
use mathlib.Core.Bool.{Bool, true, false, cond, xor, ◌&&◌}
use native.Mathlib.Nat.{lt_of_le_of_lt, add-zero, pow-suc, mul_assoc, mul_comm}
use native.Mathlib.Omega.{arith}
use lib.Bits.{bit_and, bit_xor, and_block, and_le_l, and_zero_r, and_mask, xor_block, xor_zero_r, xor_shifted}
use lib.Count.{ones, ones_cat}
use lib.Pow.{pow_pos, shl-shr, low}
use Rattle.words.proofs.Bitwise.{Bitwise}
use Rattle.rows.specs.Row.{overlap, plus}
use Rattle.rows.specs.Flat.{mask_of}
use Rattle.hull.specs.Equations.{zeros}
use Rattle.hull.specs.Steps.{bit}

pub bit_lt : (b : Bool) → bit b < 2
bit_lt true = omega arith
bit_lt false = omega arith

bit_xor_lem : (a b : Bool) → bit_xor (bit a) (bit b) ≡ bit (xor a b)
unfolding xor
bit_xor_lem true true = refl
bit_xor_lem true false = refl
bit_xor_lem false true = refl
bit_xor_lem false false = refl

pub mask_plus : (x y : List Bool) → bit_xor (mask_of x) (mask_of y) ≡ mask_of (plus x y)
unfolding mask_of
mask_plus [] y = refl
mask_plus (a ∷ x) [] = xor_zero_r _
mask_plus (a ∷ x) (b ∷ y) =
    xor_block 1 (mask_of x) (mask_of y) (bit a) (bit b) (bit_lt a) (bit_lt b) ∙ ap₂ (λ h l. h * 2 + l) (mask_plus x y) (bit_xor_lem a b)

pub mask_overlap : (c x : List Bool) → ones (bit_and (mask_of c) (mask_of x)) ≡ overlap c x
unfolding mask_of ones
mask_overlap [] x = refl
mask_overlap (a ∷ c) [] = ap ones (and_zero_r (mask_of (a ∷ c)))
mask_overlap (a ∷ c) (b ∷ x) =
    ap ones (and_block 1 (mask_of c) (mask_of x) (bit a) (bit b) (bit_lt a) (bit_lt b))
    ∙ ones_cat 1 (bit_and (mask_of c) (mask_of x)) (bit_and (bit a) (bit b)) (lt_of_le_of_lt (and_le_l _ _) (bit_lt a))
    ∙ ap (λ n. n + ones (bit_and (bit a) (bit b))) (mask_overlap c x) ∙ last a b (overlap c x)
  where
    last : (a b : Bool) (o : ℕ) → o + ones (bit_and (bit a) (bit b)) ≡ cond (a && b) (suc o) o
    last true true o = omega arith
    last true false o = omega arith
    last false true o = omega arith
    last false false o = omega arith

pub mask_zeros : (n : ℕ) → mask_of (zeros n) ≡ 0
unfolding mask_of
mask_zeros zero = refl
mask_zeros (suc n) = ap (λ m. m * 2 + 0) (mask_zeros n)

-- shifted to place j
pub op_shl : {op : ℕ → ℕ → ℕ} → Bitwise op → (a b j : ℕ) → op (a * 2 ^ j) (b * 2 ^ j) ≡ op a b * 2 ^ j
op_shl {op} bw a b j =
    ap₂ op (sym (add-zero _)) (sym (add-zero _)) ∙ bw.block j a b 0 0 (pow_pos j) (pow_pos j) ∙ ap (λ n. op a b * 2 ^ j + n) bw.none ∙ add-zero _

pub ones_shl : (a j : ℕ) → ones (a * 2 ^ j) ≡ ones a
unfolding ones
ones_shl a j = ap ones (sym (add-zero (a * 2 ^ j))) ∙ ones_cat j a 0 (pow_pos j) ∙ add-zero _

pub even_shl : (x : List Bool) (j : ℕ) → mask_of x * 2 ^ suc j ≡ mask_of (false ∷ x) * 2 ^ j
unfolding mask_of
even_shl x j = ap (λ n. mask_of x * n) (pow-suc 2 j ∙ mul_comm (2 ^ j) 2) ∙ sym (mul_assoc (mask_of x) 2 (2 ^ j)) ∙ ap (λ n. n * 2 ^ j) (sym (add-zero _))

pub head_bit : (b : Bool) (x : List Bool) (j : ℕ) → bit_and (mask_of (b ∷ x) * 2 ^ j / 2 ^ j) 1 ≡ bit b
unfolding mask_of
head_bit b x j = ap (λ n. bit_and n 1) (shl-shr (mask_of (b ∷ x)) j) ∙ and_mask (mask_of (b ∷ x)) 1 ∙ low (mask_of x) 1 (bit_lt b)

-- a head bit taken in
pub bit_onto : (b : Bool) (c : List Bool) → bit_xor (mask_of (false ∷ c)) (bit b) ≡ mask_of (b ∷ c)
unfolding mask_of
bit_onto b c = ap (λ m. bit_xor m (bit b)) (add-zero (mask_of c * 2)) ∙ xor_shifted (mask_of c) 1 (bit b) (bit_lt b)
