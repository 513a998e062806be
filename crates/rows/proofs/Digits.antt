-- Atoms, sets and words: the list of a set's atoms, the set of a list, and its words of k digits, each back to the other; and what the
-- sets' operations do to the lists.
use Prim.Native.Nat.{ℕ, zero, suc, ◌+◌, ◌*◌, ◌/◌, ◌%◌, ◌^◌, ◌<◌}
use mathlib.Core.Path.{◌≡◌, refl, ap, ap₂, ◌∙◌}
use mathlib.Core.List.{List, [], ◌∷◌}
use mathlib.Core.Bool.{Bool, true, false, xor, cond, ◌&&◌}
use native.Mathlib.Nat.{le_of_suc-le-suc, div-one, pow-suc, suc-mul, mod-mod, mod-eq_of_lt, zero-mul, lt_of_lt_of_le}
use native.Mathlib.Numerals.{one-add}
use native.Mathlib.Omega.{arith}
use lib.Bits.{bit_and, bit_xor, and_mod, and_shr, xor_mod, xor_shr}
use lib.Count.{ones, ones_step}
use lib.Pow.{pow_mono, shr-shr, shr_lt, split, high, low}
use lib.Dec.{eqb}
use lib.ListN.{length, get_or}
use Rattle.words.specs.Set.{packed, has, odd}
use Rattle.words.proofs.Bitwise.{one, two}
use Rattle.rows.specs.Row.{overlap, plus}
use Rattle.rows.specs.Flat.{atoms_of, mask_of, unpack}
use Rattle.rows.specs.Promises.{AtomsFixWords, WordsHoldAtoms}

pub atoms_length : (n x : ℕ) → length (atoms_of n x) ≡ n
unfolding atoms_of
atoms_length zero x = refl
atoms_length (suc n) x = ap suc (atoms_length n (x / 2))

pub atoms_has : (n x a : ℕ) → a < n → get_or (atoms_of n x) a false ≡ has x a
unfolding atoms_of
atoms_has zero x a h = let z : ⊥ = omega arith in absurd z
atoms_has (suc n) x zero h = rw div-one
atoms_has (suc n) x (suc a) h =
    atoms_has n (x / 2) a (le_of_suc-le-suc h) ∙ ap (λ (k : ℕ). eqb (k % 2) 1) (shr-shr x 1 a ∙ ap (λ (k : ℕ). x / 2 ^ k) (one-add a))

pub atoms_xor : (n a b : ℕ) → atoms_of n (bit_xor a b) ≡ plus (atoms_of n a) (atoms_of n b)
unfolding atoms_of xor
atoms_xor zero a b = refl
atoms_xor (suc n) a b =
    ap₂ ◌∷◌
    (ap (λ (d : ℕ). eqb d 1) (xor_mod a b 1) ∙ two (λ p q. eqb (bit_xor p q) 1 ≡ xor (eqb p 1) (eqb q 1)) refl refl refl refl a b)
    (ap (atoms_of n) (xor_shr a b 1) ∙ atoms_xor n (a / 2) (b / 2))

pub atoms_overlap : (n a x : ℕ) → a < 2 ^ n → overlap (atoms_of n a) (atoms_of n x) ≡ ones (bit_and a x)
unfolding atoms_of ones
atoms_overlap zero a x h = let e : a ≡ 0 = omega arith in rw e
atoms_overlap (suc n) a x h =
    let l : a / 2 < 2 ^ n = omega (arith, pow-suc 2 n) in
    let o = overlap (atoms_of n (a / 2)) (atoms_of n (x / 2)) in
    omega (arith, last o, ones_step (bit_and a x), and_mod a x 1, ap ones (and_shr a x 1), atoms_overlap n (a / 2) (x / 2) l)
  where
    last : (o : ℕ) → cond (odd a && odd x) (suc o) o ≡ bit_and (a % 2) (x % 2) + o
    last o = two (λ p q. cond (eqb p 1 && eqb q 1) (suc o) o ≡ bit_and p q + o) (omega arith) (omega arith) (omega arith) (omega arith) a x

pub mask_atoms : (n x : ℕ) → x < 2 ^ n → mask_of (atoms_of n x) ≡ x
unfolding atoms_of mask_of
mask_atoms zero x h = omega arith
mask_atoms (suc n) x h =
    let l : x / 2 < 2 ^ n = omega (arith, pow-suc 2 n) in
    let last : cond (odd x) 1 0 ≡ x % 2 = one (λ d. cond (eqb d 1) 1 0 ≡ d) refl refl x in
    omega (arith, mask_atoms n (x / 2) l)

pub atoms_mask : (r : List Bool) → atoms_of (length r) (mask_of r) ≡ r
unfolding atoms_of mask_of
atoms_mask [] = refl
atoms_mask (true ∷ r) = let l : 1 < 2 = omega arith in rw (low (mask_of r) 1 l, high (mask_of r) 1 l) (ap (◌∷◌ true) (atoms_mask r))
atoms_mask (false ∷ r) = let l : 0 < 2 = omega arith in rw (low (mask_of r) 1 l, high (mask_of r) 1 l) (ap (◌∷◌ false) (atoms_mask r))

pub mask_lt : (r : List Bool) → mask_of r < 2 ^ length r
unfolding mask_of
mask_lt [] = omega arith
mask_lt (true ∷ r) = omega (arith, pow-suc 2 (length r), mask_lt r)
mask_lt (false ∷ r) = omega (arith, pow-suc 2 (length r), mask_lt r)

pub unpack_packed : (k : ℕ) (ws : List ℕ) → ((i : ℕ) → get_or ws i 0 < 2 ^ k) → unpack k (length ws) (packed k ws) ≡ ws
unfolding packed unpack
unpack_packed k [] h = refl
unpack_packed k (w ∷ ws) h =
    rw (mod-eq_of_lt (h 0), low (packed k ws) k (h 0), high (packed k ws) k (h 0)) (ap (◌∷◌ w) (unpack_packed k ws (λ i. h (suc i))))

pub packed_unpack : (k w x : ℕ) → x < 2 ^ (w * k) → packed k (unpack k w x) ≡ x
unfolding packed unpack
packed_unpack k zero x h = let l : x < 1 = rw zero-mul at h in omega arith
packed_unpack k (suc w) x h = rw (mod-mod, packed_unpack k w (x / 2 ^ k) (shr_lt (w * k) k (rw suc-mul at h))) (split x k)

pub atoms_fix_words : AtomsFixWords
atoms_fix_words k n ws fit l = ap (unpack k (length ws)) (mask_atoms n (packed k ws) l) ∙ unpack_packed k ws fit

pub words_hold_atoms : WordsHoldAtoms
words_hold_atoms k w r h = ap (atoms_of (length r)) (packed_unpack k w (mask_of r) (lt_of_lt_of_le (mask_lt r) (pow_mono h))) ∙ atoms_mask r
