-- A basis row with the decided atoms taken out: the turns of `of`, and what it is over n atoms.
use Prim.Native.Nat.{ℕ, zero, suc, ◌+◌, ◌*◌, ◌%◌, ◌^◌, ◌≤◌, ◌<◌}
use mathlib.Core.Path.{◌≡◌, refl, sym, ap, ap₂, ◌∙◌}
use mathlib.Core.List.{List, [], ◌∷◌, ◌++◌, zip_with, append-nil}
use mathlib.Core.Bool.{Bool, xor, ◌&&◌}
use native.Mathlib.Nat.{lt_of_le_of_lt, mod-lt}
use native.Mathlib.Numerals.{add-one}
use native.Mathlib.Omega.{arith}
use lib.ListN.{length, get_or, take, drop, set, length-set}
use lib.Seq.{take_all, drop-length}
use lib.Bits.{bit_and, bit_xor, and_le_l, and_zero_r, xor_lt}
use lib.Count.{ones}
use lib.Dec.{eqb}
use Rattle.words.specs.Set.{packed, set_of, odd}
use Rattle.words.proofs.Bitwise.{by_and, join_words}
use Rattle.words.proofs.Common.{common, common_length, common_at}
use Rattle.words.proofs.Counts.{ones_xor, shared_cons, shared_none}
use Rattle.rows.specs.Row.{overlap}
use Rattle.rows.specs.Decisions.{Decisions}
use Rattle.rows.specs.Flat.{width_of, row, row_at, atoms_of}
use Rattle.rows.proofs.Digits.{atoms_overlap}
use Rattle.rows.proofs.Rowwise.{constant_sum}
use Rattle.echelon.specs.Steps.{WordsFit}
use Rattle.echelon.proofs.Turns.{set_fits}
use Rattle.parity.specs.Named.{Legible}
use Rattle.inspect.proofs.Readings.{atoms_and}
use Rattle.probe.specs.Elimination.{substituted}
use Rattle.inspect.specs.Steps.{Masked}
use Rattle.probe.specs.declared.open_row.OpenRow.{OpenRow}
use Rattle.probe.specs.Steps.{opened_row}

-- ---- one row

-- after i turns: the first i words are written, and the sum's count and that of the held atoms from word i on have the parity of the whole
pub record Opening (words held free left₀ left : List ℕ) (sum i : ℕ) : Type 0 where
  pub short : length words ≤ 8
  pub same : length left₀ ≡ length words
  pub held_wide : length held ≡ 8
  pub free_wide : length free ≡ 8
  pub within : i ≤ length words
  pub long : length left ≡ length words
  pub fits : WordsFit left
  pub is : left ≡ take i (common words free) ++ drop i left₀
  pub parity : (ones sum + ones (bit_and (set_of (drop i words)) (set_of (drop i held)))) % 2 ≡ ones (bit_and (set_of words) (set_of held)) % 2

-- one place more of a list taken over from another
over : (i : ℕ) (z l : List ℕ) → i < length z → length l ≡ length z → set (take i z ++ drop i l) i (get_or z i 0) ≡ take (suc i) z ++ drop (suc i) l
over i [] l h e = let z : ⊥ = omega arith in absurd z
over i (x ∷ z) [] h e = let z : ⊥ = omega (arith, e) in absurd z
over zero (x ∷ z) (y ∷ l) h e = refl
over (suc i) (x ∷ z) (y ∷ l) h e = ap (λ (m : List ℕ). x ∷ m) (over i z l (omega arith) (omega (arith, e)))

module _ {words held free left₀ left : List ℕ} {sum i : ℕ} (o : Opening words held free left₀ left sum i) where
  in_free : length words ≤ length free
  in_free = omega (arith, o.short, o.free_wide)

  in_held : length words ≤ length held
  in_held = omega (arith, o.short, o.held_wide)

  pub opening_next : i < length words → get_or words i 0 < 2 ^ 64
      → Opening words held free left₀ (set left i (bit_and (get_or words i 0) (get_or free i 0))) (bit_xor sum (bit_and (get_or words i 0) (get_or held i 0))) (i + 1)
  opening_next h word_fits = record {
    short = o.short;
    same = o.same;
    held_wide = o.held_wide;
    free_wide = o.free_wide;
    within = omega arith;
    long = length-set left i _ ∙ o.long;
    fits = set_fits left i _ o.fits (lt_of_le_of_lt (and_le_l (get_or words i 0) (get_or free i 0)) word_fits);
    is =
        ap₂ (λ (l : List ℕ) (v : ℕ). set l i v) o.is (sym (common_at words free i in_free h))
        ∙ over i (common words free) left₀ (omega (arith, common_length words free in_free)) (o.same ∙ sym (common_length words free in_free))
        ∙ ap (λ (k : ℕ). take k (common words free) ++ drop k left₀) (sym (add-one i));
    parity = omega (arith, o.parity, ones_xor sum (bit_and (get_or words i 0) (get_or held i 0)), shared_cons 64 words held i h (omega (arith, in_held)) word_fits);
  }

  pub opening_end : length words ≤ i → (left ≡ common words free) × (ones sum % 2 ≡ ones (bit_and (set_of words) (set_of held)) % 2)
  opening_end h =
      let all : i ≡ length left₀ = omega (arith, o.within, o.same) in (
        o.is
            ∙ ap₂ ◌++◌ (take_all i (common words free) (omega (arith, common_length words free in_free))) (ap (λ (k : ℕ). drop k left₀) all ∙ drop-length left₀)
            ∙ append-nil (common words free),
        omega (arith, o.parity, shared_none 64 words held i h),
      )

-- ---- as a row over n atoms

-- what two sets have in common, of whatever lengths
common_any : (k : ℕ) (l m : List ℕ) → packed k (zip_with bit_and l m) ≡ bit_and (packed k l) (packed k m)
unfolding packed zip_with
common_any k [] m = refl
common_any k (x ∷ l) [] = sym (and_zero_r _)
common_any k (x ∷ l) (y ∷ m) =
    ap (λ (n : ℕ). n * 2 ^ k + bit_and x y % 2 ^ k) (common_any k l m) ∙ sym (join_words by_and k (packed k l) (packed k m) x y)

-- a basis row over the open atoms
module _ {n s : ℕ} {ws cs : List ℕ} (fit : Legible n ws cs s) (held free : List ℕ) where
  abbrev left_of : OpenRow (width_of n)
  left_of = opened_row held free (row (width_of n) ws s) (get_or cs s 0)

  abbrev own_atoms : ℕ
  own_atoms = set_of (row (width_of n) ws s)

  small_flips : ones (bit_and own_atoms (set_of held)) % 2 < 2
  small_flips = mod-lt (ones (bit_and own_atoms (set_of held))) (omega arith)

  opened_set : set_of left_of.words ≡ bit_and own_atoms (set_of free)
  opened_set = common_any 64 (row (width_of n) ws s) free

  pub opened_below : set_of left_of.words < 2 ^ n
  opened_below = rw opened_set (lt_of_le_of_lt (and_le_l own_atoms (set_of free)) fit.below)

  pub opened_small : left_of.constant < 2
  opened_small = xor_lt 1 (get_or cs s 0) (ones (bit_and own_atoms (set_of held)) % 2) fit.constant small_flips

  pub opened_is : (p : Decisions) → Masked n p held free
      → record { atoms = atoms_of n (set_of left_of.words); constant = eqb left_of.constant 1 } ≡ substituted p (row_at n (width_of n) ws cs s)
  unfolding row_at
  opened_is p m =
      ap₂ (λ (l : List Bool) (c : Bool). record { atoms = l; constant = c })
      (ap (atoms_of n) opened_set ∙ sym (atoms_and n own_atoms (set_of free)) ∙ ap (zip_with ◌&&◌ (atoms_of n own_atoms)) (sym m.open_are))
      (constant_sum (get_or cs s 0) (ones (bit_and own_atoms (set_of held)) % 2) fit.constant small_flips
      ∙ ap (xor (eqb (get_or cs s 0) 1))
      (ap odd (sym (atoms_overlap n own_atoms (set_of held) fit.below)) ∙ ap (λ (l : List Bool). odd (overlap (atoms_of n own_atoms) l)) (sym m.held_are)))
