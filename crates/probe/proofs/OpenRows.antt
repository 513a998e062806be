-- Open rows: as rows over n atoms, added, and their lowest atoms.
use Prim.Native.Nat.{ℕ, zero, suc, ◌+◌, ◌*◌, ◌/◌, ◌^◌, ◌≤◌, ◌<◌}
use mathlib.Core.Path.{◌≡◌, refl, sym, ap, ap₂, ◌∙◌}
use mathlib.Core.List.{List, [], ◌∷◌, zip_with}
use mathlib.Core.Bool.{Bool, true, false}
use native.Mathlib.Nat.{zero-mul}
use native.Mathlib.Numerals.{add-one}
use native.Mathlib.Omega.{arith}
use borrow.Author.Tests.{eqb-true, eqb-false, ltb-true, ltb-false}
use lib.ListN.{length, get_or, set, length-set}
use lib.Seq.{get_or-set_same, get_or-set_other}
use lib.Bits.{bit_xor, xor_lt}
use lib.Count.{count_trailing_zeros}
use lib.Dec.{ltb, eqb}
use Rattle.std.proofs.lemmas.List.{ext_get_or}
use Rattle.words.specs.Set.{set_of, low}
use Rattle.words.proofs.Bitwise.{by_xor}
use Rattle.words.proofs.Lowest.{trailing_form}
use Rattle.words.proofs.Meaning.{has_none}
use Rattle.words.proofs.Packed.{left_none, packed_zip}
use Rattle.words.proofs.Scan.{From, from_next, first_at, first_some}
use Rattle.rows.specs.Row.{Row, add}
use Rattle.rows.specs.Flat.{atoms_of}
use Rattle.rows.proofs.Digits.{atoms_xor}
use Rattle.rows.proofs.Rowwise.{constant_sum, atoms_none, zip_length}
use Rattle.echelon.specs.Forward.{empty}
use Rattle.echelon.specs.Promises.{Lowest}
use Rattle.echelon.specs.Steps.{WordsFit}
use Rattle.echelon.proofs.Lows.{empty_none}
use Rattle.echelon.proofs.Looks.{set_below, set_lowest}
use Rattle.probe.specs.declared.open_row.OpenRow.{OpenRow}
use Rattle.probe.specs.Steps.{AddedFrom}

-- words and a constant as a row over n atoms
abbrev pub row_of : {w : ℕ} → ℕ → OpenRow w → Row
row_of n r = record { atoms = atoms_of n (set_of r.words); constant = eqb r.constant 1 }

-- w words of 64 bits that have no atom from n on, and a constant of 0 or 1
pub record RowFit (n : ℕ) {w : ℕ} (r : OpenRow w) : Type 0 where
  pub long : length r.words ≡ w
  pub fits : WordsFit r.words
  pub below : set_of r.words < 2 ^ n
  pub constant : r.constant < 2

-- the words before place i are empty
abbrev pub EmptyTo : {w : ℕ} → OpenRow w → ℕ → Type 0
EmptyTo r i = (k : ℕ) → k < i → get_or r.words k 0 ≡ 0

-- ---- two rows added

abbrev pub sum : {w : ℕ} → OpenRow w → OpenRow w → OpenRow w
sum r s = record { words = zip_with bit_xor r.words s.words; constant = bit_xor r.constant s.constant }

zip_at : (l m : List ℕ) (k : ℕ) → length l ≡ length m → get_or (zip_with bit_xor l m) k 0 ≡ bit_xor (get_or l k 0) (get_or m k 0)
unfolding zip_with
zip_at [] [] k e = refl
zip_at [] (y ∷ m) k e = let z : ⊥ = omega (arith, e) in absurd z
zip_at (x ∷ l) [] k e = let z : ⊥ = omega (arith, e) in absurd z
zip_at (x ∷ l) (y ∷ m) zero e = refl
zip_at (x ∷ l) (y ∷ m) (suc k) e = zip_at l m k (omega (arith, e))

module _ {n w : ℕ} (r s : OpenRow w) (f : RowFit n r) (g : RowFit n s) where
  same : length r.words ≡ length s.words
  same = f.long ∙ sym g.long

  sum_set : set_of (sum r s).words ≡ bit_xor (set_of r.words) (set_of s.words)
  sum_set = packed_zip by_xor 64 r.words s.words same

  pub sum_fit : RowFit n (sum r s)
  sum_fit = record {
    long = zip_length bit_xor r.words s.words same ∙ f.long;
    fits = λ k. rw (zip_at r.words s.words k same) (xor_lt 64 (get_or r.words k 0) (get_or s.words k 0) (f.fits k) (g.fits k));
    below = rw sum_set (xor_lt n (set_of r.words) (set_of s.words) f.below g.below);
    constant = xor_lt 1 r.constant s.constant f.constant g.constant;
  }

  pub sum_is : row_of n (sum r s) ≡ add (row_of n r) (row_of n s)
  sum_is =
      ap₂ (λ (l : List Bool) (c : Bool). record { atoms = l; constant = c }) (ap (atoms_of n) sum_set ∙ atoms_xor n (set_of r.words) (set_of s.words))
      (constant_sum r.constant s.constant f.constant g.constant)

  pub sum_empty : (i : ℕ) → EmptyTo r i → EmptyTo s i → EmptyTo (sum r s) i
  sum_empty i e d k h = zip_at r.words s.words k same ∙ ap₂ bit_xor (e k h) (d k h)

  -- where the words before word i are empty, the sum from there on is the whole
  pub sum_from : (i : ℕ) → EmptyTo r i → EmptyTo s i → (t : OpenRow w) → AddedFrom i r s t → t ≡ sum r s
  sum_from i e d t added =
      ap₂ (λ (l : List ℕ) (c : ℕ). record { words = l; constant = c })
      (ext_get_or 0 t.words (zip_with bit_xor r.words s.words) (added.long ∙ sym (zip_length bit_xor r.words s.words same))
      (λ k h. by k (omega (arith, h, added.long)) (ltb k i) refl ∙ sym (zip_at r.words s.words k same))) added.constant
    where
      by : (k : ℕ) → k < length r.words → (b : Bool) → ltb k i ≡ b → get_or t.words k 0 ≡ bit_xor (get_or r.words k 0) (get_or s.words k 0)
      by k h true f = let before = ltb-true k i f in added.before k before ∙ e k before ∙ sym (ap₂ bit_xor (e k before) (d k before))
      by k h false f = added.from k (ltb-false k i f) h

-- word by word
pub record AddedTo {w : ℕ} (i k : ℕ) (a other b : OpenRow w) : Type 0 where
  pub begun : i ≤ k
  pub long : length b.words ≡ length a.words
  pub before : (m : ℕ) → m < i → get_or b.words m 0 ≡ get_or a.words m 0
  pub done : (m : ℕ) → i ≤ m → m < k → get_or b.words m 0 ≡ bit_xor (get_or a.words m 0) (get_or other.words m 0)
  pub after : (m : ℕ) → k ≤ m → get_or b.words m 0 ≡ get_or a.words m 0
  pub constant : b.constant ≡ a.constant

pub added_start : {w : ℕ} (i : ℕ) (a other : OpenRow w) → AddedTo i i a other a
added_start i a other = record {
  begun = omega arith;
  long = refl;
  before = λ m h. refl;
  done = λ m h l. let z : ⊥ = omega arith in absurd z;
  after = λ m h. refl;
  constant = refl;
}

module _ {w i k : ℕ} {a other b : OpenRow w} (so : AddedTo i k a other b) where
  pub added_next : k < length b.words
      → AddedTo i (k + 1) a other (record { words = set b.words k (bit_xor (get_or b.words k 0) (get_or other.words k 0)); constant = b.constant })
  added_next h = record {
    begun = omega (arith, so.begun);
    long = length-set b.words k v ∙ so.long;
    before = λ m l. kept m (omega (arith, so.begun)) ∙ so.before m l;
    done = λ m l r. by m l r (eqb m k) refl;
    after = λ m l. kept m (omega arith) ∙ so.after m (omega arith);
    constant = so.constant;
  }
    where
      v : ℕ
      v = bit_xor (get_or b.words k 0) (get_or other.words k 0)

      kept : (m : ℕ) → (m ≡ k → ⊥) → get_or (set b.words k v) m 0 ≡ get_or b.words m 0
      kept m ne = get_or-set_other b.words k m v 0 ne

      by : (m : ℕ) → i ≤ m → m < k + 1 → (t : Bool) → eqb m k ≡ t
          → get_or (set b.words k v) m 0 ≡ bit_xor (get_or a.words m 0) (get_or other.words m 0)
      by m l r true f =
          let same = eqb-true m k f in
          rw same (get_or-set_same b.words k v 0 h ∙ ap (λ (x : ℕ). bit_xor x (get_or other.words k 0)) (so.after k (omega arith)))
      by m l r false f = let ne = eqb-false m k f in kept m ne ∙ so.done m l (omega arith)

  pub added_end : length a.words ≤ k → AddedFrom i a other (record { words = b.words; constant = bit_xor b.constant other.constant })
  added_end h = record {
    long = so.long;
    before = so.before;
    from = λ m l r. so.done m l (omega arith);
    constant = ap (λ (c : ℕ). bit_xor c other.constant) so.constant;
  }

-- ---- the lowest atom

-- that of a row whose first word that is not empty is word i
abbrev pub lowest : {w : ℕ} → ℕ → OpenRow w → ℕ
lowest i r = i * 64 + count_trailing_zeros 64 (get_or r.words i 0)

from_empty : {w : ℕ} (r : OpenRow w) (i : ℕ) → i ≤ length r.words → EmptyTo r i → From 64 r.words i
from_empty r zero h e = omega arith
from_empty r (suc i) h e =
    rw (add-one i) at (from_next 64 r.words i (omega arith) (from_empty r i (omega arith) (λ k l. e k (omega arith))) (e i (omega arith)))

module _ {n w : ℕ} (r : OpenRow w) (fit : RowFit n r) (i : ℕ) (before : EmptyTo r i) where
  -- in the first word that is not empty
  module _ (inside : i < w) (some_atom : 0 < get_or r.words i 0) where
    abbrev word : ℕ
    word = get_or r.words i 0

    place : i < length r.words
    place = omega (arith, fit.long)

    from : From 64 r.words i
    from = from_empty r i (omega (arith, place)) before

    low_at : low (set_of r.words) ≡ lowest i r
    low_at = first_at 64 r.words i place from some_atom (fit.fits i)

    positive : 0 < set_of r.words
    positive = let some : set_of r.words ≡ 0 → ⊥ = first_some 64 r.words i place from some_atom (fit.fits i) in omega arith

    pub lowest_below : lowest i r < n
    lowest_below = rw low_at at (set_below n (set_of r.words) positive fit.below)

    pub lowest_is : Lowest (row_of n r) (lowest i r)
    lowest_is = rw low_at at (set_lowest n (set_of r.words) positive fit.below (eqb r.constant 1))

    pub lowest_word : lowest i r / 64 ≡ i
    lowest_word = omega (arith, (trailing_form 64 word some_atom (fit.fits i)).below)

  -- where all are, there is none
  pub no_atom : w ≤ i → empty (row_of n r).atoms ≡ true
  no_atom h =
      let past : length r.words ≤ w = omega (arith, fit.long) in
      let from : From 64 r.words w = from_empty r w (omega (arith, fit.long)) (λ k l. before k (omega arith)) in
      let none : set_of r.words ≡ 0 = from ∙ ap (λ (x : ℕ). x * 2 ^ (w * 64)) (left_none 64 r.words w past) ∙ zero-mul (2 ^ (w * 64)) in
      empty_none (row_of n r) (λ a. atoms_none n (set_of r.words) a (rw none (has_none a)))
