-- What preparation leaves is fit to be lent again: its rows, the basis that names them, and where sound an index with no bit from the rank on.
use Prim.Native.Nat.{ℕ, ◌+◌, ◌-◌, ◌*◌, ◌^◌, ◌≤◌, ◌<◌, min}
use mathlib.Core.Path.{◌≡◌, refl, sym, ap, ◌∙◌}
use mathlib.Core.List.{List, ◌++◌}
use mathlib.Core.Bool.{Bool, true, false, true≢false}
use native.Mathlib.Nat.{add-zero, le_trans, mul-le-mul_right}
use native.Mathlib.Omega.{arith}
use borrow.Author.Tests.{ltb-true, ltb-false}
use lib.ListN.{length, get_or, drop, length-append, length-drop, length-map}
use lib.Seq.{drop_at, drop-drop, get_or-drop}
use lib.Dec.{ltb}
use Rattle.words.specs.Set.{set_of}
use Rattle.rows.specs.Flat.{width_of, row}
use Rattle.std.specs.Prelude.{Ok}
use Rattle.fit.specs.Rows.{rows_check}
use Rattle.fit.proofs.Fitting.{Fit, joined_none, fit_joined}
use Rattle.index.specs.Index.{column_width}
use Rattle.echelon.specs.Eliminate.{words_of, constants_of}
use Rattle.echelon.specs.Promises.{Sized, numbered}
use Rattle.echelon.proofs.Left.{left_sized, rows_le}
use Rattle.echelon.proofs.Basis.{basis_below}
use Rattle.echelon.proofs.Written.{words_length, constants_length, fit_words, fit_constants}
use Rattle.echelon.proofs.Upto.{rows_sized, rows_length}
use Rattle.parity.specs.Prepare.{Lent, followed}
use Rattle.parity.specs.Promises.{handed_in, Fits, PrepareFits}
use Rattle.parity.proofs.Usable.{rank_few}
use Rattle.parity.proofs.Whole.{Room, room, index_holds}
use Rattle.parity.proofs.Leaving.{st, left, entry_is, basis_is, of_both}
use Rattle.parity.proofs.Telling.{columns_long, columns_below}

-- ---- a list whose first k places are written: no shorter, and from k on as it was

module _ (p l : List ℕ) (k : ℕ) (long : length p ≡ k) where
  over_length : length l ≤ length (p ++ drop k l)
  over_length = simp (length-append, length-drop) (omega arith)

  over_drop : (i : ℕ) → k ≤ i → drop i (p ++ drop k l) ≡ drop i l
  over_drop i h =
      let parts : i ≡ k + (i - k) = omega arith in
      ap (λ (j : ℕ). drop j (p ++ drop k l)) parts ∙ sym (drop-drop (i - k) k (p ++ drop k l))
      ∙ ap (drop (i - k)) (drop_at p (drop k l) k long)
      ∙ drop-drop (i - k) k l ∙ ap (λ (j : ℕ). drop j l) (sym parts)

  over_at : (i : ℕ) → k ≤ i → get_or (p ++ drop k l) i 0 ≡ get_or l i 0
  over_at i h =
      rw (add-zero i) at (sym (get_or-drop i (p ++ drop k l) 0 0) ∙ ap (λ (q : List ℕ). get_or q 0 0) (over_drop i h) ∙ get_or-drop i l 0 0)

-- ---- the rows, basis and index left

module _ (n m : ℕ) (l : Lent) (room : Room n m l) where
  abbrev w : ℕ
  w = width_of n

  abbrev done : ℕ
  done = length (st n m l).rows

  sized : Sized n (st n m l).rows
  sized = left_sized n (handed_in n m l) (rows_sized n w l.rows l.constants m)

  wide : n ≤ w * 64
  wide = omega arith

  -- the rows done are those of the state, and the rows after one that refutes are as lent
  clean : (r : ℕ) → r < m → (b : Bool) → ltb r done ≡ b → set_of (row w (left n m l).rows r) < 2 ^ n
  clean r h true e = fit_words n w (st n m l).rows sized wide (drop (done * w) l.rows) r (ltb-true r done e)
  clean r h false e =
      let past = mul-le-mul_right w (ltb-false r done e) in
      rw (over_drop (words_of w (st n m l).rows) l.rows (done * w) (words_length w (st n m l).rows) (r * w) past) (room.fit.clean r h)

  small : (r : ℕ) → r < m → (b : Bool) → ltb r done ≡ b → get_or (left n m l).constants r 0 < 2
  small r h true e = fit_constants (st n m l).rows (drop done l.constants) r (ltb-true r done e)
  small r h false e =
      rw (over_at (constants_of (st n m l).rows) l.constants done (constants_length (st n m l).rows) r (ltb-false r done e)) (room.fit.small r h)

  rows_fit : Fit n m (left n m l).rows (left n m l).constants
  rows_fit = record {
    atoms = room.fit.atoms;
    rows = room.fit.rows;
    words = le_trans room.fit.words (over_length (words_of w (st n m l).rows) l.rows (done * w) (words_length w (st n m l).rows));
    constants = le_trans room.fit.constants (over_length (constants_of (st n m l).rows) l.constants done (constants_length (st n m l).rows));
    clean = λ r h. clean r h (ltb r done) refl;
    small = λ r h. small r h (ltb r done) refl;
  }

  rows_taken : rows_check n m (left n m l).rows (left n m l).constants ≡ Ok tt
  rows_taken =
      let ws = (left n m l).rows in
      let cs = (left n m l).constants in
      joined_none n m ws cs ∙ fit_joined n m ws cs false rows_fit refl

  basis_long : min m n ≤ length (left n m l).basis
  basis_long = le_trans room.basis (over_length (st n m l).basis l.basis (length (st n m l).basis) refl)

  basis_names : (j : ℕ) → j < length (st n m l).basis → get_or (left n m l).basis j 0 < m
  basis_names j h =
      omega (
        arith,
        entry_is n m l j h,
        basis_below n (handed_in n m l) j h,
        rows_le n (handed_in n m l),
        rows_length n w l.rows l.constants m,
      )

  fits : (b : Bool) → (st n m l).refuted ≡ b → Fits n m (followed b n m l (left n m l))
  fits true e = record {
    atoms = refl;
    rows = refl;
    fit = rows_taken;
    ranked = rank_few n m l.rows l.constants;
    entries = basis_long;
    named = basis_names;
    columns = index_holds n m l (length (st n m l).basis) room (rank_few n m l.rows l.constants);
    bits = λ f. absurd (true≢false f);
  }
  fits false e =
      let rank = length (st n m l).basis in
      let ranked = ap length (basis_is n m l) ∙ length-map (st n m l).basis (numbered (st n m l).rows) in
      let rest = drop (n * column_width rank) l.index in
      record {
        atoms = refl;
        rows = refl;
        fit = rows_taken;
        ranked = rank_few n m l.rows l.constants;
        entries = basis_long;
        named = basis_names;
        columns = columns_long n rank _ ranked rest;
        bits = λ f. columns_below n rank _ ranked rest;
      }

-- ---- the promise

pub prepare_fits : PrepareFits
prepare_fits n m l fit = of_both n m l (Fits n m) (fits n m l (room n m l fit))
