-- What elimination leaves can be read: each basis entry names a fit row.
use Prim.Native.Nat.{ℕ, ◌*◌, ◌≤◌, ◌<◌, min}
use mathlib.Core.List.{List, ◌++◌}
use native.Mathlib.Omega.{arith}
use lib.ListN.{length, get_or, drop, length-append, get_or-append}
use Rattle.rows.specs.Flat.{width_of}
use Rattle.echelon.specs.Forward.{State, eliminated}
use Rattle.echelon.specs.Eliminate.{rows_to, words_of, constants_of}
use Rattle.echelon.specs.Promises.{Sized}
use Rattle.echelon.proofs.Left.{rows_le, left_sized}
use Rattle.echelon.proofs.Basis.{rank_rows, basis_below}
use Rattle.echelon.proofs.Solutions.{rank_le}
use Rattle.echelon.proofs.Written.{words_length, constants_length, fit_words, fit_constants}
use Rattle.echelon.proofs.Upto.{rows_sized, rows_length}
use Rattle.rows.proofs.Adding.{earlier}
use Rattle.parity.specs.Named.{Named}

pub rank_few : (n m : ℕ) (ws cs : List ℕ) → length (eliminated n (rows_to n (width_of n) ws cs m)).basis ≤ min m n
rank_few n m ws cs =
    let rs = rows_to n (width_of n) ws cs m in
    omega (arith, rank_le n rs (rows_sized n (width_of n) ws cs m), rank_rows n rs, rows_le n rs, rows_length n (width_of n) ws cs m)

module _ (n m : ℕ) (ws cs ps : List ℕ) (atoms : n ≤ 512) (room : min m n ≤ length ps) where
  abbrev w : ℕ
  w = width_of n

  abbrev st : State
  st = eliminated n (rows_to n (width_of n) ws cs m)

  sized : Sized n st.rows
  sized = left_sized n (rows_to n (width_of n) ws cs m) (rows_sized n (width_of n) ws cs m)

  wide : n ≤ w * 64
  wide = omega arith

  entry : (j : ℕ) → j < length st.basis → get_or (st.basis ++ drop (length st.basis) ps) j 0 < length st.rows
  entry j h = rw (get_or-append st.basis (drop (length st.basis) ps) 0 j h) (basis_below n (rows_to n (width_of n) ws cs m) j h)

  pub left_named : Named n (length st.basis) (words_of w st.rows ++ drop (length st.rows * w) ws) (constants_of st.rows ++ drop (length st.rows) cs)
      (st.basis ++ drop (length st.basis) ps)
  left_named = record {
    ranked = omega (arith, rank_few n m ws cs);
    entries = simp length-append (omega arith);
    legible = λ j h.
        let e = entry j h in
        let s = get_or (st.basis ++ drop (length st.basis) ps) j 0 in
        let long = length-append (words_of w st.rows) (drop (length st.rows * w) ws) in
        let long' = length-append (constants_of st.rows) (drop (length st.rows) cs) in
        record {
          atoms = atoms;
          words = omega (arith, earlier w (length st.rows) s e, words_length w st.rows);
          constants = omega (arith, constants_length st.rows);
          below = fit_words n w st.rows sized wide (drop (length st.rows * w) ws) s e;
          constant = fit_constants st.rows (drop (length st.rows) cs) s e;
        };
  }
