-- What `load` leaves of a file that is taken: its rows, and they are fit.
use Prim.Native.Nat.{ℕ, ◌*◌, ◌≤◌}
use mathlib.Core.Path.{◌≡◌, refl, sym, ap, ◌∙◌}
use mathlib.Core.List.{List}
use mathlib.Core.Bool.{false}
use native.Mathlib.Nat.{mul-le-mul_right}
use native.Mathlib.Omega.{arith}
use lib.ListN.{length, drop, length-append, length-reverse}
use Rattle.std.proofs.Common.{Result, Ok, Err}
use Rattle.rows.specs.Flat.{width_of}
use Rattle.fit.specs.Rows.{rows_check}
use Rattle.fit.proofs.Fitting.{Fit, joined_none, fit_joined}
use Rattle.echelon.specs.Eliminate.{rows_to, words_of, constants_of}
use Rattle.echelon.specs.Promises.{Sized}
use Rattle.echelon.proofs.Written.{words_length, constants_length, fit_words, fit_constants}
use Rattle.embed.specs.Parts.{all_rows}
use Rattle.record.specs.declared.Fault.{Fault}
use Rattle.records.specs.Check.{check_of}
use Rattle.records.specs.declared.Checked.{Checked}
use Rattle.records.proofs.Whole.{file_within}
use Rattle.load.specs.Parts.{parts_of}
use Rattle.load.specs.Load.{file_rows, Outcome, filled, load_of}
use Rattle.load.specs.Promises.{answer_for, LoadHasRoom, LoadHandsIn, LoadFits}
use Rattle.load.proofs.Inserted.{wide}
use Rattle.load.proofs.Handed.{sized_rows, sized_reverse, rows_back}
use Rattle.load.proofs.Whole.{parts_fit, parts_counted, enough, load_unfit, load_fit}

pub load_has_room : LoadHasRoom
load_has_room file ws cs words constants = go (check_of file) refl
  where
    go : (r : Result Checked Fault) → r ≡ check_of file → (load_of file ws cs).result ≡ answer_for (check_of file)
    go (Ok c) e =
        let within = file_within file c (sym e) in
        let room : c.rows * width_of c.atoms ≤ length ws = omega (arith, within.0, mul-le-mul_right (width_of c.atoms) within.1) in
        sym (ap (λ (x : Outcome). x.result) (load_fit file ws cs c e (enough c.atoms c.rows ws cs room (omega (arith, within.1))))) ∙ ap answer_for e
    go (Err fault) e = sym (ap (λ (x : Outcome). x.result) (load_unfit file ws cs fault e)) ∙ ap answer_for e

module _ (file : List ℕ) (c : Checked) (e : check_of file ≡ Ok c) where
  abbrev n : ℕ
  n = c.atoms

  abbrev m : ℕ
  m = c.rows

  abbrev w : ℕ
  w = width_of n

  count : length (file_rows file n) ≡ m
  count = length-reverse (all_rows n (parts_of file n)) ∙ parts_counted file c e

  sized : Sized n (file_rows file n)
  sized = sized_reverse n (all_rows n (parts_of file n)) (sized_rows n (parts_of file n) (parts_fit file c e))

  filled_rows : (ws cs : List ℕ) → rows_to n w (filled file c ws cs).rows (filled file c ws cs).constants m ≡ file_rows file n
  filled_rows ws cs =
      ap (rows_to n w (filled file c ws cs).rows (filled file c ws cs).constants) (sym count)
      ∙ rows_back n w (file_rows file n) (drop (m * w) ws) (drop m cs) sized (wide n)

  filled_fit : (ws cs : List ℕ) → Fit n m (filled file c ws cs).rows (filled file c ws cs).constants
  filled_fit ws cs =
      let rows = file_rows file n in
      let p = words_of w rows in
      let k = constants_of rows in
      let within = file_within file c e in
      let size : length p ≡ m * w = words_length w rows ∙ ap (λ (i : ℕ). i * w) count in
      record {
        atoms = within.0;
        rows = within.1;
        words = omega (arith, size, length-append p (drop (m * w) ws));
        constants = omega (arith, constants_length rows, count, length-append k (drop m cs));
        clean = λ r h. fit_words n w rows sized (wide n) (drop (m * w) ws) r (omega (arith, count));
        small = λ r h. fit_constants rows (drop m cs) r (omega (arith, count));
      }

pub load_hands_in : LoadHandsIn
load_hands_in file c ws cs e f =
    ap (λ (x : Outcome). rows_to c.atoms (width_of c.atoms) x.rows x.constants c.rows) (sym (load_fit file ws cs c (sym e) f))
    ∙ filled_rows file c e ws cs

pub load_fits : LoadFits
load_fits file c ws cs e f =
    let left = filled file c ws cs in
    ap (λ (x : Outcome). rows_check c.atoms c.rows x.rows x.constants) (sym (load_fit file ws cs c (sym e) f))
    ∙ joined_none c.atoms c.rows left.rows left.constants ∙ fit_joined c.atoms c.rows left.rows left.constants false (filled_fit file c e ws cs) refl
