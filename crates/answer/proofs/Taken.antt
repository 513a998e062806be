-- A file that is taken has rows within the memory that the program lends, and preparation takes them.
use Prim.Native.Nat.{ℕ, ◌*◌, ◌≤◌, min}
use mathlib.Core.Path.{◌≡◌, ap, sym, ◌∙◌}
use mathlib.Core.List.{List}
use mathlib.Core.Bool.{false}
use native.Mathlib.Nat.{mul-le-mul}
use native.Mathlib.Omega.{arith}
use borrow.Author.Tests.{le-ltb}
use lib.ListN.{length-replicate}
use Rattle.std.proofs.Common.{Ok}
use Rattle.rows.specs.Flat.{width_of}
use Rattle.refusal.specs.Refusal.{answered, left}
use Rattle.fit.specs.Rows.{short}
use Rattle.fit.proofs.Fitting.{Fit, joined_none, joined_fit, fit_joined}
use Rattle.index.specs.Index.{column_width}
use Rattle.parity.specs.Prepare.{Lent, lists_short, prepare_check, prepared, prepare_of}
use Rattle.records.specs.Check.{check_of}
use Rattle.records.specs.declared.Checked.{Checked}
use Rattle.records.proofs.Whole.{file_within}
use Rattle.load.specs.Load.{load_of}
use Rattle.load.proofs.Whole.{enough}
use Rattle.load.proofs.Promised.{load_fits}
use Rattle.answer.specs.Text.{no_words, no_entries, memory_of}

lists_enough : (n m : ℕ) → n ≤ 512 → lists_short n m 512 512 512 4096 ≡ false
lists_enough n m few =
    let entries : min m n ≤ 512 = omega arith in
    let width : column_width (min m n) ≤ 8 = omega arith in
    let words : n * column_width (min m n) ≤ 512 * 8 = mul-le-mul few width in
    simp (le-ltb 512 (min m n) entries, le-ltb 4096 (n * column_width (min m n)) words)

module _ (file : List ℕ) (c : Checked) (taken : check_of file ≡ Ok c) where
  pub loaded_enough : short c.atoms c.rows no_words no_entries ≡ false
  loaded_enough =
      let within = file_within file c taken in
      let width : width_of c.atoms ≤ 8 = omega (arith, within.0) in
      let words : c.rows * width_of c.atoms ≤ 512 * 8 = mul-le-mul within.1 width in
      enough c.atoms c.rows no_words no_entries
      (omega (arith, words, length-replicate {A = ℕ} 4096 0)) (omega (arith, within.1, length-replicate {A = ℕ} 512 0))

  pub rows_taken : let o = load_of file no_words no_entries in prepare_check c.atoms c.rows (memory_of o.rows o.constants) ≡ Ok tt
  unfolding prepare_check
  rows_taken =
      let n = c.atoms in
      let m = c.rows in
      let ws = (load_of file no_words no_entries).rows in
      let cs = (load_of file no_words no_entries).constants in
      let fit : Fit n m ws cs = (joined_fit n m ws cs false (sym (joined_none n m ws cs) ∙ load_fits file c no_words no_entries taken loaded_enough)).0 in
      fit_joined n m ws cs (lists_short n m 512 512 512 4096) fit (lists_enough n m fit.atoms)

-- what is taken is answered
pub prepare_taken : (n m : ℕ) (l : Lent) → prepare_check n m l ≡ Ok tt → prepare_of n m l ≡ (Ok (prepared n m l).0, (prepared n m l).1)
unfolding prepare_of
prepare_taken n m l e = ap (λ check. (answered check (prepared n m l).0, left check (prepared n m l).1 l)) e
