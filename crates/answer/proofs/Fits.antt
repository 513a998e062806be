-- The text of every file has room.
use Prim.Native.Nat.{ℕ, ◌+◌, ◌*◌, ◌≤◌}
use mathlib.Core.Path.{◌≡◌, refl}
use mathlib.Core.List.{List}
use native.Mathlib.Omega.{arith}
use borrow.Author.Tests.{leb-true}
use lib.ListN.{length, length-append}
use lib.Dec.{leb}
use Rattle.std.proofs.Common.{Result, Ok, Err}
use Rattle.parity.specs.Prepare.{prepared}
use Rattle.inspect.specs.Promises.{filled_by}
use Rattle.inspect.specs.Run.{begins}
use Rattle.format.specs.Starts.{starts}
use Rattle.record.specs.Fault.{unless}
use Rattle.record.specs.declared.Fault.{Fault}
use Rattle.record.specs.declared.FaultKind.TheVariants.{TooLong}
use Rattle.record.proofs.Chain.{passes, holds}
use Rattle.records.specs.Check.{nothing_seen, file_limit, check_of}
use Rattle.records.specs.declared.Checked.{Checked}
use Rattle.records.proofs.Whole.{none, file_within}
use Rattle.load.specs.Load.{load_of}
use Rattle.lines.specs.Lines.{lines_from}
use Rattle.answer.specs.Text.{system_line, no_words, no_entries, memory_of, answers_of, told, text_of}
use Rattle.answer.specs.Answer.{room_of}
use Rattle.answer.specs.Promises.{TextFits}
use Rattle.answer.proofs.Systems.{prepared_bounded}
use Rattle.answer.proofs.Refusals.{Near, check_near}
use Rattle.answer.proofs.Lengths.{refused_long, system_long, lines_long}

-- a file that is taken is not too long
taken_few : (file : List ℕ) (c : Checked) → check_of file ≡ Ok c → length file ≤ file_limit
unfolding check_of
taken_few file c e = leb-true _ _ (holds _ TooLong file_limit (passes (unless (leb (length file) file_limit) TooLong file_limit) _ c e).0)

answers_long : (file : List ℕ) (c : Checked) (ws cs : List ℕ) → check_of file ≡ Ok c → length (answers_of file c.atoms c.rows ws cs) ≤ 64 + length file * 8
unfolding answers_of
answers_long file c ws cs e =
    let p = prepared c.atoms c.rows (memory_of ws cs) in
    let within = file_within file c e in
    let line = system_line p.0 in
    let lines = lines_from file p.0.system (filled_by p.1) (begins p.0.system.atoms) (starts file 0) in
    omega (
      arith,
      length-append line lines,
      system_long p.0 (prepared_bounded c.atoms c.rows (memory_of ws cs) within.0 within.1),
      lines_long file p.0.system (filled_by p.1) c (length file) 0 (begins p.0.system.atoms) nothing_seen (omega arith) (omega arith) (none file c e),
    )

pub text_fits : TextFits
unfolding text_of
text_fits file = by (check_of file) refl (check_near file)
  where
    by : (r : Result Checked Fault) → check_of file ≡ r → Near r → length (told file r) ≤ room_of (length file)
    by (Ok c) e near = let o = load_of file no_words no_entries in omega (arith, taken_few file c e, answers_long file c o.rows o.constants e)
    by (Err fault) e near = omega (arith, refused_long fault near.offset)
