-- The lines put one after another are the text of a file.
use Rattle.std.proofs.Common.{◌≡◌, ℕ, ◌≤◌, List, ◌++◌, length, drop, Result, Ok, Err, sym, ap, ap₂, ◌∙◌, arith}
use native.Mathlib.Nat.{zero-add}
use borrow.Author.Tests.{le-ltb}
use lib.ListN.{length-replicate}
use Rattle.refusal.specs.declared.Refusal.{Refusal}
use Rattle.parity.specs.Prepare.{Lent, prepare_check, prepared, prepare_of}
use Rattle.parity.specs.declared.Prepared.{Prepared}
use Rattle.inspect.specs.Promises.{filled_by}
use Rattle.inspect.specs.Run.{begins}
use Rattle.format.specs.Starts.{starts}
use Rattle.record.specs.declared.Fault.{Fault}
use Rattle.records.specs.Check.{check_of}
use Rattle.records.specs.declared.Checked.{Checked}
use Rattle.load.specs.Load.{Outcome as Loaded, outcome as loaded, load_of}
use Rattle.load.specs.Promises.{answer_for}
use Rattle.load.specs.declared.LoadError.{LoadError}
use Rattle.load.specs.declared.LoadError.TheVariants.{Unfit}
use Rattle.load.proofs.Promised.{load_has_room}
use Rattle.text.specs.Text.{Wrote}
use Rattle.text.specs.Puts.{Puts}
use Rattle.text.specs.declared.Text.{Text}
use Rattle.text.proofs.Written.{wrote_whole}
use Rattle.text.proofs.Puts.{puts_both, puts_is}
use Rattle.lines.specs.Lines.{lines_from}
use Rattle.answer.specs.Text.{refusal_line, system_line, no_words, no_entries, memory_of, answers_of, told, text_of}
use Rattle.answer.specs.Answer.{room_of, outcome, answer_of}
use Rattle.answer.proofs.Fits.{text_fits}
use Rattle.answer.proofs.Taken.{rows_taken, prepare_taken}

module _ (n m : ℕ) (ws cs : List ℕ) (fit : prepare_check n m (memory_of ws cs) ≡ Ok tt) {r : Result Prepared Refusal} {q : Lent}
    (e : (r, q) ≡ prepare_of n m (memory_of ws cs)) where
  pub prepared_is : r ≡ Ok (prepared n m (memory_of ws cs)).0
  prepared_is = ap (λ (x : Result Prepared Refusal × Lent). x.0) (e ∙ prepare_taken n m (memory_of ws cs) fit)

  pub answers_put : (file : List ℕ) {p : Prepared} {t u v : Text} → r ≡ Ok p → Puts t (system_line p) u
      → Puts u (lines_from file p.system (filled_by q) (begins p.system.atoms) (starts file 0)) v → Puts t (answers_of file n m ws cs) v
  unfolding answers_of
  answers_put file {p} is v w =
      let done : p ≡ (prepared n m (memory_of ws cs)).0 = let both = sym is ∙ prepared_is in cc in
      let memory = ap (λ (x : Result Prepared Refusal × Lent). x.1) (e ∙ prepare_taken n m (memory_of ws cs) fit) in
      puts_is
      (ap₂ (λ (x : Prepared) (y : Lent). system_line x ++ lines_from file x.system (filled_by y) (begins x.system.atoms) (starts file 0)) done memory)
      (puts_both v w)

-- after a file is loaded
module _ (file : List ℕ) {r : Result Checked LoadError} {ws cs : List ℕ} (e : loaded r ws cs ≡ load_of file no_words no_entries) where
  said : r ≡ answer_for (check_of file)
  said =
      ap (λ (o : Loaded). o.result) e
      ∙ load_has_room file no_words no_entries (omega (arith, length-replicate {A = ℕ} 4096 0)) (omega (arith, length-replicate {A = ℕ} 512 0))

  checked_as : (x : Result Checked Fault) → answer_for x ≡ r → (c : Checked) → r ≡ Ok c → x ≡ Ok c
  checked_as (Ok d) f c g = cc
  checked_as (Err d) f c g = absurd (cc)

  refused_as : (x : Result Checked Fault) → answer_for x ≡ r → (error : LoadError) → r ≡ Err error → refusal_line error ≡ told file x
  refused_as (Ok d) f error g = absurd (cc)
  refused_as (Err d) f error g = let same : error ≡ Unfit d = cc in ap refusal_line same

  pub refusal_put : {error : LoadError} {t u : Text} → r ≡ Err error → Puts t (refusal_line error) u → Puts t (text_of file) u
  unfolding text_of
  refusal_put {error} is w = puts_is (refused_as (check_of file) (sym said) error is) w

  pub rows_fit : {c : Checked} → r ≡ Ok c → prepare_check c.atoms c.rows (memory_of ws cs) ≡ Ok tt
  rows_fit {c} is =
      ap (λ (o : Loaded). prepare_check c.atoms c.rows (memory_of o.rows o.constants)) e ∙ rows_taken file c (checked_as (check_of file) (sym said) c is)

  pub text_put : {c : Checked} {t u : Text} → r ≡ Ok c → Puts t (answers_of file c.atoms c.rows ws cs) u → Puts t (text_of file) u
  unfolding text_of
  text_put {c} is w =
      puts_is
      (ap (λ (o : Loaded). answers_of file c.atoms c.rows o.rows o.constants) e ∙ sym (ap (told file) (checked_as (check_of file) (sym said) c is)))
      w

-- with the room that is asked
module _ (file : List ℕ) {l m : List ℕ} {q : ℕ} (room : room_of (length file) ≤ length l) (w : Wrote l 0 (text_of file) m q) where
  fits : length (text_of file) ≤ length l
  fits = omega (arith, room, text_fits file)

  pub answered_whole : outcome (Ok q) m ≡ answer_of file l
  unfolding answer_of
  answered_whole =
      let text = text_of file in
      let whole = wrote_whole l text m 0 q w (omega (arith, fits)) in
      let size : q ≡ length text = omega (arith, whole.0) in
      rw (le-ltb (length l) (room_of (length file)) room)
      (ap₂ (λ (k : ℕ) (x : List ℕ). outcome (Ok k) x) size
      (whole.1 ∙ ap (λ (k : ℕ). text ++ drop k l) (zero-add (length text))))
