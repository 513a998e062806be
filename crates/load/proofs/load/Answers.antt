-- The check, the room, then the rows.
use Rattle.std.proofs.Common.{◌≡◌, Result, Ok, Err, sym, ap, ◌∙◌, arith, rules}
use Rattle.std.specs.Result.{IsErrAnd}
use native.Mathlib.Nat.{mul-le-mul_right}
use Rattle.record.specs.declared.Fault.{Fault}
use Rattle.records.specs.declared.Checked.{Checked}
use Rattle.load.specs.Load.{outcome}
use Rattle.load.specs.declared.LoadError.{LoadError}
use Rattle.load.specs.declared.LoadError.TheVariants.{Unfit}
use Rattle.records.proofs.Whole.{file_fit, file_within}
use Rattle.load.proofs.Whole.{few_words, few_constants, load_unfit, load_short, load_room, load_done}
use Rattle.load.proofs.load.Goals as goal
use Rattle.load.proofs.load.Goals.{then-rows-count-via-then-rows-count, then-rows-count-via-else-rows-count+then-constants-count}

told : (fault : Fault) (r : Result Checked LoadError) → IsErrAnd r (λ e. e ≡ Unfit fault) → r ≡ Err (Unfit fault)
told fault (Ok c) h = absurd h
told fault (Err e) h = ap (λ (x : LoadError). Err x) h

pub returns-in_err-checked : goal.returns-in_err-checked
returns-in_err-checked c =
    ap (λ (r : Result Checked LoadError). outcome r c.args.rows.now c.args.constants.now) (told _ _ c.from_residual.ensures.1)
    ∙ load_unfit _ _ _ _ (sym c.in_err-checked.was ∙ c.check.ensures)

pub overflow_mul-count : goal.overflow_mul-count
overflow_mul-count c =
    let within = file_within _ _ (sym c.in_ok-checked.ensures) in
    omega (arith, c.width.ensures, within, mul-le-mul_right c.width.result within.1)

pub returns-then-rows-count : goal.returns-then-rows-count
returns-then-rows-count c = load_short _ _ _ _ c.in_ok-checked.ensures (grind (arith, few_words, few_constants))

pub put_records-requires-clause-fit : goal.put_records-requires-clause-fit
put_records-requires-clause-fit c = grind (arith, file_fit)

pub put_records-requires-clause-room : goal.put_records-requires-clause-room
put_records-requires-clause-room c = load_room _ _ _ _ c.in_ok-checked.ensures (rw c.width.ensures at c.if-rows-count.false) c.if-constants-count.false

pub returns : goal.returns
returns c =
    let done = load_done _ _ _ _ c.in_ok-checked.ensures (rw c.width.ensures at c.if-rows-count.false) c.if-constants-count.false c.put_records.ensures.loaded in
    search rules
