-- `w & (w - 1)` is the word without its lowest bit, so one atom fewer is left
use Rattle.std.proofs.Common.{◌<◌, ◌^◌, sym, ap₂, arith, rules}
use Rattle.std.specs.Prelude.{Some}
use borrow.Author.Tests.{ne_eqb}
use Rattle.words.proofs.Lowest.{low_word, clear_low}
use Rattle.words.proofs.Meaning.{ones_less}
use Rattle.words.proofs.SetBitsIterator.next.Goals as goal

pub returns-clause-steps : goal.returns-clause-steps
returns-clause-steps c =
    let w = c.args.self.now.remaining in
    let some : 0 < w = omega arith in
    let fits : w < 2 ^ 64 = search rules in
    simp (ne_eqb _ _ c.if-word-eq0.false) (ap₂ (λ t n. (Some t, record { remaining = n })) (sym (low_word 64 w some fits)) (clear_low w some))

pub returns-clause-goes : goal.returns-clause-goes
returns-clause-goes c =
    let w = c.args.self.now.remaining in
    let some : 0 < w = omega arith in
    let fewer = rw (← clear_low w some) at (ones_less w some) in
    record { on = λ h. (tt, h, omega (arith, fewer)); keeps = tt; rests = λ h. tt }
