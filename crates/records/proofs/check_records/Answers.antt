use Rattle.std.proofs.Common.{sym, ap, ◌∙◌}
use Rattle.std.proofs.lemmas.Result.{err_from_is_err_and}
use Rattle.records.specs.Check.{step_of}
use Rattle.records.proofs.Turns.{fold_stop, fold_more, fold_end}
use Rattle.records.proofs.check_records.Goals as goal

pub returns-in_err-seen : goal.returns-in_err-seen
returns-in_err-seen c =
    let kept = c.loop-record.invariant in
    let steps = c.in-Some.ensures.steps in
    let step = sym (c.check_record.ensures ∙ ap (λ r. step_of r.file.now c.loop-record.seen r.offset) steps.1) ∙ c.in_err-seen.was in
    let p = err_from_is_err_and c.from_residual.result c.from_residual.ensures.1 in
    rw (p.1, p.2) (fold_stop c.loop-record.record-iterator.next kept.same_file steps.0 _ _ step ∙ kept.same)

pub loop-record-preserved : goal.loop-record-preserved
loop-record-preserved c =
    let kept = c.loop-record.invariant in
    let steps = c.in-Some.ensures.steps in
    let step = sym (c.check_record.ensures ∙ ap (λ r. step_of r.file.now c.loop-record.seen r.offset) steps.1) ∙ c.in_ok-seen.was in
    record {
      same_file = ap (λ r. r.file.now) steps.2 ∙ kept.same_file;
      same = fold_more c.loop-record.record-iterator.next kept.same_file steps.0 _ _ step _ steps.2 ∙ kept.same;
    }

pub returns : goal.returns
returns c =
    let kept = c.loop-record.invariant in
    fold_end c.loop-record.record-iterator.next kept.same_file c.in-None.ensures.steps _ ∙ kept.same
