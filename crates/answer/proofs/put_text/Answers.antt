-- By what `load` answers.
use Rattle.answer.proofs.Written.{refusal_put, text_put, rows_fit}
use Rattle.answer.proofs.put_text.Goals as goal

pub put_answers-requires : goal.put_answers-requires
put_answers-requires c = rows_fit c.args.file.now c.load.ensures c.in-Ok.is

pub returns-in-Ok : goal.returns-in-Ok
returns-in-Ok c = text_put c.args.file.now c.load.ensures c.in-Ok.is c.put_answers.ensures

pub returns-in-Err : goal.returns-in-Err
returns-in-Err c = refusal_put c.args.file.now c.load.ensures c.in-Err.is c.put_refusal.ensures
