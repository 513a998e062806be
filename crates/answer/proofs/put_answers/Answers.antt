-- The line of the system, then those of the calls.
use Rattle.std.proofs.Common.{rules}
use Rattle.answer.proofs.Written.{answers_put, prepared_is}
use Rattle.answer.proofs.put_answers.Goals as goal

pub unwrap-prepared-requires : goal.unwrap-prepared-requires
unwrap-prepared-requires c =
    let a = c.args in
    let ok = prepared_is a.checked.atoms a.checked.rows a.rows.now a.constants.now c.requires c.prepare.ensures in
    search rules

pub returns : goal.returns
returns c =
    let a = c.args in
    answers_put a.checked.atoms a.checked.rows a.rows.now a.constants.now c.requires c.prepare.ensures a.file.now c.unwrap-prepared.ensures c.put_system.ensures
    (rw (c.checked-system.ensures.system, c.checked-system.ensures.memory) at c.put_lines.ensures)
