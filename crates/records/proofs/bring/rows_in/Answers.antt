use Rattle.std.proofs.Common.{sym, ◌∙◌, rules}
use Rattle.format.proofs.Tables.{table_fit}
use Rattle.records.proofs.Brought.{table_brings}
use Rattle.records.proofs.bring.rows_in.Goals as goal

pub unwrap-hull-requires : goal.unwrap-hull-requires
unwrap-hull-requires c =
    let fit = c.table.ensures ∙ table_fit c.args.at.file.now c.args.at.offset (c.requires.small c.in-Table.is) in
    search rules

pub returns-in_err-unless-in-Table : goal.returns-in_err-unless-in-Table
returns-in_err-unless-in-Table c =
    let brings = table_brings c.args.at.file.now c.args.at.offset c.unwrap-hull.result (c.requires.named ∙ cc) (c.requires.small c.in-Table.is) (sym c.table.ensures ∙ c.unwrap-hull.ensures) in
    rw (← brings) (search rules)

pub returns-in_ok-unless-in-Table : goal.returns-in_ok-unless-in-Table
returns-in_ok-unless-in-Table c =
    let brings = table_brings c.args.at.file.now c.args.at.offset c.unwrap-hull.result (c.requires.named ∙ cc) (c.requires.small c.in-Table.is) (sym c.table.ensures ∙ c.unwrap-hull.ensures) in
    rw (← brings) (search rules)
