-- The rows of a record of each kind.
use Rattle.std.proofs.Common.{sym, ◌∙◌, arith}
use Rattle.load.proofs.Filled.{of_row, of_table, of_other, of_unknown, adds_none}
use Rattle.load.proofs.Filling.put_record.Goals as goal

pub returns-in_default : goal.returns-in_default
returns-in_default c = adds_none c.args.self.now (of_unknown _ _ _ (sym c.in_default.is ∙ c.kind.ensures))

pub put_row-requires-clause-room : goal.put_row-requires-clause-room
put_row-requires-clause-room c = grind (arith, of_row)

pub put_table-requires-clause-room : goal.put_table-requires-clause-room
put_table-requires-clause-room c = grind (arith, of_table)

pub returns-in-Row : goal.returns-in-Row
returns-in-Row c = grind (arith, of_row)

pub returns-in-Table : goal.returns-in-Table
returns-in-Table c = grind (arith, of_table)

pub returns-in_default-kind : goal.returns-in_default-kind
returns-in_default-kind c = adds_none c.args.self.now (of_other _ _ _ c.in-Ok.ensures c.in_default-kind.not-Row c.in_default-kind.not-Table)
