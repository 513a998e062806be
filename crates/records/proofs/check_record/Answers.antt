use Rattle.std.proofs.Common.{sym, ◌∙◌}
use Rattle.format.proofs.KindNumbers.{kind_named}
use Rattle.record.proofs.Ordered.{ordered, sized}
use Rattle.records.proofs.check_record.Goals as goal

pub rows_in-requires-clause-named : goal.rows_in-requires-clause-named
rows_in-requires-clause-named c = kind_named _ _ (ordered _ _ _ _ (sym c.check_kind.ensures ∙ c.in_ok-kind.was)).0

pub rows_in-requires-clause-small : goal.rows_in-requires-clause-small
rows_in-requires-clause-small c = λ is. sized _ _ _ is (sym c.check_size.ensures ∙ c.in_ok-check_size.was)
