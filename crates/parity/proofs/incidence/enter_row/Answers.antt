-- `enter_row`: a turn enters one word more.
use Rattle.parity.proofs.Visiting.{entering_start, word_reaches, entering_next, entering_count, entering_end}
use Rattle.parity.proofs.incidence.enter_row.Goals as goal

pub loop-i-init : goal.loop-i-init
loop-i-init c = entering_start c.requires.reaches

pub enter_word-requires-clause-reaches : goal.enter_word-requires-clause-reaches
enter_word-requires-clause-reaches c = word_reaches c.loop-i-test.true (c.type_inv.words c.loop-i.i).fits c.loop-i.invariant

pub loop-i-preserved : goal.loop-i-preserved
loop-i-preserved c = entering_next c.loop-i-test.true (c.type_inv.words c.loop-i.i).fits c.loop-i.invariant c.enter_word.auto.index c.enter_word.ensures

pub returns-clause-count : goal.returns-clause-count
returns-clause-count c = entering_count c.loop-i-test.false c.loop-i.invariant

pub returns-clause-index : goal.returns-clause-index
returns-clause-index c = entering_end c.loop-i-test.false c.loop-i.invariant
