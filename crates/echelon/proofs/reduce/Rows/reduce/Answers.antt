-- A row without a word is empty, and one whose lowest atom has no pivot is left as it is; else what `reduce_word` leaves of word i joins what
-- stood before it.
use Rattle.std.proofs.Common.{rules, ◌≡◌, ◌+◌, get_or, sym, ◌∙◌, arith}
use Rattle.rows.specs.Flat.{row}
use Rattle.echelon.specs.Steps.{ReducesWord}
use Rattle.echelon.proofs.Turns.{row_word}
use Rattle.echelon.proofs.First.{first_none, first_some}
use Rattle.echelon.proofs.Finishing.{directory_kept, reduced_start, reduced_join, reduced_next, reduced_few, finished_empty, finished_pivot}
use Rattle.echelon.proofs.reduce.Rows.reduce.Given.{Over}
use Rattle.echelon.proofs.reduce.Rows.reduce.Goals as goal
use Rattle.echelon.proofs.reduce.Rows.reduce.Goals.{After-reduce_word-left}

pub returns-in_default-clause-left : goal.returns-in_default-clause-left
returns-in_default-clause-left g c =
    let r = c.args.self.now in
    finished_empty (reduced_start r.shape.width c.requires.clean (first_none c.requires.clean c.in_default.ensures)) (omega arith)

pub loop-i-init : goal.loop-i-init
loop-i-init g c = (search rules, reduced_start c.in-Some.first c.requires.clean (first_some c.requires.clean c.in-Some.ensures).below)

pub reduce_word-left-requires : goal.reduce_word-left-requires
reduce_word-left-requires g c =
    let so = c.loop-i.invariant.1 in
    rw c.loop-i.invariant.0.shape (search rules, (omega arith, (so.clean, (so.below, directory_kept so.only c.requires.listed))))

-- the row after word i
joined : (g : Over) (c : After-reduce_word-left g) → let left = c.reduce_word-left in
    ReducesWord c.args.self.now left.new.self c.args.number.0 c.loop-i.i (c.loop-i.additions + left.result.additions)
joined g c = reduced_join c.loop-i.invariant.1 (rw c.loop-i.invariant.0.shape at c.reduce_word-left.ensures.left)

-- and word i of it
word : (g : Over) (c : After-reduce_word-left g) → let left = c.reduce_word-left in
    left.result.word ≡ get_or (row c.args.self.now.shape.width left.new.self.words.now c.args.number.0) c.loop-i.i 0
word g c =
    rw c.loop-i.invariant.0.shape at c.reduce_word-left.ensures.word
    ∙ sym (row_word c.args.self.now.shape.width c.args.number.0 c.reduce_word-left.new.self.words.now c.loop-i.i (omega arith))

pub overflow_add-additions : goal.overflow_add-additions
overflow_add-additions g c = omega (arith, reduced_few (joined g (goal.at.overflow_add-additions g c).After-reduce_word-left))

pub returns-then-left-ne0-clause-left : goal.returns-then-left-ne0-clause-left
returns-then-left-ne0-clause-left g c =
    let here = (goal.at.returns-then-left-ne0-clause-left g c).After-reduce_word-left in
    finished_pivot (joined g here) c.requires.listed (omega arith) (word g here) (omega arith) (omega (arith, c.if-left-ne0.true))
    c.reduce_word-left.ensures.done c.new_pivot.ensures.head c.new_pivot.ensures.lowest

pub loop-i-preserved : goal.loop-i-preserved
loop-i-preserved g c =
    let here = (goal.at.loop-i-preserved g c).After-reduce_word-left in
    (search rules, reduced_next (joined g here) (omega arith) (sym (word g here) ∙ c.if-left-ne0.false))

pub returns-clause-left : goal.returns-clause-left
returns-clause-left g c = finished_empty c.loop-i.invariant.1 (omega arith)
