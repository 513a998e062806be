-- Where all before it pass, bits past the rank are what is left to refuse.
use Rattle.std.proofs.Common.{◌≡◌, sym, ap, ◌∙◌, Bool, ◌*◌, ◌≤◌, length, arith, Ok, Err}
use Rattle.std.specs.Prelude.{Result}
use Prim.Native.Nat.{min}
use mathlib.Core.Bool.{cond}
use Rattle.refusal.specs.declared.Refusal.{Refusal}
use Rattle.refusal.specs.declared.Refusal.TheVariants.{Index}
use Rattle.fit.proofs.Naming.{misnames_all}
use Rattle.index.specs.Index.{column_width}
use Rattle.inspect.specs.Inspect.{filled}
use Rattle.inspect.specs.Once.{prepared_check}
use Rattle.inspect.proofs.Once.{index_is}
use Rattle.inspect.proofs.prepared.check_prepared.Goals as goal
use Rattle.inspect.proofs.prepared.check_prepared.Goals.{After-past_rank}

abbrev by : Bool → Result Unit Refusal
by past = cond past (Err Index) (Ok tt)

told : (c : After-past_rank) → let a = c.args in by c.past_rank.result ≡ prepared_check a.system (filled a.rows.now a.constants.now a.basis.now a.index.now)
told c =
    let a = c.args in
    let s = a.system in
    let few : s.rank ≤ min s.rows s.atoms = omega (arith, c.if-system-entries.false, c.min-entries.ensures) in
    let entries : min s.rows s.atoms ≤ length a.basis.now = omega (arith, c.if-basis-entries.false, c.min-entries.ensures) in
    let columns : s.atoms * column_width s.rank ≤ length a.index.now = omega (arith, rw c.column_width.ensures at c.if-index-system.false) in
    ap by c.past_rank.ensures
    ∙ index_is s (filled a.rows.now a.constants.now a.basis.now a.index.now) (sym c.in_ok-check_rows.ensures) few entries columns
    (sym (misnames_all s.rows a.basis.now s.rank (omega (arith, c.if-system-entries.false, c.if-basis-entries.false))) ∙ sym c.any_misnames.ensures ∙ c.if-any_misnames.false)

pub returns-then-past_rank : goal.returns-then-past_rank
returns-then-past_rank c = ap by (sym c.if-past_rank.true) ∙ told (goal.at.returns-then-past_rank c).After-past_rank

pub returns : goal.returns
returns c = ap by (sym c.if-past_rank.false) ∙ told (goal.at.returns c).After-past_rank
