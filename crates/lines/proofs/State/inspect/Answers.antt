-- An inspection's line, and what it leaves: the lists that it is lent hold what the last one left, and it answers as with zeros.
use Rattle.std.proofs.Common.{◌≡◌, refl, sym, ap, ◌∙◌, rules}
use Rattle.std.specs.Prelude.{Result, replicate}
use Rattle.refusal.specs.declared.Refusal.{Refusal}
use Rattle.fit.specs.Rows.{limit}
use Rattle.inspect.specs.Inspect.{filled, Outcome, inspect_of}
use Rattle.inspect.specs.declared.Inspected.{Inspected}
use Rattle.text.proofs.Puts.{puts_is}
use Rattle.lines.specs.Lines.{inspect_line}
use Rattle.inspect.proofs.Lists.{any_lists}
use Rattle.lines.proofs.State.inspect.Goals as goal
use Rattle.lines.proofs.State.inspect.Goals.{in-Ok, in_default}

pub returns : goal.returns
returns c =
    let p = c.args.prepared.now in
    let st = c.args.self.now in
    let f = filled p.rows.now p.constants.now p.basis.now p.index.now in
    let same : c.inspect-inspected.result ≡ (inspect_of p.system f st.region st.known (replicate limit 0) (replicate limit 0)).result =
    ap (λ (o : Outcome (Result Inspected Refusal)). o.result) c.inspect-inspected.ensures
    ∙ any_lists p.system f st.region st.known st.forced_atoms (replicate limit 0) st.forced_values (replicate limit 0) (search rules) (search rules) in
    rw (sym same)
    (elim c.match-inspected.branch [
      | in-Ok w ↦ record { puts = puts_is (ap inspect_line (w.inspected-is ∙ sym w.in-Ok.is)) c.put_inspection.ensures; state = rw (w.self-is, w.in-Ok.is) refl }
      | in_default w ↦ record { puts = puts_is (ap inspect_line w.inspected-is) c.put_inspection.ensures; state = rw (w.self-is, w.in_default.is) refl }
    ])
