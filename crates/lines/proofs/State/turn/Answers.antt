-- A record of each kind.
use Rattle.std.proofs.Common.{sym, ap, ◌∙◌, Ok}
use Rattle.inspect.specs.Inspect.{filled}
use Rattle.format.specs.declared.Kind.{Kind}
use Rattle.lines.proofs.Turns.{turn_decision, turn_inspection, turn_probe, turn_other, turn_unknown}
use Rattle.lines.proofs.State.turn.Goals as goal

pub returns-in_default : goal.returns-in_default
returns-in_default c = turn_unknown _ _ _ c.args.self.now _ c.in_default.field-0 (sym c.in_default.is ∙ c.kind.ensures)

pub returns-in-Decide : goal.returns-in-Decide
returns-in-Decide c = turn_decision _ _ _ c.args.self.now _ (sym (ap (λ (k : Kind). Ok k) c.in-Decide.is) ∙ c.in-Ok.ensures) c.decide.ensures

pub returns-in-Inspect : goal.returns-in-Inspect
returns-in-Inspect c = turn_inspection _ _ _ c.args.self.now _ (sym (ap (λ (k : Kind). Ok k) c.in-Inspect.is) ∙ c.in-Ok.ensures) c.inspect.ensures

pub returns-in-Probe : goal.returns-in-Probe
returns-in-Probe c =
    let l = c.args.prepared.now in
    turn_probe _ l.system (filled l.rows.now l.constants.now l.basis.now l.index.now) _ _ (sym (ap (λ (k : Kind). Ok k) c.in-Probe.is) ∙ c.in-Ok.ensures)
    c.probe-probed.ensures c.put_probe.ensures

pub returns-in_default-kind : goal.returns-in_default-kind
returns-in_default-kind c = turn_other _ _ _ c.args.self.now _ c.in-Ok.kind c.in-Ok.ensures c.in_default-kind.not-Decide c.in_default-kind.not-Inspect c.in_default-kind.not-Probe
