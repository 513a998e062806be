-- One record's line and call, by its kind.
use Rattle.std.proofs.Common.{◌≡◌, ℕ, List, ap, refl, sym, ◌∙◌, Result, Ok, Err}
use borrow.Author.Tests.{eq-eqb, ne_eqb}
use native.Mathlib.Omega.{arith}
use Rattle.refusal.specs.declared.Refusal.{Refusal}
use Rattle.parity.specs.declared.System.{System}
use Rattle.inspect.specs.Inspect.{Filled}
use Rattle.probe.specs.Probe.{probe_of}
use Rattle.probe.specs.declared.Probed.{Probed}
use Rattle.format.specs.Format.{kind_at}
use Rattle.format.specs.Kind.{kind_of}
use Rattle.format.specs.declared.Kind.{Kind}
use Rattle.format.specs.declared.Kind.TheVariants.{Decide, Inspect, Probe}
use Rattle.format.specs.declared.UnknownKind.{UnknownKind}
use Rattle.format.proofs.KindNumbers.{kind_named}
use Rattle.text.specs.Puts.{Puts}
use Rattle.text.specs.declared.Text.{Text}
use Rattle.text.proofs.Puts.{puts_none, puts_is}
use Rattle.lines.specs.Lines.{probe_line, decision_at, inspection, calls_at, line_at}
use Rattle.lines.specs.Steps.{state_of, Called, Turned}
use Rattle.lines.specs.declared.State.{State as Kept}

module _ (file : List ℕ) (s : System) (f : Filled) (kept : Kept) (o : ℕ) {t : Text} where
  pub turn_decision : {u : Text} {left : Kept} → Ok Decide ≡ kind_of (kind_at file o) → Called (state_of kept) (decision_at file o) t u left
      → Turned file s f (state_of kept) o t u left
  unfolding line_at calls_at
  turn_decision k h = rw (eq-eqb (kind_at file o) 4 (kind_named _ Decide (sym k))) h

  pub turn_inspection : {u : Text} {left : Kept} → Ok Inspect ≡ kind_of (kind_at file o) → Called (state_of kept) (inspection s f) t u left
      → Turned file s f (state_of kept) o t u left
  unfolding line_at calls_at
  turn_inspection k h =
      let five : kind_at file o ≡ 5 = kind_named _ Inspect (sym k) in
      rw (ne_eqb (kind_at file o) 4 (λ n. omega arith), eq-eqb (kind_at file o) 5 five) h

  pub turn_probe : {u : Text} {q : Result Probed Refusal} → Ok Probe ≡ kind_of (kind_at file o) → q ≡ probe_of s f.rows f.constants f.basis kept.region
      → Puts t (probe_line q) u → Turned file s f (state_of kept) o t u kept
  unfolding line_at calls_at
  turn_probe k e p =
      let six : kind_at file o ≡ 6 = kind_named _ Probe (sym k) in
      rw (ne_eqb (kind_at file o) 4 (λ n. omega arith), ne_eqb (kind_at file o) 5 (λ n. omega arith), eq-eqb (kind_at file o) 6 six)
      (record { puts = puts_is (ap probe_line e) p; state = refl })

  turn_neither : (kind_at file o ≡ 4 → ⊥) → (kind_at file o ≡ 5 → ⊥) → (kind_at file o ≡ 6 → ⊥) → Turned file s f (state_of kept) o t t kept
  unfolding line_at calls_at
  turn_neither four five six =
      rw (ne_eqb (kind_at file o) 4 four, ne_eqb (kind_at file o) 5 five, ne_eqb (kind_at file o) 6 six) (record { puts = puts_none t; state = refl })

  pub turn_other : (kind : Kind) → Ok kind ≡ kind_of (kind_at file o) → (kind ≡ Decide → ⊥) → (kind ≡ Inspect → ⊥) → (kind ≡ Probe → ⊥)
      → Turned file s f (state_of kept) o t t kept
  turn_other kind k d i p =
      turn_neither (λ n. let e = k ∙ ap kind_of n in d (cc)) (λ n. let e = k ∙ ap kind_of n in i (cc)) (λ n. let e = k ∙ ap kind_of n in p (cc))

  pub turn_unknown : (e : UnknownKind) → Err e ≡ kind_of (kind_at file o) → Turned file s f (state_of kept) o t t kept
  turn_unknown e k = turn_neither (λ n. let z = k ∙ ap kind_of n in cc) (λ n. let z = k ∙ ap kind_of n in cc) (λ n. let z = k ∙ ap kind_of n in cc)
