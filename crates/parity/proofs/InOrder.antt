-- A visit of the basis rows in a `for`: what each step gives, and that none is left at the end.
use Prim.Native.Nat.{◌+◌, ◌≤◌, ◌<◌}
use mathlib.Core.Path.{◌≡◌, ap, ◌∙◌, subst}
use native.Mathlib.Omega.{arith}
use Rattle.std.specs.Prelude.{Some, None}
use Rattle.parity.specs.Visit.{IsRow, NextRow}
use Rattle.parity.specs.declared.basis.Basis.{Basis}
use Rattle.parity.specs.declared.basis.BasisRow.{BasisRow}
use Rattle.parity.specs.declared.visit.BasisRows.{BasisRows}

pub record Ordered (s : BasisRows) (b : Basis) : Type 0 where
  pub same : s.basis ≡ b
  pub reached : s.next ≤ b.rank

pub ordered_start : (s begun : BasisRows) (b : Basis) → s ≡ begun → begun.basis ≡ b → begun.next ≡ 0 → Ordered s b
ordered_start s begun b is same next =
    let zero-next : s.next ≡ 0 = ap (λ (t : BasisRows). t.next) is ∙ next in
    record { same = ap (λ (t : BasisRows). t.basis) is ∙ same; reached = omega arith }

-- the row that a step gives, and the visit after it
pub record Given (s t : BasisRows) (b : Basis) (r : BasisRow) : Type 0 where
  pub below : s.next < b.rank
  pub row : IsRow b s.next r
  pub after : t.next ≡ s.next + 1
  pub goes : Ordered t b

module _ (s t : BasisRows) (b : Basis) (v : Ordered s b) where
  pub ordered_some : (r : BasisRow) → NextRow s (Some r) t → Given s t b r
  ordered_some r step =
      let below : s.next < b.rank = subst (λ (a : Basis). s.next < a.rank) v.same step.1.0 in
      record {
        below = below;
        row = subst (λ (a : Basis). IsRow a s.next r) v.same step.1.1;
        after = step.1.2;
        goes = record { same = step.0 ∙ v.same; reached = omega (arith, step.1.2) };
      }

  pub ordered_none : NextRow s None t → s.next ≡ b.rank
  ordered_none step =
      let past : b.rank ≤ s.next = subst (λ (a : Basis). a.rank ≤ s.next) v.same step.1 in
      omega (arith, v.reached)
