-- What a table brings whose size is fit.
use Rattle.std.proofs.Common.{◌≡◌, ℕ, ◌≤◌, List, Ok, ap, ap₂, eq-eqb, ne_eqb, arith}
use Rattle.hull.specs.Propose.{limit, proposal_of}
use Rattle.hull.specs.declared.Hull.{Hull}
use Rattle.format.specs.Format.{kind_at, k_at, table_at}
use Rattle.format.proofs.Tables.{table_told}
use Rattle.record.specs.Fault.{unless, ◌>>◌}
use Rattle.record.specs.declared.FaultKind.TheVariants.{Inexact}
use Rattle.records.specs.Rows.{exact_at, rows_at, brought}

pub table_brings : (file : List ℕ) (o : ℕ) (h : Hull) → kind_at file o ≡ 3 → k_at file o ≤ limit → proposal_of limit (k_at file o) (table_at file o) ≡ Ok h
    → (unless h.exact Inexact o >> Ok h.count) ≡ brought file o
unfolding exact_at rows_at
table_brings file o h is few says =
    let tells = table_told file o few h says in
    let other : kind_at file o ≡ 2 → ⊥ = λ e. omega arith in
    let exact : h.exact ≡ exact_at file o = simp (eq-eqb _ _ is) (ap (λ (q : Hull). q.exact) tells) in
    let count : h.count ≡ rows_at file o = simp (ne_eqb _ _ other, eq-eqb _ _ is) (ap (λ (q : Hull). q.count) tells) in
    ap₂ (λ x r. unless x Inexact o >> Ok r) exact count
