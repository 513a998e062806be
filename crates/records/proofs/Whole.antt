-- A whole file without a fault, by the fold over its records.
use Rattle.std.proofs.Common.{◌≡◌, ℕ, ◌+◌, ◌≤◌, List, [], ◌∷◌, length, leb, Some, None, Ok, refl, sym, ap, subst, ◌∙◌, arith}
use Rattle.fit.specs.Rows.{limit}
use Rattle.format.specs.Format.{kind_at}
use Rattle.format.specs.Starts.{starts}
use Rattle.record.specs.Fault.{unless}
use Rattle.record.specs.declared.FaultKind.TheVariants.{Order, TooLong}
use Rattle.record.specs.declared.form.Group.{Group}
use Rattle.record.proofs.Chain.{passes, gives}
use Rattle.records.specs.Check.{nothing_seen, step_of, check_from, file_limit, check_of}
use Rattle.records.specs.Promises.{RecordFit, RecordsFit, rows_in}
use Rattle.records.specs.declared.Seen.{Seen}
use Rattle.records.specs.declared.Checked.{Checked}
use Rattle.records.proofs.Passed.{Passed, passed, record_fit, counts_first, group_after, atoms_kept, atoms_within, rows_next}

-- where the fold finds no fault, its first record has none and the rest comes to the same
pub record Turned (file : List ℕ) (seen : Seen) (o : ℕ) (os : List ℕ) (c : Checked) : Type 0 where
  pub next : Seen
  pub fit : Passed file seen o next
  pub rest : check_from file next os ≡ Ok c

pub turned : (file : List ℕ) (seen : Seen) (o : ℕ) (os : List ℕ) (c : Checked) → check_from file seen (o ∷ os) ≡ Ok c → Turned file seen o os c
unfolding check_from
turned file seen o os c e =
    let g = gives (step_of file seen o) (λ next. check_from file next os) c e in
    record { next = g.0; fit = passed file seen o g.0 g.1; rest = g.2 }

end : (file : List ℕ) (seen : Seen) (c : Checked) → check_from file seen [] ≡ Ok c → record { atoms = seen.atoms; rows = seen.rows } ≡ c
unfolding check_from
end file seen c e = cc

-- the records after the first: the atom count stays, and each is fit for it
later_fit : (file os : List ℕ) (seen : Seen) (c : Checked) (g : Group) → seen.group ≡ Some g → check_from file seen os ≡ Ok c
    → (c.atoms ≡ seen.atoms) × RecordsFit file seen.atoms os
later_fit file [] seen c g h e = (sym (ap (λ r. r.atoms) (end file seen c e)), tt)
later_fit file (o ∷ os) seen c g h e =
    let t = turned file seen o os c e in
    let kept = atoms_kept t.fit g h in
    let later = later_fit file os t.next c _ (group_after t.fit) t.rest in
    (later.0 ∙ kept, (record_fit t.fit, subst (λ n. RecordsFit file n os) kept later.1))

-- a record of kind 1 is fit, whatever the count
count_fit : (file : List ℕ) (n o : ℕ) → kind_at file o ≡ 1 → RecordFit file n o
count_fit file n o is = record { row = λ e. absurd (omega arith); table = λ e. absurd (omega arith); decision = λ e. absurd (omega arith) }

all_fit : (file os : List ℕ) (seen : Seen) (c : Checked) → seen.group ≡ None → check_from file seen os ≡ Ok c → RecordsFit file c.atoms os
all_fit file [] seen c z e = tt
all_fit file (o ∷ os) seen c z e =
    let t = turned file seen o os c e in
    let later = later_fit file os t.next c _ (group_after t.fit) t.rest in
    (count_fit file _ o (counts_first t.fit z), subst (λ n. RecordsFit file n os) (sym later.0) later.1)

abbrev Within : Checked → Type 0
Within r = (r.atoms ≤ limit) × (r.rows ≤ limit)

all_within : (file os : List ℕ) (seen : Seen) (c : Checked) → seen.atoms ≤ limit → seen.rows ≤ limit → check_from file seen os ≡ Ok c → Within c
all_within file [] seen c a r e = subst Within (end file seen c e) (a, r)
all_within file (o ∷ os) seen c a r e =
    let t = turned file seen o os c e in
    let few = t.fit.rows in
    all_within file os t.next c (atoms_within t.fit a) (omega (arith, rows_next t.fit)) t.rest

all_counted : (file os : List ℕ) (seen : Seen) (c : Checked) → check_from file seen os ≡ Ok c → c.rows ≡ seen.rows + rows_in file os
all_counted file [] seen c e = omega (arith, ap (λ r. r.rows) (end file seen c e))
all_counted file (o ∷ os) seen c e =
    let t = turned file seen o os c e in omega (arith, all_counted file os t.next c t.rest, rows_next t.fit)

-- a file without a fault comes to the fold over all its records
module _ (file : List ℕ) (c : Checked) (e : check_of file ≡ Ok c) where
  pub none : check_from file nothing_seen (starts file 0) ≡ Ok c
  unfolding check_of
  none =
      let short = passes (unless (leb (length file) file_limit) TooLong file_limit) _ c e in
      (passes (unless (leb 1 (length file)) Order 0) _ c short.1).1

  pub file_fit : RecordsFit file c.atoms (starts file 0)
  file_fit = all_fit file (starts file 0) nothing_seen c refl none

  pub file_within : Within c
  file_within = all_within file (starts file 0) nothing_seen c (omega arith) (omega arith) none

  pub rows_counted : c.rows ≡ rows_in file (starts file 0)
  rows_counted = omega (arith, all_counted file (starts file 0) nothing_seen c none)
