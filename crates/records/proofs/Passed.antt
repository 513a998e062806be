-- What a record without a fault has passed, and what it then is.
use Rattle.std.proofs.lemmas.Bool.{and_parts}
use Rattle.std.proofs.Common.{◌≡◌, ℕ, suc, ◌+◌, ◌≤◌, List, [], ◌∷◌, true, cond, eqb, leb, ltb, Some, None, Ok, refl, sym, ap, subst, ◌∙◌, leb-true, ltb-true}
use Rattle.embed.specs.Embed.{Rising}
use Rattle.fit.specs.Rows.{limit}
use Rattle.format.specs.declared.Kind.{Kind}
use Rattle.format.specs.declared.Kind.TheVariants.{Atoms, Row, Table, Decide, Inspect, Probe}
use Rattle.format.specs.Kind.{kind_number, kind_of}
use Rattle.format.specs.Format.{kind_at, count_at, constant_at, decided_at}
use Rattle.format.proofs.KindNumbers.{same_kind, kind_named}
use Rattle.record.specs.Fault.{unless}
use Rattle.record.specs.Form.{length_check, group_of, follows, kind_check, size_check}
use Rattle.record.specs.Fields.{all_below, rises, range_check, rising_check}
use Rattle.record.specs.declared.FaultKind.TheVariants.{Range, Rising as NotRising, Inexact, Rows}
use Rattle.record.specs.declared.form.Group.{Group}
use Rattle.record.proofs.Chain.{passes, gives, holds, same_value}
use Rattle.record.proofs.Ordered.{ordered, sized}
use Rattle.records.specs.Rows.{hull_at, exact_at, rows_at, brought, rows_after}
use Rattle.records.specs.Check.{atoms_after, step_of}
use Rattle.records.specs.Promises.{AllBelow, RecordFit}
use Rattle.records.specs.declared.Seen.{Seen}

pub record Passed (file : List ℕ) (seen : Seen) (o : ℕ) (next : Seen) : Type 0 where
  pub kind : Kind
  pub framed : length_check file o ≡ Ok tt
  pub named : kind_at file o ≡ kind_number kind
  pub follows_on : follows seen.group (group_of kind) ≡ true
  pub sizes : size_check file kind o ≡ Ok tt
  pub ranges : range_check file kind seen.atoms o ≡ Ok tt
  pub rises : rising_check file kind o ≡ Ok tt
  pub exact : exact_at file o ≡ true
  pub rows : seen.rows + rows_at file o ≤ limit
  pub after : record { group = Some (group_of kind); atoms = atoms_after file kind seen.atoms o; rows = seen.rows + rows_at file o } ≡ next

pub passed : (file : List ℕ) (seen : Seen) (o : ℕ) (next : Seen) → step_of file seen o ≡ Ok next → Passed file seen o next
unfolding step_of
passed file seen o next e =
    let framed = passes (length_check file o) _ next e in
    let found = gives (kind_check seen.group (kind_of (kind_at file o)) o) _ next framed.1 in
    let kind = found.0 in
    let order = ordered seen.group (kind_of (kind_at file o)) o kind found.1 in
    let size = passes (size_check file kind o) _ next found.2 in
    let range = passes (range_check file kind seen.atoms o) _ next size.1 in
    let rise = passes (rising_check file kind o) _ next range.1 in
    let more = gives (brought file o) _ next rise.1 in
    let exact = passes (unless (exact_at file o) Inexact o) (Ok (rows_at file o)) more.0 more.1 in
    let sum = gives (rows_after seen.rows more.0 o) _ next more.2 in
    let few = passes (unless (leb (seen.rows + more.0) limit) Rows o) (Ok (seen.rows + more.0)) sum.0 sum.1 in
    let brings = same_value (rows_at file o) more.0 exact.1 in
    let rows = same_value (seen.rows + more.0) sum.0 few.1 in
    let atoms = atoms_after file kind seen.atoms o in
    let told = same_value (record { group = Some (group_of kind); atoms = atoms; rows = sum.0 }) next sum.2 in
    record {
      kind = kind;
      framed = framed.0;
      named = kind_named _ kind order.0;
      follows_on = order.1;
      sizes = size.0;
      ranges = range.0;
      rises = rise.0;
      exact = holds _ Inexact o exact.0;
      rows = subst (λ m. seen.rows + m ≤ limit) (sym brings) (leb-true _ _ (holds _ Rows o few.0));
      after = ap (λ m. record { group = Some (group_of kind); atoms = atoms; rows = m }) (ap (λ m. seen.rows + m) brings ∙ rows) ∙ told;
    }

-- all atoms are below n, and rise
below : (n : ℕ) (atoms : List ℕ) → all_below n atoms ≡ true → AllBelow n atoms
unfolding all_below
below n [] e = tt
below n (a ∷ atoms) e = let p = and_parts (ltb a n) (all_below n atoms) e in (ltb-true a n p.0, below n atoms p.1)

rising : (from n : ℕ) (atoms : List ℕ) → rises from atoms ≡ true → AllBelow n atoms → Rising from n atoms
unfolding rises
rising from n [] e b = tt
rising from n (a ∷ atoms) e b =
    let p = and_parts (leb from a) (rises (suc a) atoms) e in (leb-true from a p.0, b.0, rising (suc a) n atoms p.1 b.1)

module _ {file : List ℕ} {seen : Seen} {o : ℕ} {next : Seen} (p : Passed file seen o next) where
  is_kind : (k : Kind) → kind_at file o ≡ kind_number k → p.kind ≡ k
  is_kind k e = same_kind p.kind k (sym p.named ∙ e)

  ranged : (k : Kind) → kind_at file o ≡ kind_number k → range_check file k seen.atoms o ≡ Ok tt
  ranged k e = subst (λ j. range_check file j seen.atoms o ≡ Ok tt) (is_kind k e) p.ranges

  -- a record without a fault is fit for the atoms seen
  pub record_fit : RecordFit file seen.atoms o
  unfolding range_check rising_check exact_at
  record_fit =
      let n = seen.atoms in
      record {
        row = λ is.
            let c = passes (unless (leb (constant_at file o) 1) Range o) _ tt (ranged Row is) in
            (leb-true _ _ (holds _ Range o c.0), below n _ (holds _ Range o c.1));
        table = λ is.
            let rise = subst (λ j. rising_check file j o ≡ Ok tt) (is_kind Table is) p.rises in (
              sized file p.kind o (is_kind Table is) p.sizes,
              rising 0 n _ (holds _ NotRising o rise) (below n _ (holds _ Range o (ranged Table is))),
              subst (λ k. cond (eqb k 3) (hull_at file o).exact true ≡ true) is p.exact,
            );
        decision = λ is.
            let a = passes (unless (ltb (decided_at file o) n) Range o) _ tt (ranged Decide is) in
            (ltb-true _ _ (holds _ Range o a.0), leb-true _ _ (holds _ Range o a.1));
      }

  -- the order of kinds: the first record is of kind 1, and no other is
  first_group : (k : Kind) → follows None (group_of k) ≡ true → k ≡ Atoms
  first_group Atoms e = refl
  first_group Row e = absurd (cc)
  first_group Table e = absurd (cc)
  first_group Decide e = absurd (cc)
  first_group Inspect e = absurd (cc)
  first_group Probe e = absurd (cc)

  pub counts_first : seen.group ≡ None → kind_at file o ≡ 1
  counts_first e = p.named ∙ ap kind_number (first_group p.kind (subst (λ g. follows g (group_of p.kind) ≡ true) e p.follows_on))

  -- so the atom count is seen with the first record and stays
  later_group : (g : Group) (k : Kind) → follows (Some g) (group_of k) ≡ true → atoms_after file k seen.atoms o ≡ seen.atoms
  later_group g Atoms e = absurd (cc)
  later_group g Row e = refl
  later_group g Table e = refl
  later_group g Decide e = refl
  later_group g Inspect e = refl
  later_group g Probe e = refl

  pub group_after : next.group ≡ Some (group_of p.kind)
  group_after = sym (ap (λ s. s.group) p.after)

  pub atoms_kept : (g : Group) → seen.group ≡ Some g → next.atoms ≡ seen.atoms
  atoms_kept g e =
      sym (ap (λ s. s.atoms) p.after) ∙ later_group g p.kind (subst (λ b. follows b (group_of p.kind) ≡ true) e p.follows_on)

  counted : (k : Kind) → range_check file k seen.atoms o ≡ Ok tt → seen.atoms ≤ limit → atoms_after file k seen.atoms o ≤ limit
  unfolding range_check
  counted Atoms e few = leb-true (count_at file o) limit (holds _ Range o e)
  counted Row e few = few
  counted Table e few = few
  counted Decide e few = few
  counted Inspect e few = few
  counted Probe e few = few

  pub atoms_within : seen.atoms ≤ limit → next.atoms ≤ limit
  atoms_within few = subst (λ s. s.atoms ≤ limit) p.after (counted p.kind p.ranges few)

  pub rows_next : next.rows ≡ seen.rows + rows_at file o
  rows_next = sym (ap (λ s. s.rows) p.after)
