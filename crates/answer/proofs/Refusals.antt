-- The offset of a refusal is at most 65536.
use Rattle.std.proofs.Common.{ℕ, zero, suc, ◌+◌, ◌≤◌, ◌<◌, List, length, leb, ltb, eqb, ◌&&◌, Bool, true, false, Option, Some, Result, Ok, Err, sym, subst, arith}
use native.Mathlib.Decide.{dec_le}
use borrow.Author.Tests.{lt-leb}
use Rattle.words.specs.Set.{odd}
use Rattle.hull.specs.Propose as hull
use Rattle.fit.specs.Rows.{limit}
use Rattle.format.specs.declared.Kind.{Kind}
use Rattle.format.specs.declared.Kind.TheVariants.{Atoms, Row, Table, Decide, Inspect, Probe}
use Rattle.format.specs.declared.UnknownKind.{UnknownKind}
use Rattle.format.specs.Kind.{kind_of}
use Rattle.format.specs.Format.{length_at, kind_at, body_at, end_at, next_at, count_at, constant_at, row_atoms, k_at, table_atoms, decided_at, value_at}
use Rattle.format.specs.Starts.{starts}
use Rattle.format.proofs.Offsets.{starts_cons, starts_nil, next_after}
use Rattle.record.specs.Fault.{unless, ◌>>=◌, ◌>>◌}
use Rattle.record.specs.Form.{length_check, group_of, follows, kind_check, table_size, table_size_check, size_check}
use Rattle.record.specs.Fields.{all_below, rises, range_check, rising_check}
use Rattle.record.specs.declared.Fault.{Fault}
use Rattle.record.specs.declared.FaultKind.{FaultKind}
use Rattle.record.specs.declared.FaultKind.TheVariants.{Length, Order, Size, Range, Rising, Inexact, Rows, TooLong}
use Rattle.record.specs.declared.form.Group.{Group}
use Rattle.records.specs.Rows.{exact_at, rows_at}
use Rattle.records.specs.Check.{nothing_seen, atoms_after, step_of, check_from, file_limit, check_of}
use Rattle.records.specs.declared.Seen.{Seen}

-- a fault, if there is one, at an offset that is told in few bytes
abbrev NearFault : {A : Type 0} → Result A Fault → Type 0
NearFault (Ok a) = Unit {0}
NearFault (Err fault) = fault.offset ≤ 65536

pub record Near {A : Type 0} (r : Result A Fault) : Type 0 where
  pub offset : NearFault r

near_ok : {A : Type 0} (a : A) → Near (Ok a)
near_ok a = record { offset = tt }

module _ {B : Type 0} where
  near_on : {A : Type 0} {r : Result A Fault} {f : A → Result B Fault} → Near r → ((a : A) → Near (f a)) → Near (r >>= f)
  near_on {r = Ok a} h k = k a
  near_on {r = Err fault} h k = record { offset = h.offset }

  near_then : {c : Result (Unit {0}) Fault} {r : Result B Fault} → Near c → Near r → Near (c >> r)
  near_then {c = Ok a} h k = k
  near_then {c = Err fault} h k = record { offset = h.offset }

-- the checks of one record
module _ (file : List ℕ) (o : ℕ) (near : o ≤ 65536) where
  tested : (t : Bool) (kind : FaultKind) → Near (unless t kind o)
  tested true kind = near_ok tt
  tested false kind = record { offset = near }

  kind_near : (before : Option Group) (r : Result Kind UnknownKind) → Near (kind_check before r o)
  unfolding kind_check
  kind_near before (Ok kind) = near_then (tested (follows before (group_of kind)) Order) (near_ok kind)
  kind_near before (Err unknown) = record { offset = near }

  size_near : (kind : Kind) → Near (size_check file kind o)
  unfolding size_check table_size_check
  size_near Atoms = tested (eqb (body_at file o) 2) Size
  size_near Row = tested (odd (body_at file o)) Size
  size_near Table =
      near_then (tested (leb 1 (body_at file o)) Size)
      (near_then (tested (leb (k_at file o) hull.limit) Range) (tested (eqb (body_at file o) (table_size (k_at file o))) Size))
  size_near Decide = tested (eqb (body_at file o) 3) Size
  size_near Inspect = tested (eqb (body_at file o) 0) Size
  size_near Probe = tested (eqb (body_at file o) 0) Size

  range_near : (kind : Kind) (n : ℕ) → Near (range_check file kind n o)
  unfolding range_check
  range_near Atoms n = tested (leb (count_at file o) limit) Range
  range_near Row n = near_then (tested (leb (constant_at file o) 1) Range) (tested (all_below n (row_atoms file o)) Range)
  range_near Table n = tested (all_below n (table_atoms file o)) Range
  range_near Decide n = near_then (tested (ltb (decided_at file o) n) Range) (tested (leb (value_at file o) 1) Range)
  range_near Inspect n = near_ok tt
  range_near Probe n = near_ok tt

  rising_near : (kind : Kind) → Near (rising_check file kind o)
  unfolding rising_check
  rising_near Atoms = near_ok tt
  rising_near Row = near_ok tt
  rising_near Table = tested (rises 0 (table_atoms file o)) Rising
  rising_near Decide = near_ok tt
  rising_near Inspect = near_ok tt
  rising_near Probe = near_ok tt

  step_near : (seen : Seen) → Near (step_of file seen o)
  unfolding step_of length_check
  step_near seen =
      near_then (tested (leb (o + 2) (length file) && (leb 2 (length_at file o) && leb (end_at file o) (length file))) Length)
      (near_on (kind_near seen.group (kind_of (kind_at file o))) (λ kind.
      near_then (size_near kind)
      (near_then (range_near kind seen.atoms)
      (near_then (rising_near kind)
      (near_on (near_then (tested (exact_at file o) Inexact) (near_ok (rows_at file o))) (λ more.
      near_on (near_then (tested (leb (seen.rows + more) limit) Rows) (near_ok (seen.rows + more))) (λ rows.
      near_ok (record { group = Some (group_of kind); atoms = atoms_after file kind seen.atoms o; rows = rows }))))))))

-- of all records
module _ (file : List ℕ) (few : length file ≤ 65536) where
  from_near : (fuel o : ℕ) (seen : Seen) → length file ≤ o + fuel → Near (check_from file seen (starts file o))
  unfolding check_from
  from_near zero o seen h = subst (λ (os : List ℕ). Near (check_from file seen os)) (sym (starts_nil file o (omega arith))) (near_ok _)
  from_near (suc fuel) o seen h = by (dec_le (length file) o) (from_near fuel)
    where
      by : Dec (length file ≤ o) → ((o : ℕ) (seen : Seen) → length file ≤ o + fuel → Near (check_from file seen (starts file o))) → Near (check_from file seen (starts file o))
      by (yes past) rest = subst (λ (os : List ℕ). Near (check_from file seen os)) (sym (starts_nil file o past)) (near_ok _)
      by (no z) rest =
          let within : o < length file = omega arith in
          subst (λ (os : List ℕ). Near (check_from file seen os)) (sym (starts_cons file o within))
          (near_on (step_near file o (omega arith) seen)
          (λ next. rest (next_at file o) next (omega (arith, next_after file o within))))

pub check_near : (file : List ℕ) → Near (check_of file)
unfolding check_of
check_near file = by (dec_le (length file) file_limit)
  where
    by : Dec (length file ≤ file_limit) → Near (check_of file)
    by (yes few) =
        near_then (tested file file_limit (omega arith) (leb (length file) file_limit) TooLong)
        (near_then (tested file 0 (omega arith) (leb 1 (length file)) Order) (from_near file few (length file) 0 nothing_seen (omega arith)))
    by (no z) = let over : file_limit < length file = omega arith in rw (lt-leb (length file) file_limit over) (record { offset = omega arith })
