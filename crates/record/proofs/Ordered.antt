-- What is known of a record whose kind is found, and of a table whose size is fit.
use Rattle.std.proofs.Common.{◌≡◌, ℕ, ◌≤◌, List, true, Option, Result, Ok, Err, leb, leb-true, ap, subst}
use Rattle.hull.specs.Propose.{limit}
use Rattle.format.specs.declared.Kind.{Kind}
use Rattle.format.specs.declared.Kind.TheVariants.{Table}
use Rattle.format.specs.declared.UnknownKind.{UnknownKind}
use Rattle.format.specs.Format.{body_at, k_at}
use Rattle.record.specs.Fault.{unless}
use Rattle.record.specs.Form.{group_of, follows, kind_check, table_size_check, size_check}
use Rattle.record.specs.declared.FaultKind.TheVariants.{Order, Size, Range}
use Rattle.record.specs.declared.form.Group.{Group}
use Rattle.record.proofs.Chain.{passes, holds, same_value}

pub ordered : (before : Option Group) (found : Result Kind UnknownKind) (o : ℕ) (kind : Kind) → kind_check before found o ≡ Ok kind
    → (found ≡ Ok kind) × (follows before (group_of kind) ≡ true)
unfolding kind_check
ordered before (Ok j) o kind e =
    let p = passes (unless (follows before (group_of j)) Order o) (Ok j) kind e in
    let same = same_value j kind p.1 in
    (ap Ok same, subst (λ k. follows before (group_of k) ≡ true) same (holds _ Order o p.0))
ordered before (Err unknown) o kind e = absurd (cc)

pub sized : (file : List ℕ) (kind : Kind) (o : ℕ) → kind ≡ Table → size_check file kind o ≡ Ok tt → k_at file o ≤ limit
unfolding size_check table_size_check
sized file kind o is e =
    let table = subst (λ k. size_check file k o ≡ Ok tt) is e in
    let p = passes (unless (leb 1 (body_at file o)) Size o) _ tt table in
    leb-true _ _ (holds _ Range o (passes (unless (leb (k_at file o) limit) Range o) _ tt p.1).0)
