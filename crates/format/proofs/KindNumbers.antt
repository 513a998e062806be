-- A kind and its number name each other.
use Rattle.std.proofs.Common.{◌≡◌, ℕ, Bool, true, false, cond, Result, Ok, Err, refl, sym, ap, ◌∙◌, eqb, eqb-true}
use Rattle.format.specs.Kind.{kind_number, kind_of}
use Rattle.format.specs.declared.Kind.{Kind}
use Rattle.format.specs.declared.Kind.TheVariants.{Atoms, Row, Table, Decide, Inspect, Probe}
use Rattle.format.specs.declared.UnknownKind.{UnknownKind}

pub kind_of_number : (k : Kind) → kind_of (kind_number k) ≡ Ok k
kind_of_number Atoms = refl
kind_of_number Row = refl
kind_of_number Table = refl
kind_of_number Decide = refl
kind_of_number Inspect = refl
kind_of_number Probe = refl

pub same_kind : (j k : Kind) → kind_number j ≡ kind_number k → j ≡ k
same_kind j k e = let same : ◌≡◌ {A = Result Kind UnknownKind} (Ok j) (Ok k) = sym (kind_of_number j) ∙ ap kind_of e ∙ kind_of_number k in cc

-- a kind that is found has its number
one_more : (n m : ℕ) (j k : Kind) (r : Result Kind UnknownKind) → kind_number j ≡ m → (r ≡ Ok k → n ≡ kind_number k) → cond (eqb n m) (Ok j) r ≡ Ok k → n ≡ kind_number k
one_more n m j k r is rest e = go (eqb n m) refl e
  where
    go : (t : Bool) → eqb n m ≡ t → cond t (Ok j) r ≡ Ok k → n ≡ kind_number k
    go true h found = let same : j ≡ k = cc in eqb-true n m h ∙ sym is ∙ ap kind_number same
    go false h found = rest found

pub kind_named : (n : ℕ) (k : Kind) → kind_of n ≡ Ok k → n ≡ kind_number k
kind_named n k e =
    one_more n 1 Atoms k _ refl
    (one_more n 2 Row k _ refl
    (one_more n 3 Table k _ refl
    (one_more n 4 Decide k _ refl
    (one_more n 5 Inspect k _ refl
    (one_more n 6 Probe k (Err (record {})) refl (λ never. absurd (cc)))))))
    e
