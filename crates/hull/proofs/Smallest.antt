-- The rows of a table are met by just the smallest affine set that holds the allowed patterns.
use Prim.Native.Nat.{ℕ}
use mathlib.Core.Path.{◌≡◌, refl, sym, ap, ap₂, ◌∙◌, subst}
use mathlib.Core.List.{List, [], ◌∷◌}
use mathlib.Core.Bool.{Bool, true, false, xor, ◌&&◌, beq, and-eq-true_iff, false≢true}
use mathlib.Core.Option.{none}
use lib.ListN.{length, replicate}
use Rattle.rows.specs.Row.{Row, plus, meets, meets_all}
use Rattle.hull.specs.Table.{Pattern, allows, allowed}
use Rattle.hull.specs.Equations.{Pivots, pivots_from, zeros, hull_from, hull_of}
use Rattle.hull.specs.Promises.{Sized, Affine, SmallestAffine}
use Rattle.rows.proofs.Plus.{plus_comm, plus_assoc, plus_self, plus_twice, length_plus}
use Rattle.hull.proofs.Dot.{dot_sum, dot_zeros, dot_met}
use Rattle.hull.proofs.Spans.{Each, spans, spans_zeros, spans_each}
use Rattle.hull.proofs.Within.{Summing, within_pivots, within_spans}
use Rattle.hull.proofs.Even.{meets_spans}
use Rattle.hull.proofs.Allowed.{Lists, lengths, pivots_fit, table_lists}

three : (b : Bool) → beq (xor (xor b b) b) b ≡ true
unfolding xor
three true = refl
three false = refl

meets_three : (r : Row) (x y z : Pattern) → meets r x ≡ true → meets r y ≡ true → meets r z ≡ true → meets r (plus (plus x y) z) ≡ true
meets_three r x y z p q s =
    let c = r.constant in
    ap (λ b. beq b c)
    (dot_sum r.atoms (plus x y) z
    ∙ ap₂ xor (dot_sum r.atoms x y ∙ ap₂ xor (dot_met r x p) (dot_met r y q)) (dot_met r z s))
    ∙ three c

all_three : (rs : List Row) (x y z : Pattern) → meets_all rs x ≡ true → meets_all rs y ≡ true → meets_all rs z ≡ true → meets_all rs (plus (plus x y) z) ≡ true
all_three [] x y z p q s = refl
all_three (r ∷ rs) x y z p q s =
    let a = (and-eq-true_iff (meets r x) (meets_all rs x)).0 p in
    let b = (and-eq-true_iff (meets r y) (meets_all rs y)).0 q in
    let c = (and-eq-true_iff (meets r z) (meets_all rs z)).0 s in
    ap₂ ◌&&◌ (meets_three r x y z a.0 b.0 c.0) (all_three rs x y z a.1 b.1 c.1)

-- a + (x + y) is the sum of the three a + x, a and a + y
around : (a x y : Pattern) → length a ≡ length x → plus (plus (plus a x) a) (plus a y) ≡ plus a (plus x y)
around a x y l =
    ap (λ s. plus s (plus a y)) (plus_comm (plus a x) a ∙ plus_twice a x l) ∙ sym (plus_assoc x a y) ∙ ap (λ s. plus s y) (plus_comm x a) ∙ plus_assoc a x y

module _ (k : ℕ) (test : Pattern → Bool) where
  pub rows_hold : (l : List Pattern) → Lists k test l → (x : Pattern) → length x ≡ k → test x ≡ true → meets_all (hull_from k l).rows x ≡ true
  unfolding hull_from
  rows_hold [] lists x e h = lists.every (λ y. meets_all (hull_from k []).rows y ≡ true) tt x e h
  rows_hold (a ∷ xs) lists x e h =
      let ss = pivots_from a (replicate k none) xs in
      meets_spans a ss x
      ∙ lists.every (λ y. spans ss (plus a y) ≡ true)
      (ap (spans ss) (plus_self a) ∙ spans_zeros ss (length a), spans_each a (replicate k none) xs)
      x
      e
      h

  rows_least : (l : List Pattern) → Lists k test l → (x : Pattern) → length x ≡ k → meets_all (hull_from k l).rows x ≡ true
      → (A : Pattern → Bool) → Affine k A → ((y : Pattern) → length y ≡ k → test y ≡ true → A y ≡ true) → A x ≡ true
  unfolding hull_from
  rows_least [] lists x e h A affine holds =
      absurd (false≢true (ap (λ b. beq b true && true) (sym (dot_zeros k x)) ∙ h))
  rows_least (a ∷ xs) lists x e h A affine holds = rw (plus_twice a x (l ∙ sym e)) at found.1
    where
      ss : Pivots
      ss = pivots_from a (replicate k none) xs

      l : length a ≡ k
      l = (lengths k test (a ∷ xs) lists).0

      fit : (length ss ≡ k) × Sized ss
      fit = pivots_fit k test a xs lists

      D : List Bool → Type 0
      D d = (length d ≡ k) × (A (plus a d) ≡ true)

      fits : (y : Pattern) → length y ≡ k → length (plus a y) ≡ k
      fits y d = length_plus a y (l ∙ sym d) ∙ d

      differences : Each (λ y. D (plus a y)) (a ∷ xs)
      differences = lists.each (λ y. D (plus a y)) (λ y d g. (fits y d, rw (plus_twice a y (l ∙ sym d)) (holds y d g)))

      within : A a ≡ true
      within = (lists.each (λ y. A y ≡ true) holds).0

      summing : Summing D
      summing y z p q = (
        length_plus y z (p.0 ∙ sym q.0) ∙ q.0,
        rw (around a y z (l ∙ sym p.0)) at (affine (plus a y) a (plus a z) (fits y p.0) l (fits z q.0) p.1 within q.1),
      )

      found : D (plus a x)
      found =
          within_spans D ss (plus a x) summing (subst D (plus_self a ∙ ap zeros (l ∙ sym fit.0)) differences.0)
          (within_pivots D k a xs summing differences.1)
          fit.1
          (fits x e ∙ sym fit.0)
          (sym (meets_spans a ss x) ∙ h)

pub smallest_affine : SmallestAffine
unfolding hull_of
smallest_affine k words x e =
    let rs = (hull_of k words).rows in
    let lists = table_lists k words in (
      rows_least k (allows words) (allowed k words) lists x e,
      λ all. all (meets_all rs) (λ y z w _ _ _. all_three rs y z w) (rows_hold k (allows words) (allowed k words) lists),
    )
