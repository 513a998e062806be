-- A table is exact when it allows as many patterns as meet its rows, so exactly when it allows just those. Where some pattern is allowed,
-- 2^rank meet the rows, and the rank is k less the number of rows.
use Prim.Native.Nat.{ℕ, ◌+◌, ◌-◌, ◌^◌}
use mathlib.Core.Path.{◌≡◌, refl, sym, ap, ap₂, ◌∙◌}
use mathlib.Core.List.{List, [], ◌∷◌, map}
use mathlib.Core.Bool.{Bool, true, false, ◌&&◌, beq}
use mathlib.Core.Option.{none, some}
use native.Mathlib.Omega.{arith}
use borrow.Author.Tests.{eqb-true, eq-eqb}
use lib.Dec.{eqb}
use lib.ListN.{length, replicate, length-map}
use Rattle.rows.specs.Row.{meets_all}
use Rattle.rows.specs.Count.{count}
use Rattle.rows.proofs.Counting.{count_ext, count_none}
use Rattle.hull.specs.Table.{Pattern, allowed, allows}
use Rattle.hull.specs.Equations.{Pivots, pivots_from, equations, through, rank, hull_from, hull_of}
use Rattle.hull.specs.Promises.{ExactIsSet, ExactIsCount}
use Rattle.rows.proofs.Plus.{plus_comm}
use Rattle.hull.proofs.Counts.{count_moved, count_same}
use Rattle.hull.proofs.Dot.{dot, dot_zeros}
use Rattle.hull.proofs.Spans.{spans, spans_count}
use Rattle.hull.proofs.Even.{meets_spans}
use Rattle.hull.proofs.Allowed.{Lists, lengths, pivots_fit, table_lists}
use Rattle.hull.proofs.Smallest.{rows_hold}

pub rank_free : (ss : Pivots) → rank ss + length (equations ss) ≡ length ss
rank_free [] = refl
rank_free (none ∷ ss) = omega (arith, length-map (equations ss) (λ c. false ∷ c), rank_free ss)
rank_free (some t ∷ ss) = omega (arith, length-map (equations ss) (λ c. dot c t ∷ c), rank_free ss)

module _ (k : ℕ) (test : Pattern → Bool) where
  rank_counts : (a : Pattern) (xs : List Pattern) → Lists k test (a ∷ xs)
      → count k (meets_all (hull_from k (a ∷ xs)).rows) ≡ 2 ^ rank (pivots_from a (replicate k none) xs)
  unfolding hull_from
  rank_counts a xs lists =
      let ss = pivots_from a (replicate k none) xs in
      let fit = pivots_fit k test a xs lists in
      count_ext (λ x e. meets_spans a ss x ∙ ap (spans ss) (plus_comm a x))
      ∙ rw (lengths k test (a ∷ xs) lists).0 at (count_moved a (spans ss))
      ∙ rw fit.0 at (spans_count ss fit.1)

  exact_counts : (l : List Pattern) → Lists k test l → (hull_from k l).exact ≡ eqb (count k test) (count k (meets_all (hull_from k l).rows))
  unfolding hull_from
  exact_counts [] lists =
      let nothing : count k (meets_all (hull_from k []).rows) ≡ 0 =
      count_ext (λ x e. ap (λ b. beq b true && true) (dot_zeros k x)) ∙ count_none k in
      ap₂ eqb (sym lists.many) (sym nothing)
  exact_counts (a ∷ xs) lists = ap₂ eqb (sym lists.many) (sym (rank_counts a xs lists))

  rows_count : (l : List Pattern) → Lists k test l → (y : Pattern) → length y ≡ k → test y ≡ true
      → count k (meets_all (hull_from k l).rows) ≡ 2 ^ (k - length (hull_from k l).rows)
  unfolding hull_from
  rows_count [] lists y e h = absurd (lists.every (λ x. ⊥) tt y e h)
  rows_count (a ∷ xs) lists y e h =
      let ss = pivots_from a (replicate k none) xs in
      let free : rank ss ≡ k - length (map (through a) (equations ss)) =
      omega (arith, rank_free ss, length-map (equations ss) (through a), (pivots_fit k test a xs lists).0) in
      rank_counts a xs lists ∙ ap (◌^◌ 2) free

pub exact_is_set : ExactIsSet
unfolding hull_of
exact_is_set k words =
    let l = allowed k words in
    let lists = table_lists k words in
    let rows = meets_all (hull_from k l).rows in
    let counts = exact_counts k (allows words) l lists in (
      λ exact. count_same k (allows words) rows (rows_hold k (allows words) l lists) (eqb-true _ _ (sym counts ∙ exact)),
      λ same. counts ∙ eq-eqb _ _ (count_ext same),
    )

pub exact_is_count : ExactIsCount
unfolding hull_of
exact_is_count k words y e h =
    let l = allowed k words in
    let lists = table_lists k words in
    let counts : (hull_of k words).exact ≡ eqb (count k (allows words)) (2 ^ (k - length (hull_of k words).rows)) =
    exact_counts k (allows words) l lists ∙ ap (eqb (count k (allows words))) (rows_count k (allows words) l lists y e h) in
    (λ exact. eqb-true _ _ (sym counts ∙ exact), λ same. counts ∙ eq-eqb _ _ same)
