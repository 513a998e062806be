-- What a file hands in, by the fold over its records: one record more, the end; and where the file is taken, what its parts are.
use Prim.Native.Nat.{ℕ, ◌+◌, ◌*◌, ◌≤◌, ◌<◌}
use mathlib.Core.Path.{◌≡◌, refl, sym, ap, ap₂, subst, ◌∙◌}
use mathlib.Core.List.{List, [], ◌∷◌, ◌++◌, append-nil, append_assoc, map, reverse, reverse-cons}
use mathlib.Core.Bool.{Bool, true, false, cond}
use native.Mathlib.Omega.{arith}
use borrow.Author.Tests.{eqb-true, eq-eqb, ne_eqb}
use lib.ListN.{length, length-append, length-map}
use lib.Dec.{eqb}
use Rattle.rows.specs.Row.{Row}
use Rattle.rows.specs.Flat.{row_at}
use Rattle.hull.specs.Propose.{table_words}
use Rattle.hull.specs.Equations.{hull_of}
use Rattle.echelon.specs.Eliminate.{rows_to, words_of, constants_of}
use Rattle.echelon.specs.Promises.{Sized, numbered}
use Rattle.echelon.proofs.Numbered.{numbered_last, numbered_before}
use Rattle.echelon.proofs.Written.{numbered_at}
use Rattle.embed.specs.Embed.{row_over}
use Rattle.embed.specs.Parts.{Part, row, table, FitParts, rows_of, all_rows}
use Rattle.embed.proofs.Embedded.{spread_length}
use Rattle.format.specs.Format.{kind_at, next_at, atom_at, row_atoms, k_at, table_atoms, table_word_at, table_at}
use Rattle.format.specs.Starts.{starts}
use Rattle.format.proofs.Listing.{list_length}
use Rattle.format.proofs.Offsets.{starts_nil, starts_cons}
use Rattle.records.specs.Rows.{rows_at}
use Rattle.records.specs.Promises.{RecordFit, RecordsFit, rows_in}
use Rattle.load.specs.Parts.{row_in, parts_at, parts_from}
use Rattle.load.proofs.Inserted.{set_length}

-- ---- the rows of one record, by its kind

module _ (file : List ℕ) (n o : ℕ) where
  abbrev here : List Row
  here = all_rows n (parts_at file n o)

  pub here_row : kind_at file o ≡ 2 → here ≡ row_in file n o ∷ []
  unfolding parts_at
  here_row e = rw (eq-eqb (kind_at file o) 2 e)

  pub here_table : kind_at file o ≡ 3 → here ≡ rows_of n (table (table_atoms file o) (table_at file o))
  unfolding parts_at
  here_table e =
      let z : kind_at file o ≡ 2 → ⊥ = λ d. omega arith in
      rw (ne_eqb (kind_at file o) 2 z, eq-eqb (kind_at file o) 3 e) (append-nil _)

  pub here_none : (kind_at file o ≡ 2 → ⊥) → (kind_at file o ≡ 3 → ⊥) → here ≡ []
  unfolding parts_at
  here_none z y = rw (ne_eqb (kind_at file o) 2 z, ne_eqb (kind_at file o) 3 y)

  -- ---- one record more, and the end

  rows_both : (ps qs : List Part) → all_rows n (ps ++ qs) ≡ all_rows n ps ++ all_rows n qs
  rows_both [] qs = refl
  rows_both (p ∷ ps) qs = ap (λ (l : List Row). rows_of n p ++ l) (rows_both ps qs) ∙ sym (append_assoc (rows_of n p) (all_rows n ps) (all_rows n qs))

  abbrev pub from : ℕ → List Row
  from i = all_rows n (parts_from file n (starts file i))

  pub from_more : o < length file → from o ≡ here ++ from (next_at file o)
  unfolding parts_from
  from_more h = ap (λ (os : List ℕ). all_rows n (parts_from file n os)) (starts_cons file o h) ∙ rows_both (parts_at file n o) (parts_from file n (starts file (next_at file o)))

  pub from_end : length file ≤ o → from o ≡ []
  unfolding parts_from
  from_end h = ap (λ (os : List ℕ). all_rows n (parts_from file n os)) (starts_nil file o h)

  pub fit_more : o < length file → RecordsFit file n (starts file o) → RecordFit file n o × RecordsFit file n (starts file (next_at file o))
  fit_more h fit = subst (RecordsFit file n) (starts_cons file o h) fit

-- ---- parts of fit records are fit, and their rows are counted

module _ (file : List ℕ) (n : ℕ) where
  fit_both : (ps qs : List Part) → FitParts n ps → FitParts n qs → FitParts n (ps ++ qs)
  fit_both [] qs f g = g
  fit_both (p ∷ ps) qs f g = (f.0, fit_both ps qs f.1 g)

  named_length : (o : ℕ) → length (table_atoms file o) ≡ k_at file o
  named_length o = list_length (atom_at file o) 0 (k_at file o)

  here_fit : (o : ℕ) → RecordFit file n o → FitParts n (parts_at file n o)
  unfolding parts_at
  here_fit o fit = two (eqb (kind_at file o) 2) refl
    where
      three : (t : Bool) → eqb (kind_at file o) 3 ≡ t → FitParts n (cond t (table (table_atoms file o) (table_at file o) ∷ []) [])
      three true e =
          let k = named_length o in
          let f = fit.table (eqb-true _ _ e) in
          let words = list_length (table_word_at file o) 0 (table_words (k_at file o)) in (
            (f.1, omega (arith, f.0), words ∙ ap table_words (sym k), ap (λ (i : ℕ). (hull_of i (table_at file o)).exact) k ∙ f.2),
            tt,
          )
      three false e = tt

      two : (t : Bool) → eqb (kind_at file o) 2 ≡ t
          → FitParts n (cond t (row (row_in file n o) ∷ []) (cond (eqb (kind_at file o) 3) (table (table_atoms file o) (table_at file o) ∷ []) []))
      two true e = (set_length n (row_atoms file o), tt)
      two false e = three (eqb (kind_at file o) 3) refl

  pub all_fit : (os : List ℕ) → RecordsFit file n os → FitParts n (parts_from file n os)
  unfolding parts_from
  all_fit [] fit = tt
  all_fit (o ∷ os) fit = fit_both (parts_at file n o) (parts_from file n os) (here_fit o fit.0) (all_fit os fit.1)

  here_count : (o : ℕ) → length (all_rows n (parts_at file n o)) ≡ rows_at file o
  unfolding parts_at rows_at
  here_count o = two (eqb (kind_at file o) 2)
    where
      three : (t : Bool)
          → length (all_rows n (cond t (table (table_atoms file o) (table_at file o) ∷ []) [])) ≡ cond t (length (hull_of (k_at file o) (table_at file o)).rows) 0
      three true =
          ap length (append-nil (rows_of n (table (table_atoms file o) (table_at file o)))) ∙ length-map (hull_of (length (table_atoms file o)) (table_at file o)).rows (row_over n (table_atoms file o))
          ∙ ap (λ (k : ℕ). length (hull_of k (table_at file o)).rows) (named_length o)
      three false = refl

      two : (t : Bool)
          → length (all_rows n (cond t (row (row_in file n o) ∷ []) (cond (eqb (kind_at file o) 3) (table (table_atoms file o) (table_at file o) ∷ []) [])))
          ≡ cond t 1 (cond (eqb (kind_at file o) 3) (length (hull_of (k_at file o) (table_at file o)).rows) 0)
      two true = refl
      two false = three (eqb (kind_at file o) 3)

  pub all_counted : (os : List ℕ) → length (all_rows n (parts_from file n os)) ≡ rows_in file os
  unfolding parts_from
  all_counted [] = refl
  all_counted (o ∷ os) =
      ap length (rows_both file n o (parts_at file n o) (parts_from file n os)) ∙ length-append (all_rows n (parts_at file n o)) (all_rows n (parts_from file n os))
      ∙ ap₂ ◌+◌ (here_count o) (all_counted os)

-- ---- rows of n atoms that stand in words are read back

module _ (n : ℕ) where
  sized_both : (rs ss : List Row) → Sized n rs → Sized n ss → Sized n (rs ++ ss)
  sized_both [] ss f g = g
  sized_both (r ∷ rs) ss f g = (f.0, sized_both rs ss f.1 g)

  sized_over : (names : List ℕ) (rs : List Row) → Sized n (map (row_over n names) rs)
  sized_over names [] = tt
  sized_over names (r ∷ rs) = (spread_length n names r.atoms, sized_over names rs)

  pub sized_rows : (qs : List Part) → FitParts n qs → Sized n (all_rows n qs)
  sized_rows [] f = tt
  sized_rows (row r ∷ qs) f = (f.0, sized_rows qs f.1)
  sized_rows (table names words ∷ qs) f = sized_both (rows_of n (table names words)) (all_rows n qs) (sized_over names (hull_of (length names) words).rows) (sized_rows qs f.1)

  pub sized_reverse : (rs : List Row) → Sized n rs → Sized n (reverse rs)
  sized_reverse [] f = tt
  sized_reverse (r ∷ rs) f = subst (Sized n) (sym (reverse-cons r rs)) (sized_both (reverse rs) (r ∷ []) (sized_reverse rs f.1) (f.0, tt))

  rows_numbered : (w : ℕ) (ws cs : List ℕ) (rs : List Row) → ((s : ℕ) → s < length rs → row_at n w ws cs s ≡ numbered rs s) → rows_to n w ws cs (length rs) ≡ rs
  unfolding rows_to
  rows_numbered w ws cs [] each = refl
  rows_numbered w ws cs (r ∷ rs) each =
      ap₂ ◌∷◌ (each (length rs) (omega arith) ∙ numbered_last r rs)
      (rows_numbered w ws cs rs (λ s h. each s (omega arith) ∙ numbered_before r rs s h))

  pub rows_back : (w : ℕ) (rs : List Row) (x y : List ℕ) → Sized n rs → n ≤ w * 64 → rows_to n w (words_of w rs ++ x) (constants_of rs ++ y) (length rs) ≡ rs
  rows_back w rs x y sized wide = rows_numbered w (words_of w rs ++ x) (constants_of rs ++ y) rs (numbered_at n w rs sized wide x y)
