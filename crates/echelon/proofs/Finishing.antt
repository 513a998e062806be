-- The turns of `reduce`: one word after another, until a word has an atom without a pivot or the row is empty.
use Prim.Native.Nat.{ℕ, ◌+◌, ◌*◌, ◌/◌, ◌%◌, ◌^◌, ◌≤◌, ◌<◌}
use mathlib.Core.Path.{◌≡◌, refl, sym, ap, ◌∙◌}
use mathlib.Core.List.{List, [], ◌∷◌, ◌++◌}
use mathlib.Core.Bool.{true}
use mathlib.Core.Option.{none, some}
use Rattle.std.specs.Prelude.{Some, None}
use native.Mathlib.Nat.{mod-eq_of_lt}
use native.Mathlib.Numerals.{add-one}
use native.Mathlib.Omega.{arith}
use lib.ListN.{length, get_or, take}
use lib.Seq.{take-suc, take_all}
use lib.Count.{count_trailing_zeros}
use lib.Pow.{pow_pos}
use lib.Dec.{eqb}
use Rattle.words.specs.Set.{packed, set_of, has}
use Rattle.words.proofs.Meaning.{has_none}
use Rattle.rows.specs.Flat.{row, row_at}
use Rattle.rows.proofs.Places.{row_length}
use Rattle.rows.proofs.Rowwise.{atoms_none}
use Rattle.echelon.specs.Forward.{empty, find, reduced}
use Rattle.echelon.specs.Eliminate.{rows_to}
use Rattle.echelon.specs.Promises.{Lowest}
use Rattle.echelon.specs.declared.directory.NewPivot.{NewPivot}
use Rattle.echelon.specs.declared.directory.Pivot.{Pivot}
use Rattle.echelon.specs.Steps.{Clean, OnlyRow, EmptyTo, no_pivot, ListsPivots, head_of, Reduced, Finished}
use Rattle.echelon.proofs.Lows.{find_none, empty_none}
use Rattle.echelon.proofs.Replaced.{row_at_length, row_kept, at_kept, clean_kept, rows_kept, only_start, only_join}
use Rattle.echelon.proofs.Onwards.{onward_start, onward_join, onward_few, onward_end}
use Rattle.echelon.proofs.Turns.{from, from_whole}
use Rattle.echelon.proofs.Looks.{atom_below, atom_lowest, atom_word, head_at}

-- ---- the directory speaks of the rows before row t alone

module _ {n w t : ℕ} {ws cs ws' cs' : List ℕ} {pivots : List Pivot} (only : OnlyRow w t ws cs ws' cs') (dir : ListsPivots n w t ws cs pivots) where
  rows_same : rows_to n w ws' cs' t ≡ rows_to n w ws cs t
  rows_same = rows_kept n w t t ws cs ws' cs' (omega arith) only

  pub directory_kept : ListsPivots n w t ws' cs' pivots
  directory_kept = record {
    wide = dir.wide;
    clean = λ r h. clean_kept w t r h n ws cs ws' cs' only (dir.clean r h);
    known = λ a h.
        let known = dir.known a h in
        record {
          none_yet = λ e r l. ap (find r) rows_same ∙ known.none_yet e r l;
          earlier = known.earlier;
          head = λ p. known.head p ∙ ap (λ (r : List ℕ). get_or r (a / 64) 0) (sym (row_kept w t (get_or pivots a no_pivot).source.0 (known.earlier p) n ws cs ws' cs' only));
          below = λ p. ap (λ (r : List ℕ). set_of (take (a / 64) r)) (row_kept w t (get_or pivots a no_pivot).source.0 (known.earlier p) n ws cs ws' cs' only) ∙ known.below p;
          found = λ p r l.
              ap (find r) rows_same ∙ known.found p r l
              ∙ ap some (sym (at_kept w t (get_or pivots a no_pivot).source.0 (known.earlier p) n ws cs ws' cs' only));
        };
  }

-- ---- one word more

packed_zero : (k : ℕ) (l : List ℕ) → packed k (l ++ (0 ∷ [])) ≡ packed k l
unfolding packed
packed_zero k [] = omega (arith, mod-eq_of_lt (pow_pos k))
packed_zero k (x ∷ l) = ap (λ (n : ℕ). n * 2 ^ k + x % 2 ^ k) (packed_zero k l)

pub empty_start : (w t : ℕ) (ws : List ℕ) → EmptyTo w t ws 0
unfolding packed
empty_start w t ws = refl

pub empty_next : (w t : ℕ) (ws : List ℕ) (i : ℕ) → t * w + w ≤ length ws → i < w → get_or (row w ws t) i 0 ≡ 0 → EmptyTo w t ws i → EmptyTo w t ws (i + 1)
empty_next w t ws i room h e below =
    let l = row w ws t in
    ap (λ (j : ℕ). set_of (take j l)) (add-one i) ∙ ap set_of (take-suc l i 0 (omega (arith, row_length w ws t room)))
    ∙ ap (λ (v : ℕ). set_of (take i l ++ (v ∷ []))) e ∙ packed_zero 64 (take i l) ∙ below

module _ {n w t : ℕ} {ws cs : List ℕ} where
  pub reduced_start : (i : ℕ) → Clean n w t ws cs → EmptyTo w t ws i → Reduced n w t i ws cs ws cs 0
  reduced_start i clean below = record {
    only = only_start w t ws cs;
    clean = clean;
    below = below;
    fits = λ f. f;
    onward = onward_start (rows_to n w ws cs t) (row_at n w ws cs t);
  }

  module _ {i : ℕ} {ws' cs' : List ℕ} {k : ℕ} (so : Reduced n w t i ws cs ws' cs' k) where
    pub reduced_join : {ws'' cs'' : List ℕ} {j : ℕ} → Reduced n w t i ws' cs' ws'' cs'' j → Reduced n w t i ws cs ws'' cs'' (k + j)
    reduced_join {ws''} {cs''} {j} on = record {
      only = only_join w t ws cs ws' cs' ws'' cs'' so.only on.only;
      clean = on.clean;
      below = on.below;
      fits = λ f. on.fits (so.fits f);
      onward =
          onward_join (rows_to n w ws cs t) (row_at n w ws cs t) k (row_at n w ws' cs' t) so.onward j (row_at n w ws'' cs'' t)
          (rw (rows_kept n w t t ws cs ws' cs' (omega arith) so.only) at on.onward);
    }

    wide : length (row w ws' t) ≡ w
    wide = row_length w ws' t so.clean.words

    -- word i is empty
    pub reduced_next : i < w → get_or (row w ws' t) i 0 ≡ 0 → Reduced n w t (i + 1) ws cs ws' cs' k
    reduced_next h e = record {
      only = so.only;
      clean = so.clean;
      below = empty_next w t ws' i so.clean.words h e so.below;
      fits = so.fits;
      onward = so.onward;
    }

    pub reduced_few : k ≤ n
    reduced_few = onward_few (rows_to n w ws cs t) (row_at n w ws cs t) k (row_at n w ws' cs' t) so.onward n (row_at_length n w ws cs t)

    ended : find (row_at n w ws' cs' t) (rows_to n w ws cs t) ≡ none
        → (row_at n w ws' cs' t, k) ≡ reduced n (rows_to n w ws cs t) (row_at n w ws cs t)
    ended e = onward_end (rows_to n w ws cs t) (row_at n w ws cs t) k (row_at n w ws' cs' t) so.onward n (row_at_length n w ws cs t) e

    -- every word is empty
    module _ (all : w ≤ i) where
      none_set : set_of (row w ws' t) ≡ 0
      none_set = ap set_of (sym (take_all i (row w ws' t) (omega (arith, wide)))) ∙ so.below

      none_atom : empty (row_at n w ws' cs' t).atoms ≡ true
      unfolding row_at
      none_atom = empty_none (row_at n w ws' cs' t) (λ a. atoms_none n (set_of (row w ws' t)) a (ap (λ (x : ℕ). has x a) none_set ∙ has_none a))

      pub finished_empty : Finished n w t ws cs ws' cs' None k
      finished_empty = record {
        only = so.only;
        clean = so.clean;
        few = reduced_few;
        fits = so.fits;
        row = ended (find_none (row_at n w ws' cs' t) none_atom (rows_to n w ws cs t));
        pivot_is = none_atom;
      }

    -- word i has an atom, and its lowest one no pivot
    module _ {pivots : List Pivot} {word : ℕ} (dir : ListsPivots n w t ws cs pivots) (inside : i < w) (is : word ≡ get_or (row w ws' t) i 0)
        (fits : word < 2 ^ 64) (some_atom : 0 < word) (none_yet : head_of pivots i word ≡ 0) where
      a : ℕ
      a = i * 64 + count_trailing_zeros 64 word

      whole : set_of (row w ws' t) ≡ from (row w ws' t) i word
      whole = from_whole (row w ws' t) i (omega (arith, wide)) (rw (sym is) fits) so.below ∙ ap (from (row w ws' t) i) (sym is)

      small : from (row w ws' t) i word < 2 ^ n
      small = rw (sym whole) so.clean.atoms

      lowest : Lowest (row_at n w ws' cs' t) a
      unfolding row_at a
      lowest = rw whole (atom_lowest n i word (row w ws' t) some_atom fits small (eqb (get_or cs' t 0) 1))

      pub finished_pivot : {p : NewPivot} → p.head ≡ word → p.lowest.0 ≡ i * 64 + count_trailing_zeros 64 word → Finished n w t ws cs ws' cs' (Some p) k
      unfolding a
      finished_pivot head_is lowest_is =
          let below = atom_below n i word (row w ws' t) some_atom fits small in
          let place = atom_word n i word (row w ws' t) some_atom fits small in
          let none_here : (get_or pivots a no_pivot).head ≡ 0 = sym (head_at pivots i word some_atom) ∙ none_yet in
          record {
            only = so.only;
            clean = so.clean;
            few = reduced_few;
            fits = so.fits;
            row = ended ((dir.known a below).none_yet none_here (row_at n w ws' cs' t) lowest);
            pivot_is =
                rw (head_is, lowest_is)
                (record {
                  some = some_atom;
                  atom = below;
                  is = lowest;
                  head_is = is ∙ ap (λ (j : ℕ). get_or (row w ws' t) j 0) (sym place);
                  below = ap (λ (j : ℕ). set_of (take j (row w ws' t))) place ∙ so.below;
                });
          }
