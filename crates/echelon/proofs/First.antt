-- The first word of a row that is not empty, as `position` tells it.
use Rattle.std.proofs.Common.{◌≡◌, ℕ, zero, suc, ◌+◌, ◌*◌, ◌<◌, ◌≤◌, ◌==◌, Bool, true, false, not, List, length, get_or, position, Some, None, eqb, refl, sym, add-one, arith}
use Rattle.std.specs.List.{position_or_len}
use Rattle.std.proofs.lemmas.List.Sums.{fails_before_first}
use Rattle.std.proofs.lemmas.List.Quantifiers.{position-Some}
use borrow.Author.Tests.{eqb-true, ltb-false}
use lib.Dec.{ltb}
use mathlib.Core.Bool.{cond}
use Rattle.rows.specs.Flat.{row}
use Rattle.rows.proofs.Places.{row_length}
use Rattle.echelon.specs.Steps.{Clean, EmptyTo}
use Rattle.echelon.proofs.Turns.{row_word}
use Rattle.echelon.proofs.Finishing.{empty_start, empty_next}

abbrev some_word : ℕ → Bool
some_word x = not (x == 0)

none_word : (x : ℕ) → some_word x ≡ false → x ≡ 0
none_word x e = go (eqb x 0) refl e
  where
    go : (b : Bool) → eqb x 0 ≡ b → not b ≡ false → x ≡ 0
    go true is e = eqb-true x 0 is
    go false is e = cc

word_there : (x : ℕ) → some_word x ≡ true → 0 < x
word_there zero e = cc
word_there (suc x) e = omega arith

none_passes : (l : List ℕ) → None ≡ position some_word l → length l ≤ position_or_len some_word l
none_passes l e = go (ltb (position_or_len some_word l) (length l)) refl e
  where
    go : (b : Bool) → ltb (position_or_len some_word l) (length l) ≡ b → None ≡ cond b (Some (position_or_len some_word l)) None
        → length l ≤ position_or_len some_word l
    go true is e = cc
    go false is e = ltb-false _ _ is

-- word i is the first of row t that is not empty
pub record First (w t : ℕ) (ws : List ℕ) (i : ℕ) : Type 0 where
  pub inside : i < w
  pub below : EmptyTo w t ws i
  pub some : 0 < get_or ws (t * w + i) 0

module _ {n w t : ℕ} {ws cs : List ℕ} (clean : Clean n w t ws cs) where
  empty_before : (i : ℕ) → i ≤ w → ((k : ℕ) → k < i → get_or (row w ws t) k 0 ≡ 0) → EmptyTo w t ws i
  empty_before zero h each = empty_start w t ws
  empty_before (suc i) h each =
      rw (← add-one i) (empty_next w t ws i clean.words (omega arith) (each i (omega arith)) (empty_before i (omega arith) (λ k l. each k (omega arith))))

  pub first_none : None ≡ position (λ word. not (word == 0)) (row w ws t) → EmptyTo w t ws w
  first_none e =
      let all : w ≤ position_or_len some_word (row w ws t) = omega (arith, row_length w ws t clean.words, none_passes (row w ws t) e) in
      empty_before w (omega arith) (λ k h. none_word _ (fails_before_first some_word (row w ws t) k 0 (omega arith)))

  pub first_some : {i : ℕ} → Some i ≡ position (λ word. not (word == 0)) (row w ws t) → First w t ws i
  first_some {i} e =
      let found = position-Some some_word (row w ws t) i 0 (sym e) in
      let inside : i < w = omega (arith, row_length w ws t clean.words, found.0) in
      record {
        inside = inside;
        below = empty_before i (omega arith) (λ k h. none_word _ (found.2 k h));
        some = rw (row_word w t ws i inside) at (word_there _ found.1);
      }
