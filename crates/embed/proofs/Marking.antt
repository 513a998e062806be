-- One turn of the loops of `embed`: an atom set, a row put back in its place.
use Prim.Native.Nat.{ℕ, ◌+◌, ◌-◌, ◌/◌, ◌%◌, ◌≤◌, ◌<◌}
use mathlib.Core.Path.{◌≡◌, ap, ap₂, ◌∙◌}
use mathlib.Core.List.{List, ◌++◌}
use native.Mathlib.Nat.{add-sub_cancel_left}
use native.Mathlib.Numerals.{add-one}
use native.Mathlib.Omega.{arith}
use lib.ListN.{length, get_or, take, drop, replicate, length-append, length-drop, length-replicate, drop_of_length-le}
use lib.Seq.{drop-cons, drop-drop, length-take-le}
use borrow.Rule.Slice.PartMut.{put_mid}
use borrow.Author.Tests.{eq-eqb, ne_eqb}
use Rattle.words.specs.Calls.{inserted}
use Rattle.embed.specs.Written.{marked}
use Rattle.embed.proofs.Writing.{marked_length}

module _ (names : List ℕ) (i c : ℕ) (ws ws' : List ℕ) (h : i < length names) where
  pub marked_set : c % 2 ≡ 1 → ws' ≡ inserted ws (get_or names i 0) → marked (drop (i + 1) names) (c / 2) ws' ≡ marked (drop i names) c ws
  unfolding marked
  marked_set o e = rw (e, add-one, drop-cons names i 0) (rw (marked, eq-eqb _ _ o))

  pub marked_left : (c % 2 ≡ 1 → ⊥) → ws' ≡ ws → marked (drop (i + 1) names) (c / 2) ws' ≡ marked (drop i names) c ws
  unfolding marked
  marked_left o e = rw (e, add-one, drop-cons names i 0) (rw (marked, ne_eqb _ _ o))

pub marked_end : (names : List ℕ) (i c : ℕ) (ws : List ℕ) → length names ≤ i → ws ≡ marked (drop i names) c ws
unfolding marked
marked_end names i c ws h = rw (drop_of_length-le names h)

-- ---- a row put back in its place

module _ (names : List ℕ) (c a w : ℕ) (xs y : List ℕ) (fits : a + w ≤ length xs)
    (is : y ≡ marked names c (replicate (length (take (a + w - a) (drop a xs))) 0)) where
  wide : length (take (a + w - a) (drop a xs)) ≡ w
  wide = length-take-le (a + w - a) (drop a xs) (simp length-drop (omega arith)) ∙ add-sub_cancel_left a w

  pub put_row : put_mid a (a + w - a) xs y ≡ take a xs ++ (marked names c (replicate w 0) ++ drop (a + w) xs)
  put_row =
      ap₂ (λ r t. take a xs ++ (r ++ t)) (is ∙ ap (λ n. marked names c (replicate n 0)) wide)
      (drop-drop (a + w - a) a xs ∙ ap (λ n. drop (a + n) xs) (add-sub_cancel_left a w))

  pub put_length : length (put_mid a (a + w - a) xs y) ≡ length xs
  put_length =
      let row : length (marked names c (replicate w 0)) ≡ w = marked_length names c (replicate w 0) ∙ length-replicate {A = ℕ} w 0 in
      ap length put_row ∙ simp length-append (omega (arith, row, length-take-le a xs (omega arith), length-drop (a + w) xs))
