-- The union of one word of each part, one part more.
use Prim.Native.Nat.{ℕ, suc, ◌+◌, ◌*◌}
use mathlib.Core.Path.{◌≡◌, refl, ap, ◌∙◌}
use mathlib.Core.List.{List}
use native.Mathlib.Numerals.{add-one}
use lib.ListN.{get_or}
use lib.Bits.{bit_or}
use Rattle.rows.specs.Calls.{union_of}

module _ (w i : ℕ) (ws : List ℕ) where
  pub union_start : union_of w i ws 0 ≡ 0
  unfolding union_of
  union_start = refl

  union_more : (m : ℕ) → union_of w i ws (suc m) ≡ bit_or (union_of w i ws m) (get_or ws (m * w + i) 0)
  unfolding union_of
  union_more m = refl

  pub union_step : (m : ℕ) → union_of w i ws (m + 1) ≡ bit_or (union_of w i ws m) (get_or ws (m * w + i) 0)
  union_step m = ap (union_of w i ws) (add-one m) ∙ union_more m
