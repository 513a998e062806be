-- What `words` answers of a row's words and a mask of eight.
use Prim.Native.Nat.{ℕ, ◌*◌, ◌^◌, ◌≤◌}
use mathlib.Core.Path.{◌≡◌, sym, ap, ap₂, ◌∙◌}
use mathlib.Core.List.{List}
use mathlib.Core.Bool.{Bool, true, false, cond}
use native.Mathlib.Omega.{arith}
use borrow.Author.Tests.{eq-eqb, lt-ltb}
use lib.ListN.{length, take}
use lib.Seq.{length-take-le}
use lib.Bits.{bit_and}
use lib.Count.{ones}
use lib.Dec.{eqb}
use Rattle.std.specs.Prelude.{Result, Ok, Err}
use Rattle.std.specs.Result.{result_unwrap_or}
use Rattle.words.specs.Set.{set_of, odd}
use Rattle.words.specs.Calls.{narrow, parity_of, intersection_of}
use Rattle.words.specs.declared.Unfit.{Unfit}
use Rattle.words.specs.declared.Unfit.TheVariants.{Unequal, TooWide}
use Rattle.words.proofs.Common.{and_take}

module _ (l mask : List ℕ) (few : length l ≤ 8) (eight : length mask ≡ 8) where
  same : eqb (length l) (length (take (length l) mask)) ≡ true
  same = eq-eqb _ _ (sym (length-take-le (length l) mask (omega arith)))

  narrow_few : narrow (length l) ≡ true
  narrow_few = lt-ltb (length l * 64) (2 ^ 64) (omega arith)

  -- of the mask the words that the row has count, and no others
  pub count_is : (c : Result ℕ Unfit) → c ≡ intersection_of l (take (length l) mask) → result_unwrap_or c 0 ≡ ones (bit_and (set_of l) (set_of mask))
  unfolding intersection_of
  count_is c is =
      ap (λ (o : Result ℕ Unfit). result_unwrap_or o 0)
      (is
      ∙ ap₂ (λ (t e : Bool). let r : Result ℕ Unfit = cond t (cond e (Ok (ones (bit_and (set_of l) (set_of (take (length l) mask))))) (Err TooWide)) (Err Unequal) in r)
      same narrow_few)
      ∙ ap ones (and_take 64 l mask)

  pub odd_is : (c : Result Bool Unfit) → c ≡ parity_of l (take (length l) mask) → result_unwrap_or c false ≡ odd (ones (bit_and (set_of l) (set_of mask)))
  unfolding parity_of
  odd_is c is =
      ap (λ (o : Result Bool Unfit). result_unwrap_or o false)
      (is ∙ ap (λ (t : Bool). let r : Result Bool Unfit = cond t (Ok (odd (ones (bit_and (set_of l) (set_of (take (length l) mask)))))) (Err Unequal) in r) same)
      ∙ ap (λ (x : ℕ). odd (ones x)) (and_take 64 l mask)
