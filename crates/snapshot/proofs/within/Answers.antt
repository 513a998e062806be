-- Two masks have one width, so there is a yes or no.
use Rattle.std.proofs.Common.{◌≡◌, ℕ, List, false, length, ap, ◌∙◌, Result, Bool}
use Rattle.std.specs.Result.{result_unwrap_or}
use Rattle.words.specs.Set.{set_of, subset}
use Rattle.words.specs.Calls.{subset_of}
use Rattle.words.specs.declared.Unfit.{Unfit}
use Rattle.snapshot.proofs.within.Goals as goal

yes_is : (l r : List ℕ) → length l ≡ 8 → length r ≡ 8 → result_unwrap_or (subset_of l r) false ≡ subset (set_of l) (set_of r)
unfolding subset_of
yes_is l r hl hr = simp (hl, hr)

pub returns : goal.returns
returns c =
    c.unwrap_or.ensures ∙ ap (λ (o : Result Bool Unfit). result_unwrap_or o false) c.is_subset_of.ensures
    ∙ yes_is c.args.left.now c.args.right.now c.told-left c.told-right
