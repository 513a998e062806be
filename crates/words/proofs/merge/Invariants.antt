-- the first words are joined
use Rattle.std.proofs.Common.{◌≡◌, ◌<◌, ◌^◌, ℕ}
use Rattle.words.proofs.Merged.{up_to}
use Rattle.words.proofs.merge.Given as goal

abbrev pub invariant-loop-i : goal.invariant-loop-i
invariant-loop-i g l =
    (f : ℕ → ℕ → ℕ) → ((a b : ℕ) → a < 2 ^ 64 → b < 2 ^ 64 → (r : ℕ) → goal.F-post g l.op a b r → r ≡ f a b) → l.left ≡ up_to f l.i l.fn.left l.right
