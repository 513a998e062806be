-- How many assignments of n atoms pass a test. Every one is looked at, so the count needs no trust.
-- Document 01: "a way is an assignment of all n atoms".
use Rattle.std.specs.Prelude.{ℕ, zero, suc, ◌+◌, [], ◌∷◌, Bool, true, false, cond}
use Rattle.rows.specs.Row.{Assignment}

unfoldable pub count : ℕ → (Assignment → Bool) → ℕ
count zero P = cond (P []) 1 0
count (suc n) P = count n (λ x. P (false ∷ x)) + count n (λ x. P (true ∷ x))
