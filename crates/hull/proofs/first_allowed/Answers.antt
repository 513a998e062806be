use Rattle.std.proofs.Common.{◌≡◌, ℕ, ◌<◌, ◌≤◌, true, false, Option, Some, None, MatchOption, rules, zero-le}
use Rattle.std.proofs.lemmas.Iterator.{first_from_Range}
use Rattle.hull.specs.Table.{forbids}
use Rattle.hull.proofs.first_allowed.Goals as goal

from_zero : (r : Option ℕ) (n : ℕ) (Yes No : ℕ → Type 0)
    → MatchOption r ((k : ℕ) → 0 ≤ k → k < n → No k) (λ i. (0 ≤ i) × (i < n) × Yes i × ((k : ℕ) → 0 ≤ k → k < i → No k))
    → MatchOption r ((k : ℕ) → k < n → No k) (λ i. (i < n) × Yes i × ((k : ℕ) → k < i → No k))
from_zero None n Yes No h = λ k l. h k zero-le l
from_zero (Some i) n Yes No h = (h.1, h.2, λ k l. h.3 k zero-le l)

pub returns : goal.returns
returns c =
    let ws = c.args.forbidden.now in
    from_zero c.find.result c.args.patterns (λ p. forbids ws p ≡ false) (λ p. forbids ws p ≡ true)
    (first_from_Range _ _ _ _ (λ p. forbids ws p ≡ false) (λ p. forbids ws p ≡ true) c.find.ensures.ran (λ x q h. search rules) (λ x q h. search rules))
