-- The atoms of a mask, one after the other.
use Rattle.std.specs.Prelude.{ℕ, ◌+◌, ◌/◌, ◌^◌, ◌≤◌, ◌<◌, ◌≡◌, true, false, cond, eqb, Option, Some, None, MatchOption}
use Rattle.words.specs.Set.{set_of, has, low}
use Rattle.region.specs.declared.Atoms.{Atoms}

-- The lowest atom from a place on in a set, if it has one there.
unfoldable pub next_of : ℕ → ℕ → Option ℕ
next_of x from = cond (eqb (x / 2 ^ from) 0) None (Some (from + low (x / 2 ^ from)))

-- A set has no atom from one place on up to another.
abbrev pub Clear : ℕ → ℕ → ℕ → Type 0
Clear x from end = (a : ℕ) → from ≤ a → a < end → has x a ≡ false

-- A step of a visit gives the lowest atom that is left below the end, and goes on after it.
abbrev pub Visits : Atoms → Option ℕ → Atoms → Type 0
Visits s r t =
    (t.mask.now ≡ s.mask.now) × (t.end ≡ s.end)
    × MatchOption r (Clear (set_of s.mask.now) s.from s.end) (λ a.
    (s.from ≤ a) × (a < s.end) × (has (set_of s.mask.now) a ≡ true) × Clear (set_of s.mask.now) s.from a × (t.from ≡ a + 1))
