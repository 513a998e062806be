-- The theorem of `text`, as a statement; src/promises.rt holds it.
use Rattle.std.specs.Prelude.{ℕ, ◌+◌, ◌≤◌, ◌≡◌, List, ◌++◌, length, take, drop}
use Rattle.text.specs.Text.{Wrote}

-- Where there is room all of a text is written, and what lies before and after it stays.
abbrev pub WrittenWhole : Type 0
WrittenWhole = (l s m : List ℕ) (p q : ℕ) → Wrote l p s m q → p + length s ≤ length l
    → (q ≡ p + length s) × (m ≡ take p l ++ s ++ drop (p + length s) l)
