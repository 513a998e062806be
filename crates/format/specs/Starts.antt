-- The records of a file, by their offsets.
use Rattle.std.specs.Prelude.{ℕ, ◌≡◌, ◌≤◌, ◌<◌, zero, suc, List, [], ◌∷◌, cond, length, ltb, Option, MatchOption}
use Rattle.format.specs.Format.{next_at}
use Rattle.format.specs.declared.Record.{Record}
use Rattle.format.specs.declared.Records.{Records}

-- Those from o on, as far as some fuel reaches; a record has bytes, so the length of the file is enough.
unfoldable pub starts_from : ℕ → List ℕ → ℕ → List ℕ
starts_from zero file o = []
starts_from (suc fuel) file o = cond (ltb o (length file)) (o ∷ starts_from fuel file (next_at file o)) []

unfoldable pub starts : List ℕ → ℕ → List ℕ
starts file o = starts_from (length file) file o

-- One of them, and what is left after it: there is one at every offset within the file, and the next begins where it ends.
abbrev pub NextRecord : Records → Option Record → Records → Type 0
NextRecord s r t =
    let o = s.next.offset in
    MatchOption r (length s.next.file.now ≤ o)
    (λ x. (o < length s.next.file.now) × (x ≡ s.next) × (t.next ≡ record { file = s.next.file; offset = next_at s.next.file.now o }))
