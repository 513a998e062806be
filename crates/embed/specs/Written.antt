-- What `embed` leaves: a hull's equations written as rows over the atoms named, from row `first` on.
use Rattle.std.specs.Prelude.{ℕ, ◌+◌, ◌*◌, ◌/◌, List, [], ◌∷◌, ◌++◌, map, Bool, cond, ◌&&◌, length, take, drop, replicate, leb, ltb}
use Rattle.std.specs.List.{list_all}
use Rattle.words.specs.Set.{odd}
use Rattle.words.specs.Calls.{inserted}
use Rattle.rows.specs.declared.Source.{Source}
use Rattle.hull.specs.Propose.{limit}
use Rattle.hull.specs.declared.LocalEquation.{LocalEquation}
use Rattle.hull.specs.declared.Hull.{Hull}

-- The atoms named by the set bits of some coefficients, inserted.
unfoldable pub marked : List ℕ → ℕ → List ℕ → List ℕ
marked [] c ws = ws
marked (a ∷ names) c ws = marked names (c / 2) (cond (odd c) (inserted ws a) ws)

-- The words of some equations, one row of w words after another.
unfoldable pub row_words : ℕ → List ℕ → List LocalEquation → List ℕ
row_words w names [] = []
row_words w names (e ∷ es) = marked names e.coefficients (replicate w 0) ++ row_words w names es

abbrev pub one_if : Bool → ℕ
one_if b = cond b 1 0

-- Every atom named lies within a row.
abbrev pub names_within : ℕ → List ℕ → Bool
names_within w names = list_all (λ a. ltb (a / 64) w) names

-- Whether a hull's rows can be written: they lie within the rows and the constants lent, and the atoms within a row.
abbrev pub writable : ℕ → List ℕ → List ℕ → Hull → List ℕ → Source → Bool
writable w ws cs h names first =
    leb h.count limit && (leb (first.0 + h.count) (length cs) && leb ((first.0 + h.count) * w) (length ws)) && names_within w names

-- The equations in their rows, all other words and constants as they were.
unfoldable pub written_words : ℕ → List ℕ → List LocalEquation → List ℕ → Source → List ℕ
unfolding row_words
written_words w ws es names first =
    take (first.0 * w) ws ++ (row_words w names es ++ drop (first.0 * w + length es * w) ws)

abbrev pub constants_of : List LocalEquation → List ℕ
constants_of es = map (λ (e : LocalEquation). one_if e.constant) es

unfoldable pub written_constants : List ℕ → List LocalEquation → Source → List ℕ
written_constants cs es first = take first.0 cs ++ (constants_of es ++ drop (first.0 + length es) cs)
