-- What the private functions of `echelon` ask and do, for their contracts and for those of `probe` alone: no reader has to believe it, since no public
-- contract cites it.
use Rattle.std.specs.Prelude.{ℕ, suc, ◌+◌, ◌*◌, ◌/◌, ◌^◌, ◌≤◌, ◌<◌, ◌≡◌, Bool, true, false, cond, length, get_or, take, drop, min, eqb, Option, MatchOption}
use mathlib.Core.List.{List, [], ◌∷◌, ◌++◌, zip_with}
use Rattle.std.proofs.Math.Option.{none, some}
use Rattle.std.specs.Int.Count.{count_trailing_zeros}
use Rattle.std.specs.Int.Bits.{bit_xor}
use Rattle.words.specs.Set.{set_of}
use Rattle.rows.specs.Row.{Row}
use Rattle.rows.specs.Flat.{row, row_at}
use Rattle.echelon.specs.Forward.{empty, find, forward, reduced}
use Rattle.echelon.specs.Eliminate.{rows_to}
use Rattle.echelon.specs.Promises.{Lowest}
use Rattle.echelon.specs.declared.directory.Pivot.{Pivot}
use Rattle.echelon.specs.declared.directory.NewPivot.{NewPivot}
use Rattle.echelon.specs.declared.reduce.Rows.{Rows}
use Rattle.echelon.specs.declared.shape.Shape.{Shape}

-- Row t lies within the words and the constants, has no atom from n on, and its constant is 0 or 1.
pub record Clean (n w t : ℕ) (ws cs : List ℕ) : Type 0 where
  pub words : t * w + w ≤ length ws
  pub constants : t < length cs
  pub atoms : set_of (row w ws t) < 2 ^ n
  pub constant : get_or cs t 0 < 2

-- Nothing but row t is changed.
pub record OnlyRow (w t : ℕ) (ws cs ws' cs' : List ℕ) : Type 0 where
  pub words : length ws' ≡ length ws
  pub constants : length cs' ≡ length cs
  pub before : take (t * w) ws' ≡ take (t * w) ws
  pub after : drop (t * w + w) ws' ≡ drop (t * w + w) ws
  pub before' : take t cs' ≡ take t cs
  pub after' : drop (suc t) cs' ≡ drop (suc t) cs

-- Each is a word of 64 bits.
abbrev pub WordsFit : List ℕ → Type 0
WordsFit ws = (i : ℕ) → get_or ws i 0 < 2 ^ 64

-- The words of row t before word i are empty.
abbrev pub EmptyTo : ℕ → ℕ → List ℕ → ℕ → Type 0
EmptyTo w t ws i = set_of (take i (row w ws t)) ≡ 0

-- The atoms of a set from its lowest one on.
abbrev pub rest : List Bool → ℕ
rest [] = 0
rest (true ∷ r) = suc (length r)
rest (false ∷ r) = rest r

-- From row r to row s by k additions of its pivots among bs: what is left to do is the same.
pub record Onward (bs : List Row) (r : Row) (k : ℕ) (s : Row) : Type 0 where
  pub ahead : (f j : ℕ) → forward (k + f) bs (find r bs) r j ≡ forward f bs (find s bs) s (j + k)
  pub few : rest s.atoms + k ≤ rest r.atoms

-- What the directory says of atom a: no row before row t is its pivot, or a row is, and this is its word with the atom.
pub record Known (n w t : ℕ) (ws cs : List ℕ) (h s a : ℕ) : Type 0 where
  pub none_yet : h ≡ 0 → (r : Row) → Lowest r a → find r (rows_to n w ws cs t) ≡ none
  pub earlier : 0 < h → s < t
  pub head : 0 < h → h ≡ get_or (row w ws s) (a / 64) 0
  pub below : 0 < h → EmptyTo w s ws (a / 64)
  pub found : 0 < h → (r : Row) → Lowest r a → find r (rows_to n w ws cs t) ≡ some (row_at n w ws cs s)

-- An atom without a pivot has this one.
abbrev pub no_pivot : Pivot
no_pivot = record { head = 0; source = record { 0 = 0 } }

pub record ListsPivots (n w t : ℕ) (ws cs : List ℕ) (pivots : List Pivot) : Type 0 where
  pub wide : w * 64 ≤ length pivots
  pub clean : (r : ℕ) → r < t → Clean n w r ws cs
  pub known : (a : ℕ) → a < n → Known n w t ws cs (get_or pivots a no_pivot).head (get_or pivots a no_pivot).source.0 a

-- The words of row t replaced.
unfoldable pub put : ℕ → ℕ → List ℕ → List ℕ → List ℕ
put w t ws r = take (t * w) ws ++ (r ++ drop (t * w + w) ws)

-- The words of row s from word i on, added to those of row t.
abbrev pub added_from : ℕ → ℕ → List ℕ → ℕ → ℕ → List ℕ
added_from i w ws t s = put w t ws (take i (row w ws t) ++ zip_with bit_xor (drop i (row w ws t)) (drop i (row w ws s)))

-- The head of the pivot of the lowest atom of word i, or 0 where there is none.
unfoldable pub head_of : List Pivot → ℕ → ℕ → ℕ
head_of pivots i word = cond (eqb word 0) 0 (get_or pivots (i * 64 + count_trailing_zeros 64 word) no_pivot).head

-- The pivot of the lowest atom of word i.
pub record IsPivotOf (pivots : List Pivot) (i word : ℕ) (pivot : Pivot) : Type 0 where
  pub some : 0 < pivot.head
  pub head : pivot.head ≡ head_of pivots i word
  pub source : pivot.source ≡ (get_or pivots (i * 64 + count_trailing_zeros 64 word) no_pivot).source

-- Row t after k additions at words from i on.
pub record Reduced (n w t i : ℕ) (ws cs ws' cs' : List ℕ) (k : ℕ) : Type 0 where
  pub only : OnlyRow w t ws cs ws' cs'
  pub clean : Clean n w t ws' cs'
  pub below : EmptyTo w t ws' i
  pub fits : WordsFit ws → WordsFit ws'
  pub onward : Onward (rows_to n w ws cs t) (row_at n w ws cs t) k (row_at n w ws' cs' t)

-- Row t has this lowest atom, in the word called head.
pub record IsNewPivot (n w t : ℕ) (ws cs : List ℕ) (head lowest : ℕ) : Type 0 where
  pub some : 0 < head
  pub atom : lowest < n
  pub is : Lowest (row_at n w ws cs t) lowest
  pub head_is : head ≡ get_or (row w ws t) (lowest / 64) 0
  pub below : EmptyTo w t ws (lowest / 64)

-- Row t as it is left: empty, or with a new lowest atom.
pub record Finished (n w t : ℕ) (ws cs ws' cs' : List ℕ) (pivot : Option NewPivot) (k : ℕ) : Type 0 where
  pub only : OnlyRow w t ws cs ws' cs'
  pub clean : Clean n w t ws' cs'
  pub few : k ≤ n
  pub fits : WordsFit ws → WordsFit ws'
  pub row : (row_at n w ws' cs' t, k) ≡ reduced n (rows_to n w ws cs t) (row_at n w ws cs t)
  pub pivot_is : MatchOption pivot (empty (row_at n w ws' cs' t).atoms ≡ true) (λ p. IsNewPivot n w t ws' cs' p.head p.lowest.0)

-- ---- the same of the rows as they are lent

-- The same memory is lent, with rows of the same shape.
pub record SameRows (r r' : Rows) : Type 0 where
  pub shape : r'.shape ≡ r.shape
  pub words : r'.words.ghost_name ≡ r.words.ghost_name
  pub constants : r'.constants.ghost_name ≡ r.constants.ghost_name

abbrev pub CleanRow : Rows → ℕ → Type 0
CleanRow r t = Clean r.shape.atoms r.shape.width t r.words.now r.constants.now

abbrev pub EmptyBefore : Rows → ℕ → ℕ → Type 0
EmptyBefore r t i = EmptyTo r.shape.width t r.words.now i

abbrev pub Listed : Rows → ℕ → List Pivot → Type 0
Listed r t pivots = ListsPivots r.shape.atoms r.shape.width t r.words.now r.constants.now pivots

abbrev pub ReducesWord : Rows → Rows → ℕ → ℕ → ℕ → Type 0
ReducesWord r r' t i k = Reduced r.shape.atoms r.shape.width t i r.words.now r.constants.now r'.words.now r'.constants.now k

abbrev pub ReducesRow : Rows → Rows → ℕ → Option NewPivot → ℕ → Type 0
ReducesRow r r' t pivot k = Finished r.shape.atoms r.shape.width t r.words.now r.constants.now r'.words.now r'.constants.now pivot k

-- The first m rows are fit to be eliminated, and so is the basis.
pub record Ready (shape : Shape) (m : ℕ) (ws cs ps : List ℕ) : Type 0 where
  pub few : m ≤ 512
  pub words : m * shape.width ≤ length ws
  pub constants : m ≤ length cs
  pub entries : min m shape.atoms ≤ length ps
  pub clean : (r : ℕ) → r < m → Clean shape.atoms shape.width r ws cs
