-- What the private functions of `probe` ask and leave, for their contracts alone: no reader has to believe it, since `probe` asks nothing.
use Rattle.std.specs.Prelude.{ℕ, ◌+◌, ◌*◌, ◌%◌, ◌≤◌, ◌<◌, ◌≡◌, cond, length, replicate, get_or, eqb}
use Rattle.std.specs.Int.Bits.{bit_and, bit_xor}
use Rattle.std.specs.Int.Count.{count_trailing_zeros, ones}
use mathlib.Core.List.{List, map, zip_with}
use Rattle.words.specs.Set.{set_of}
use Rattle.rows.specs.Row.{Row}
use Rattle.rows.specs.Decisions.{Decisions}
use Rattle.echelon.specs.Forward.{low}
use Rattle.parity.specs.Basis.{rows_of}
use Rattle.parity.specs.declared.basis.Basis.{Basis}
use Rattle.probe.specs.Elimination.{eliminated, Kept}
use Rattle.probe.specs.declared.eliminate.Eliminated.{Eliminated}
use Rattle.probe.specs.declared.open_row.OpenRow.{OpenRow}
use Rattle.inspect.specs.declared.Masks.{Masks}
use Rattle.inspect.specs.Steps.{Masked}

-- The lowest atoms of rows.
abbrev pub pivots : List Row → List ℕ
pivots ks = map (λ k. low k.atoms) ks

-- The open atoms of a basis row, and its constant flipped by each atom held.
abbrev pub opened_row : {w : ℕ} → (held free words : List ℕ) → ℕ → OpenRow w
opened_row held free words constant =
    record { words = zip_with bit_and words free; constant = bit_xor constant (ones (bit_and (set_of words) (set_of held)) % 2) }

-- Row b is row a with another added from word i on.
pub record AddedFrom {w : ℕ} (i : ℕ) (a other b : OpenRow w) : Type 0 where
  pub long : length b.words ≡ length a.words
  pub before : (k : ℕ) → k < i → get_or b.words k 0 ≡ get_or a.words k 0
  pub from : (k : ℕ) → i ≤ k → k < length a.words → get_or b.words k 0 ≡ bit_xor (get_or a.words k 0) (get_or other.words k 0)
  pub constant : b.constant ≡ bit_xor a.constant other.constant

-- What stands at an atom without a pivot.
abbrev pub empty_row : (w : ℕ) → OpenRow w
empty_row w = record { words = replicate w 0; constant = 0 }

-- The pivot of the lowest atom of word i of a row; an empty word has none.
unfoldable pub pivot_at : {w : ℕ} → List (OpenRow w) → ℕ → ℕ → OpenRow w
pivot_at {w} rows i word = cond (eqb word 0) (empty_row w) (get_or rows (i * 64 + count_trailing_zeros 64 word) (empty_row w))

-- What is told of the rows kept.
abbrev pub told : Kept → Eliminated
told kept = record { kept = length kept.rows; sound = kept.sound }

-- That is told of the basis rows, whatever decisions have these masks.
abbrev pub ToldOf : Basis → Masks → Eliminated → Type 0
ToldOf b m result = (p : Decisions) → Masked b.atoms p m.held m.free → result ≡ told (eliminated p (rows_of b))
