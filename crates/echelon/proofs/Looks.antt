-- What the directory says of the lowest atom of the row under work: its pivot, ready to be added, or none.
use Prim.Native.Nat.{ℕ, zero, suc, ◌+◌, ◌*◌, ◌/◌, ◌^◌, ◌≤◌, ◌<◌}
use mathlib.Core.Path.{◌≡◌, sym, ap, ap₂, ◌∙◌}
use mathlib.Core.List.{List}
use mathlib.Core.Bool.{Bool, cond}
use mathlib.Core.Option.{some}
use native.Mathlib.Nat.{mul-le-mul_right}
use native.Mathlib.Numerals.{add-one}
use native.Mathlib.Omega.{arith}
use borrow.Author.Tests.{ne_eqb}
use lib.ListN.{length, get_or, take, drop, set}
use lib.Bits.{bit_xor}
use lib.Count.{count_trailing_zeros}
use lib.Pow.{pow_pos}
use lib.Dec.{eqb}
use Rattle.words.specs.Set.{set_of, low}
use Rattle.words.proofs.Lowest.{low_words, trailing_form}
use Rattle.words.proofs.Meaning.{low_lowest}
use Rattle.rows.specs.Flat.{row, row_at, atoms_of}
use Rattle.rows.proofs.Digits.{atoms_has}
use Rattle.rows.proofs.Rowwise.{has_below, atoms_none}
use Rattle.echelon.specs.Forward.{find}
use Rattle.echelon.specs.Eliminate.{rows_to}
use Rattle.echelon.specs.Promises.{Lowest}
use Rattle.echelon.specs.declared.directory.Pivot.{Pivot}
use Rattle.echelon.specs.Steps.{added_from, Clean, EmptyTo, no_pivot, ListsPivots, IsPivotOf, head_of, rest}
use Rattle.echelon.proofs.Replaced.{row_at_length, row_kept, at_kept, clean_kept}
use Rattle.echelon.proofs.Onwards.{onward_few}
use Rattle.echelon.proofs.Turns.{from, worked, Turn, turn_next, turn_falls}

-- the lowest atom of a set that is not empty
module _ (n x : ℕ) (some_atom : 0 < x) (fits : x < 2 ^ n) where
  pub set_below : low x < n
  set_below = has_below n x (low x) fits (low_lowest x some_atom).0

  pub set_lowest : (c : Bool) → Lowest (record { atoms = atoms_of n x; constant = c }) (low x)
  set_lowest c = record {
    own = atoms_has n x (low x) set_below ∙ (low_lowest x some_atom).0;
    below = λ b h. atoms_none n x b ((low_lowest x some_atom).1 b h);
  }

-- and of a word, the words before it being empty
module _ (n i word : ℕ) (l : List ℕ) (some_atom : 0 < word) (word_fits : word < 2 ^ 64) (fits : from l i word < 2 ^ n) where
  atom : ℕ
  atom = i * 64 + count_trailing_zeros 64 word

  low_is : low (from l i word) ≡ atom
  unfolding atom
  low_is = low_words 64 (set_of (drop (suc i) l)) word (i * 64) some_atom word_fits

  positive : 0 < from l i word
  positive =
      let one : 1 ≤ set_of (drop (suc i) l) * 2 ^ 64 + word = omega arith in
      omega (arith, pow_pos (i * 64), mul-le-mul_right (2 ^ (i * 64)) one)

  pub atom_below : i * 64 + count_trailing_zeros 64 word < n
  unfolding atom
  atom_below = rw low_is at (set_below n (from l i word) positive fits)

  pub atom_lowest : (c : Bool) → Lowest (record { atoms = atoms_of n (from l i word); constant = c }) (i * 64 + count_trailing_zeros 64 word)
  unfolding atom
  atom_lowest c = rw low_is at (set_lowest n (from l i word) positive fits c)

  pub atom_word : (i * 64 + count_trailing_zeros 64 word) / 64 ≡ i
  atom_word = omega (arith, (trailing_form 64 word some_atom word_fits).below)

pub head_some : (pivots : List Pivot) (i word : ℕ) → 0 < head_of pivots i word → 0 < word
unfolding head_of
head_some pivots i zero h = let z : ⊥ = omega arith in absurd z
head_some pivots i (suc word) h = omega arith

pub head_at : (pivots : List Pivot) (i word : ℕ) → 0 < word → head_of pivots i word ≡ (get_or pivots (i * 64 + count_trailing_zeros 64 word) no_pivot).head
unfolding head_of
head_at pivots i word h = ap (λ (e : Bool). cond e 0 (get_or pivots (i * 64 + count_trailing_zeros 64 word) no_pivot).head) (ne_eqb word 0 (λ e. omega arith))

-- the lowest atom of the word under work
pub turn_below : {n w t i : ℕ} {ws cs ws' cs' : List ℕ} {word k : ℕ} → Turn n w t i ws cs ws' cs' word k → word < 2 ^ 64 → 0 < word
    → i * 64 + count_trailing_zeros 64 word < n
turn_below {n} {w} {t} {i} {ws} {cs} {ws'} {cs'} {word} {k} turn word_fits some_word =
    atom_below n i word (row w ws' t) some_word word_fits turn.fits

-- the pivot that is found, as `turn_next` asks for it
pub record Found (n w t i : ℕ) (ws cs ws' cs' : List ℕ) (word head s : ℕ) : Type 0 where
  pub earlier : s < t
  pub clean : Clean n w s ws' cs'
  pub below : EmptyTo w s ws' i
  pub is : head ≡ get_or (row w ws' s) i 0
  pub found : find (worked n w t ws' cs' i word) (rows_to n w ws cs t) ≡ some (row_at n w ws' cs' s)

module _ {n w t i : ℕ} {ws cs ws' cs' : List ℕ} {pivots : List Pivot} {word head k : ℕ} (dir : ListsPivots n w t ws cs pivots)
    (turn : Turn n w t i ws cs ws' cs' word k) (word_fits : word < 2 ^ 64) (is : head ≡ head_of pivots i word) (some-head : 0 < head) where
  some_word : 0 < word
  some_word = head_some pivots i word (rw is at some-head)

  a : ℕ
  a = i * 64 + count_trailing_zeros 64 word

  s : ℕ
  s = (get_or pivots a no_pivot).source.0

  pub look_found : Found n w t i ws cs ws' cs' word head (get_or pivots (i * 64 + count_trailing_zeros 64 word) no_pivot).source.0
  unfolding a s
  look_found =
      let l = row w ws' t in
      let known = dir.known a (atom_below n i word l some_word word_fits turn.fits) in
      let here : head ≡ (get_or pivots a no_pivot).head = is ∙ head_at pivots i word some_word in
      let some-here : 0 < (get_or pivots a no_pivot).head = rw here at some-head in
      let word-is = atom_word n i word l some_word word_fits turn.fits in
      let early = known.earlier some-here in
      let same = row_kept w t s early n ws cs ws' cs' turn.only in
      record {
        earlier = early;
        clean = clean_kept w t s early n ws cs ws' cs' turn.only (dir.clean s early);
        below = ap (λ (r : List ℕ). set_of (take i r)) same ∙ ap (λ (j : ℕ). set_of (take j (row w ws s))) (sym word-is) ∙ known.below some-here;
        is = here ∙ known.head some-here ∙ ap₂ (λ (r : List ℕ) (j : ℕ). get_or r j 0) (sym same) word-is;
        found =
            known.found some-here (worked n w t ws' cs' i word) (atom_lowest n i word l some_word word_fits turn.fits (eqb (get_or cs' t 0) 1))
            ∙ ap some (sym (at_kept w t s early n ws cs ws' cs' turn.only));
      }

-- one turn of `reduce_word`: the pivot is added
pub record Made (n w t i : ℕ) (ws cs ws' cs' : List ℕ) (word k : ℕ) (p : Pivot) : Type 0 where
  pub earlier : p.source.0 < t
  pub there : p.source.0 < length cs'
  pub few : k + 1 ≤ n
  pub next : Turn n w t i ws cs (added_from (i + 1) w ws' t p.source.0) (set cs' t (bit_xor (get_or cs' t 0) (get_or cs' p.source.0 0))) (bit_xor word p.head) (k + 1)
  pub falls : rest (worked n w t (added_from (i + 1) w ws' t p.source.0) (set cs' t (bit_xor (get_or cs' t 0) (get_or cs' p.source.0 0))) i (bit_xor word p.head)).atoms
      < rest (worked n w t ws' cs' i word).atoms

pub turn_made : {n w t i : ℕ} {ws cs ws' cs' : List ℕ} {pivots : List Pivot} {word k : ℕ} {p : Pivot} → Turn n w t i ws cs ws' cs' word k → IsPivotOf pivots i word p
    → Clean n w t ws cs → ListsPivots n w t ws cs pivots → i < w → word < 2 ^ 64 → p.head < 2 ^ 64 → Made n w t i ws cs ws' cs' word k p
turn_made {n} {w} {t} {i} {ws} {cs} {ws'} {cs'} {pivots} {word} {k} {p} turn is clean dir inside word_fits head_fits =
    let f = rw (sym is.source) at (look_found dir turn word_fits is.head is.some) in
    let next = turn_next inside clean word_fits turn f.clean f.below f.is head_fits f.found in
    record {
      earlier = f.earlier;
      there = f.clean.constants;
      few = omega (arith, onward_few (rows_to n w ws cs t) (row_at n w ws cs t) _ _ next.onward n (row_at_length n w ws cs t));
      next = rw (add-one i) next;
      falls = rw (add-one i) (turn_falls inside clean word_fits turn f.clean f.below f.is head_fits f.found);
    }
