-- The turns of `reduce_word`: row t whose words before word i are empty, with word i in a local.
use Prim.Native.Nat.{ℕ, zero, suc, ◌+◌, ◌*◌, ◌^◌, ◌≤◌, ◌<◌}
use mathlib.Core.Path.{◌≡◌, sym, ap, ap₂, ◌∙◌}
use mathlib.Core.List.{List, [], ◌∷◌, ◌++◌, zip_with}
use mathlib.Core.Bool.{Bool}
use mathlib.Core.Option.{some}
use native.Mathlib.Nat.{mod-eq_of_lt, zero-mul, suc-mul, add-zero, mul_assoc, add-mul}
use native.Mathlib.Numerals.{add-one}
use native.Mathlib.Omega.{arith}
use lib.ListN.{length, get_or, take, drop, set, length-append, length-drop, length-set}
use lib.Seq.{length-take-le, drop_at, take-take, get_or-take, get_or-drop, get_or-set_same, set-get_or, take-set-le, drop-set-lt, take-append-le}
use lib.Bits.{bit_xor, xor_block, xor_lt}
use lib.Pow.{pow_pos, pow-add}
use lib.Dec.{eqb}
use Rattle.words.specs.Set.{packed, set_of}
use Rattle.words.proofs.Bitwise.{by_xor}
use Rattle.words.proofs.Packed.{left_cons, packed_zip}
use Rattle.rows.specs.Row.{Row, add}
use Rattle.rows.specs.Flat.{row, row_at, atoms_of}
use Rattle.rows.proofs.Places.{row_length}
use Rattle.rows.proofs.Digits.{atoms_xor, atoms_length}
use Rattle.rows.proofs.Rowwise.{constant_sum, zip_length}
use Rattle.echelon.specs.Forward.{find}
use Rattle.echelon.specs.Eliminate.{rows_to}
use Rattle.echelon.specs.Steps.{added_from, Clean, OnlyRow, WordsFit, EmptyTo, rest, Onward, Reduced}
use Rattle.echelon.proofs.Lows.{rest_falls}
use Rattle.echelon.proofs.Replaced.{put_row, put_only, set_put, only_start, only_join}
use Rattle.echelon.proofs.Onwards.{onward_start, onward_next, find_same}

-- ---- words as one number, in two parts

pub packed_parts : (k : ℕ) (l : List ℕ) (i : ℕ) → i ≤ length l → packed k l ≡ packed k (drop i l) * 2 ^ (i * k) + packed k (take i l)
unfolding packed
packed_parts k l zero h = omega (arith, ap (λ (n : ℕ). packed k l * 2 ^ n) (zero-mul k))
packed_parts k [] (suc i) h = let z : ⊥ = omega arith in absurd z
packed_parts k (x ∷ l) (suc i) h =
    let up : packed k (drop i l) * 2 ^ (suc i * k) ≡ packed k (drop i l) * 2 ^ (i * k) * 2 ^ k =
    ap (λ (n : ℕ). packed k (drop i l) * n) (ap (λ (n : ℕ). 2 ^ n) (suc-mul i k) ∙ pow-add 2 (i * k) k) ∙ sym (mul_assoc (packed k (drop i l)) (2 ^ (i * k)) (2 ^ k)) in
    let two : (packed k (drop i l) * 2 ^ (i * k) + packed k (take i l)) * 2 ^ k ≡ packed k (drop i l) * 2 ^ (i * k) * 2 ^ k + packed k (take i l) * 2 ^ k =
    add-mul (packed k (drop i l) * 2 ^ (i * k)) (packed k (take i l)) (2 ^ k) in
    omega (arith, ap (λ (n : ℕ). n * 2 ^ k) (packed_parts k l i (omega arith)))

-- the number of words whose first i are empty, by word i and those after it
abbrev pub from : List ℕ → ℕ → ℕ → ℕ
from l i word = (set_of (drop (suc i) l) * 2 ^ 64 + word) * 2 ^ (i * 64)

pub from_whole : (l : List ℕ) (i : ℕ) → i < length l → get_or l i 0 < 2 ^ 64 → set_of (take i l) ≡ 0 → set_of l ≡ from l i (get_or l i 0)
from_whole l i h lt e =
    let later : set_of (drop i l) ≡ set_of (drop (suc i) l) * 2 ^ 64 + get_or l i 0 =
    left_cons 64 l i h ∙ ap₂ (λ (j v : ℕ). set_of (drop j l) * 2 ^ 64 + v) (add-one i) (mod-eq_of_lt lt) in
    packed_parts 64 l i (omega arith) ∙ ap (λ (n : ℕ). set_of (drop i l) * 2 ^ (i * 64) + n) e ∙ add-zero _ ∙ ap (λ (n : ℕ). n * 2 ^ (i * 64)) later

from_xor : (l r : List ℕ) (i v u : ℕ) → length l ≡ length r → v < 2 ^ 64 → u < 2 ^ 64
    → (set_of (zip_with bit_xor (drop (suc i) l) (drop (suc i) r)) * 2 ^ 64 + bit_xor v u) * 2 ^ (i * 64) ≡ bit_xor (from l i v) (from r i u)
from_xor l r i v u e lv lu =
    let a = set_of (drop (suc i) l) in
    let b = set_of (drop (suc i) r) in
    let same : length (drop (suc i) l) ≡ length (drop (suc i) r) = simp length-drop (omega arith) in
    let lows : bit_xor (a * 2 ^ 64 + v) (b * 2 ^ 64 + u) * 2 ^ (i * 64) ≡ bit_xor (from l i v) (from r i u) =
    sym (ap₂ bit_xor (sym (add-zero (from l i v))) (sym (add-zero (from r i u))) ∙ xor_block (i * 64) (a * 2 ^ 64 + v) (b * 2 ^ 64 + u) 0 0 (pow_pos (i * 64)) (pow_pos (i * 64)) ∙ add-zero _) in
    ap (λ (n : ℕ). (n * 2 ^ 64 + bit_xor v u) * 2 ^ (i * 64)) (packed_zip by_xor 64 (drop (suc i) l) (drop (suc i) r) same)
    ∙ ap (λ (n : ℕ). n * 2 ^ (i * 64)) (sym (xor_block 64 a b v u lv lu)) ∙ lows

-- ---- the row under work

pub set_fits : (ws : List ℕ) (i v : ℕ) → WordsFit ws → v < 2 ^ 64 → WordsFit (set ws i v)
set_fits [] i v f h j = f j
set_fits (x ∷ ws) zero v f h zero = h
set_fits (x ∷ ws) zero v f h (suc j) = f (suc j)
set_fits (x ∷ ws) (suc i) v f h zero = f 0
set_fits (x ∷ ws) (suc i) v f h (suc j) = set_fits ws i v (λ k. f (suc k)) h j

pub row_word : (w t : ℕ) (ws : List ℕ) (i : ℕ) → i < w → get_or (row w ws t) i 0 ≡ get_or ws (t * w + i) 0
row_word w t ws i h = get_or-take w (drop (t * w) ws) i 0 h ∙ get_or-drop (t * w) ws i 0

abbrev pub worked : ℕ → ℕ → ℕ → List ℕ → List ℕ → ℕ → ℕ → Row
worked n w t ws cs i word = record { atoms = atoms_of n (from (row w ws t) i word); constant = eqb (get_or cs t 0) 1 }

pub record Turn (n w t i : ℕ) (ws cs ws' cs' : List ℕ) (word k : ℕ) : Type 0 where
  pub only : OnlyRow w t ws cs ws' cs'
  pub below : EmptyTo w t ws' i
  pub fits : from (row w ws' t) i word < 2 ^ n
  pub constant : get_or cs' t 0 < 2
  pub onward : Onward (rows_to n w ws cs t) (row_at n w ws cs t) k (worked n w t ws' cs' i word)

module _ {n w t : ℕ} {ws cs : List ℕ} (i : ℕ) (inside : i < w) (clean : Clean n w t ws cs) where
  pub turn_start : EmptyTo w t ws i → get_or (row w ws t) i 0 < 2 ^ 64 → Turn n w t i ws cs ws cs (get_or (row w ws t) i 0) 0
  unfolding row_at
  turn_start below lt =
      let room : i < length (row w ws t) = omega (arith, row_length w ws t clean.words) in
      let whole = from_whole (row w ws t) i room lt below in
      record {
        only = only_start w t ws cs;
        below = below;
        fits = rw (sym whole) clean.atoms;
        constant = clean.constant;
        onward = rw (sym whole) (onward_start (rows_to n w ws cs t) (row_at n w ws cs t));
      }

module _ {n w t i : ℕ} {ws cs ws' cs' : List ℕ} {word k : ℕ} (inside : i < w) (here : Clean n w t ws cs) (fits : word < 2 ^ 64)
    (turn : Turn n w t i ws cs ws' cs' word k) where
  room : t * w + w ≤ length ws'
  room = omega (arith, turn.only.words, here.words)

  room' : t < length cs'
  room' = omega (arith, turn.only.constants, here.constants)

  target : List ℕ
  target = row w ws' t

  wide : length target ≡ w
  unfolding target
  wide = row_length w ws' t room

  -- row s added, its words from word i + 1 on in memory and word i in the local
  module _ {s head : ℕ} (clean : Clean n w s ws' cs') (below : EmptyTo w s ws' i)
      (is : head ≡ get_or (row w ws' s) i 0) (head-fits : head < 2 ^ 64)
      (found : find (worked n w t ws' cs' i word) (rows_to n w ws cs t) ≡ some (row_at n w ws' cs' s)) where
    source : List ℕ
    source = row w ws' s

    source_wide : length source ≡ w
    unfolding source
    source_wide = row_length w ws' s clean.words

    later : List ℕ
    later = zip_with bit_xor (drop (suc i) target) (drop (suc i) source)

    front : length (take (suc i) target) ≡ suc i
    front = length-take-le (suc i) target (omega (arith, wide))

    sum : List ℕ
    sum = take (suc i) target ++ later

    sum_wide : length sum ≡ w
    unfolding sum later
    sum_wide =
        let same : length (drop (suc i) target) ≡ length (drop (suc i) source) = simp length-drop (omega (arith, wide, source_wide)) in
        simp length-append (omega (arith, front, wide, zip_length bit_xor (drop (suc i) target) (drop (suc i) source) same, length-drop (suc i) target))

    ws'' : List ℕ
    ws'' = added_from (suc i) w ws' t s

    cs'' : List ℕ
    cs'' = set cs' t (bit_xor (get_or cs' t 0) (get_or cs' s 0))

    row_is : row w ws'' t ≡ sum
    unfolding ws'' sum later target source
    row_is = put_row w t ws' room sum sum_wide

    number : from (row w ws'' t) i (bit_xor word head) ≡ bit_xor (from target i word) (set_of source)
    unfolding sum later source
    number =
        let whole : set_of source ≡ from source i head =
        from_whole source i (omega (arith, source_wide)) (rw (sym is) head-fits) below ∙ ap (from source i) (sym is) in
        ap (λ (l : List ℕ). from l i (bit_xor word head)) row_is
        ∙ ap (λ (l : List ℕ). (set_of l * 2 ^ 64 + bit_xor word head) * 2 ^ (i * 64)) (drop_at (take (suc i) target) later (suc i) front)
        ∙ from_xor target source i word head (wide ∙ sym source_wide) fits head-fits ∙ ap (bit_xor (from target i word)) (sym whole)

    added : worked n w t ws'' cs'' i (bit_xor word head) ≡ add (worked n w t ws' cs' i word) (row_at n w ws' cs' s)
    unfolding target source cs'' row_at
    added =
        ap₂ (λ (l : List Bool) (c : Bool). record { atoms = l; constant = c })
        (ap (atoms_of n) number ∙ atoms_xor n (from target i word) (set_of source))
        (ap (λ (c : ℕ). eqb c 1) (get_or-set_same cs' t _ 0 room') ∙ constant_sum (get_or cs' t 0) (get_or cs' s 0) turn.constant clean.constant)

    same_length : length (worked n w t ws' cs' i word).atoms ≡ length (row_at n w ws' cs' s).atoms
    unfolding row_at
    same_length = atoms_length n _ ∙ sym (atoms_length n (set_of (row w ws' s)))

    pub turn_next : Turn n w t i ws cs (added_from (suc i) w ws' t s) (set cs' t (bit_xor (get_or cs' t 0) (get_or cs' s 0))) (bit_xor word head) (k + 1)
    unfolding ws'' cs'' sum later target source
    turn_next = record {
      only = only_join w t ws cs ws' cs' ws'' cs'' turn.only (put_only w t ws' room sum sum_wide cs' (bit_xor (get_or cs' t 0) (get_or cs' s 0)));
      below =
          ap (λ (l : List ℕ). set_of (take i l)) row_is
          ∙ ap set_of (take-append-le i (take (suc i) target) later (omega (arith, front)) ∙ take-take i (suc i) target (omega arith)) ∙ turn.below;
      fits = rw number (xor_lt n (from target i word) (set_of source) turn.fits clean.atoms);
      constant = rw (get_or-set_same cs' t (bit_xor (get_or cs' t 0) (get_or cs' s 0)) 0 room') (xor_lt 1 (get_or cs' t 0) (get_or cs' s 0) turn.constant clean.constant);
      onward = rw added (onward_next (rows_to n w ws cs t) (row_at n w ws cs t) k (worked n w t ws' cs' i word) turn.onward (row_at n w ws' cs' s) found same_length);
    }

    pub turn_falls : rest (worked n w t (added_from (suc i) w ws' t s) (set cs' t (bit_xor (get_or cs' t 0) (get_or cs' s 0))) i (bit_xor word head)).atoms
        < rest (worked n w t ws' cs' i word).atoms
    unfolding ws'' cs''
    turn_falls =
        rw (ap (λ (r : Row). rest r.atoms) added)
        (rest_falls (worked n w t ws' cs' i word).atoms (row_at n w ws' cs' s).atoms (find_same (worked n w t ws' cs' i word) (row_at n w ws' cs' s) (rows_to n w ws cs t) found) same_length)

  -- word i is written back
  back : List ℕ
  back = set target i word

  back_wide : length back ≡ w
  unfolding back
  back_wide = length-set target i word ∙ wide

  back_row : row w (set ws' (t * w + i) word) t ≡ back
  unfolding back target
  back_row = ap (λ (l : List ℕ). row w l t) (set_put w t ws' room i word inside) ∙ put_row w t ws' room back back_wide

  back_at : get_or back i 0 ≡ word
  unfolding back
  back_at = get_or-set_same target i word 0 (omega (arith, wide))

  back_below : set_of (take i back) ≡ 0
  unfolding back target
  back_below = ap set_of (take-set-le i target i word (omega arith)) ∙ turn.below

  back_whole : set_of back ≡ from target i word
  unfolding back
  back_whole =
      from_whole back i (omega (arith, back_wide)) (rw back_at fits) back_below ∙ ap (from back i) back_at
      ∙ ap (λ (l : List ℕ). (set_of l * 2 ^ 64 + word) * 2 ^ (i * 64)) (drop-set-lt (suc i) target i word (omega arith))

  pub turn_end : WordsFit ws' → Reduced n w t i ws cs (set ws' (t * w + i) word) cs' k
  unfolding back target row_at
  turn_end words_fit = record {
    only =
        only_join w t ws cs ws' cs' (set ws' (t * w + i) word) cs' turn.only
        (rw (set_put w t ws' room i word inside) (rw (set-get_or cs' t 0) at (put_only w t ws' room back back_wide cs' (get_or cs' t 0))));
    clean = record {
      words = simp length-set room;
      constants = room';
      atoms = rw (back_row, back_whole) turn.fits;
      constant = turn.constant;
    };
    below = rw back_row back_below;
    fits = λ _. set_fits ws' (t * w + i) word words_fit fits;
    onward = rw (back_row, back_whole) turn.onward;
  }
