-- One row's words replaced in flat words, and what is then as it was.
use Prim.Native.Nat.{ℕ, zero, suc, ◌+◌, ◌*◌, ◌≤◌, ◌<◌}
use mathlib.Core.Path.{◌≡◌, refl, sym, ap, ap₂, ◌∙◌}
use mathlib.Core.List.{List, [], ◌∷◌, ◌++◌, zip_with}
use native.Mathlib.Omega.{arith}
use lib.ListN.{length, get_or, take, drop, set, length-append, length-drop, length-set, take-append-drop, drop_of_length-le}
use lib.Seq.{length-take-le, take_at, drop_at, drop-drop, get_or-take, take-set-le, drop-set-lt, take-set-lt, drop-set-add}
use lib.Bits.{bit_xor}
use Rattle.rows.specs.Flat.{row, row_at}
use Rattle.rows.proofs.Adding.{earlier, front_part}
use Rattle.rows.proofs.Digits.{atoms_length}
use Rattle.rows.proofs.Places.{row_length}
use Rattle.words.specs.Set.{set_of}
use Rattle.echelon.specs.Eliminate.{rows_to}
use Rattle.echelon.specs.Steps.{put, added_from, OnlyRow, Clean}

pub row_at_length : (n w : ℕ) (ws cs : List ℕ) (r : ℕ) → length (row_at n w ws cs r).atoms ≡ n
unfolding row_at
row_at_length n w ws cs r = atoms_length n (set_of (row w ws r))

-- ---- rows before row t hang on the words before it

module _ (w t r : ℕ) (h : r < t) where
  row_front : (ws : List ℕ) → row w (take (t * w) ws) r ≡ row w ws r
  row_front ws = front_part w (t * w) (r * w) ws (earlier w t r h)

  module _ (n : ℕ) (ws cs ws' cs' : List ℕ) (only : OnlyRow w t ws cs ws' cs') where
    pub row_kept : row w ws' r ≡ row w ws r
    row_kept = sym (row_front ws') ∙ ap (λ (l : List ℕ). row w l r) only.before ∙ row_front ws

    pub constant_kept : get_or cs' r 0 ≡ get_or cs r 0
    constant_kept = sym (get_or-take t cs' r 0 h) ∙ ap (λ (l : List ℕ). get_or l r 0) only.before' ∙ get_or-take t cs r 0 h

    pub at_kept : row_at n w ws' cs' r ≡ row_at n w ws cs r
    unfolding row_at
    at_kept = rw (row_kept, constant_kept)

    pub clean_kept : Clean n w r ws cs → Clean n w r ws' cs'
    clean_kept c = record {
      words = rw only.words c.words;
      constants = rw only.constants c.constants;
      atoms = rw row_kept c.atoms;
      constant = rw constant_kept c.constant;
    }

pub rows_kept : (n w t s : ℕ) (ws cs ws' cs' : List ℕ) → s ≤ t → OnlyRow w t ws cs ws' cs' → rows_to n w ws' cs' s ≡ rows_to n w ws cs s
unfolding rows_to
rows_kept n w t zero ws cs ws' cs' h only = refl
rows_kept n w t (suc s) ws cs ws' cs' h only = ap₂ ◌∷◌ (at_kept w t s h n ws cs ws' cs' only) (rows_kept n w t s ws cs ws' cs' (omega arith) only)

pub only_start : (w t : ℕ) (ws cs : List ℕ) → OnlyRow w t ws cs ws cs
only_start w t ws cs = record { words = refl; constants = refl; before = refl; after = refl; before' = refl; after' = refl }

pub only_join : (w t : ℕ) (ws cs ws' cs' ws'' cs'' : List ℕ) → OnlyRow w t ws cs ws' cs' → OnlyRow w t ws' cs' ws'' cs'' → OnlyRow w t ws cs ws'' cs''
only_join w t ws cs ws' cs' ws'' cs'' p q = record {
  words = q.words ∙ p.words;
  constants = q.constants ∙ p.constants;
  before = q.before ∙ p.before;
  after = q.after ∙ p.after;
  before' = q.before' ∙ p.before';
  after' = q.after' ∙ p.after';
}

-- ---- row t replaced

module _ (w t : ℕ) (ws : List ℕ) (fits : t * w + w ≤ length ws) where
  front : length (take (t * w) ws) ≡ t * w
  front = length-take-le (t * w) ws (omega arith)

  -- the words as three parts
  pub parts : ws ≡ put w t ws (row w ws t)
  unfolding put
  parts =
      sym (take-append-drop (t * w) ws)
      ∙ ap (λ (l : List ℕ). take (t * w) ws ++ l) (sym (take-append-drop w (drop (t * w) ws)) ∙ ap (λ (l : List ℕ). row w ws t ++ l) (drop-drop w (t * w) ws))

  module _ (r : List ℕ) (wide : length r ≡ w) where
    pub put_row : row w (put w t ws r) t ≡ r
    unfolding put
    put_row = ap (take w) (drop_at (take (t * w) ws) (r ++ drop (t * w + w) ws) (t * w) front) ∙ take_at r (drop (t * w + w) ws) w wide

    pub put_only : (cs : List ℕ) (v : ℕ) → OnlyRow w t ws cs (put w t ws r) (set cs t v)
    unfolding put
    put_only cs v = record {
      words = simp length-append (omega (arith, front, length-drop (t * w + w) ws));
      constants = length-set cs t v;
      before = take_at (take (t * w) ws) (r ++ drop (t * w + w) ws) (t * w) front;
      after =
          sym (drop-drop w (t * w) (put w t ws r))
          ∙ ap (drop w) (drop_at (take (t * w) ws) (r ++ drop (t * w + w) ws) (t * w) front) ∙ drop_at r (drop (t * w + w) ws) w wide;
      before' = take-set-le t cs t v (omega arith);
      after' = drop-set-lt (suc t) cs t v (omega arith);
    }

  -- one word of row t set
  pub set_put : (i v : ℕ) → i < w → set ws (t * w + i) v ≡ put w t ws (set (row w ws t) i v)
  unfolding put
  set_put i v h =
      let mid = drop (t * w) ws in
      let room : i < length mid = simp length-drop (omega arith) in
      sym (take-append-drop (t * w) (set ws (t * w + i) v))
      ∙ ap₂ ◌++◌ (take-set-le (t * w) ws (t * w + i) v (omega arith))
      (drop-set-add (t * w) ws i v ∙ sym (take-append-drop w (set mid i v))
      ∙ ap₂ ◌++◌ (take-set-lt w mid i v h) (drop-set-lt w mid i v h ∙ drop-drop w (t * w) ws))

  -- no word is left to be added
  pub added_none : (s : ℕ) → ws ≡ added_from w w ws t s
  unfolding zip_with
  added_none s =
      let r = row w ws t in
      let rest = drop w (row w ws s) in
      let none : drop w r ≡ [] = drop_of_length-le r (omega (arith, row_length w ws t fits)) in
      parts
      ∙ ap (put w t ws) (sym (ap (λ l. take w r ++ zip_with bit_xor l rest) none ∙ ap (λ l. take w r ++ l) (sym none) ∙ take-append-drop w r))
