-- Rows written one after another: a row, and what is left to write, with the turns of `put_records`.
use Prim.Native.Nat.{ℕ, ◌+◌, ◌*◌, ◌≤◌}
use mathlib.Core.Path.{◌≡◌, refl, sym, ap, ap₂, subst, ◌∙◌}
use mathlib.Core.List.{List, [], ◌∷◌, ◌++◌, append-nil, append_assoc, reverse, reverse-append}
use mathlib.Core.Bool.{cond}
use native.Mathlib.Nat.{zero-add, add-zero, add-mul, zero-mul, mul-le-mul_right}
use native.Mathlib.Omega.{arith}
use lib.ListN.{length, take, drop, set, replicate, length-append, length-drop, length-reverse}
use lib.Seq.{sets, sets-eq, length-sets, length-take-le, drop-drop}
use lib.Dec.{eqb}
use Rattle.rows.proofs.Constants.{number_back}
use Rattle.text.proofs.Written.{sets_append}
use Rattle.rows.specs.Row.{Row}
use Rattle.rows.specs.Flat.{width_of, mask_of, unpack}
use Rattle.echelon.specs.Eliminate.{words_of, constants_of}
use Rattle.echelon.proofs.Written.{unpack_length, words_length, constants_length}
use Rattle.records.specs.Promises.{AllBelow}
use Rattle.load.specs.Parts.{set_named}
use Rattle.load.specs.Steps.{inserted_all, Room, Loaded}
use Rattle.load.proofs.Inserted.{wide, named_words}

-- ---- the words and constants of rows in their order

module _ (w : ℕ) where
  words_append : (rs ss : List Row) → words_of w (rs ++ ss) ≡ words_of w ss ++ words_of w rs
  unfolding words_of
  words_append [] ss = sym (append-nil (words_of w ss))
  words_append (r ∷ rs) ss =
      let own = unpack 64 w (mask_of r.atoms) in
      ap (λ (l : List ℕ). l ++ own) (words_append rs ss) ∙ append_assoc (words_of w ss) (words_of w rs) own

  pub words_both : (rs ss : List Row) → words_of w (reverse (rs ++ ss)) ≡ words_of w (reverse rs) ++ words_of w (reverse ss)
  words_both rs ss = ap (words_of w) (reverse-append rs ss) ∙ words_append (reverse ss) (reverse rs)

  pub words_size : (rs : List Row) → length (words_of w (reverse rs)) ≡ length rs * w
  words_size rs = words_length w (reverse rs) ∙ ap (λ (k : ℕ). k * w) (length-reverse rs)

constants_append : (rs ss : List Row) → constants_of (rs ++ ss) ≡ constants_of ss ++ constants_of rs
unfolding constants_of
constants_append [] ss = sym (append-nil (constants_of ss))
constants_append (r ∷ rs) ss =
    let own : List ℕ = cond r.constant 1 0 ∷ [] in
    ap (λ (l : List ℕ). l ++ own) (constants_append rs ss) ∙ append_assoc (constants_of ss) (constants_of rs) own

pub constants_both : (rs ss : List Row) → constants_of (reverse (rs ++ ss)) ≡ constants_of (reverse rs) ++ constants_of (reverse ss)
constants_both rs ss = ap constants_of (reverse-append rs ss) ∙ constants_append (reverse ss) (reverse rs)

pub constants_size : (rs : List Row) → length (constants_of (reverse rs)) ≡ length rs
constants_size rs = constants_length (reverse rs) ∙ length-reverse rs

-- ---- one row

pub row_loaded : (n w at : ℕ) (ws cs atoms : List ℕ) (v : ℕ) → n ≤ w * 64 → AllBelow n atoms → v ≤ 1
    → let r : Row = record { atoms = set_named n atoms; constant = eqb v 1 } in
    Room w (r ∷ []) ws cs at → (ws' : List ℕ) → ws' ≡ take (at * w) ws ++ (inserted_all atoms (replicate w 0) ++ drop (at * w + w) ws)
    → Loaded w (r ∷ []) ws cs at ws' (set cs at v) (at + 1)
unfolding words_of constants_of
row_loaded n w at ws cs atoms v wide below small room ws' is =
    let own = unpack 64 w (mask_of (set_named n atoms)) in
    let size : length own ≡ w = unpack_length 64 w (mask_of (set_named n atoms)) in
    let fits : at * w + length own ≤ length ws = omega (arith, room.words, add-mul at 1 w) in
    record {
      place = refl;
      words = is ∙ ap₂ (λ (l : List ℕ) (k : ℕ). take (at * w) ws ++ (l ++ drop (at * w + k) ws)) (named_words n w wide atoms below) (sym size)
          ∙ sym (append_assoc (take (at * w) ws) own (drop (at * w + length own) ws)) ∙ sym (sets-eq own ws (at * w) fits);
      constants = ap (set cs at) (sym (number_back v (omega arith)));
    }

-- with the width as it was worked out, and the part of the words that the row stands in
pub row_put : (n at : ℕ) (ws cs atoms row : List ℕ) (v w k : ℕ) → AllBelow n atoms → v ≤ 1
    → let r : Row = record { atoms = set_named n atoms; constant = eqb v 1 } in
    Room (width_of n) (r ∷ []) ws cs at → w ≡ width_of n → k ≡ w → row ≡ inserted_all atoms (replicate (length (take k (drop (at * w) ws))) 0)
    → Loaded (width_of n) (r ∷ []) ws cs at (take (at * w) ws ++ (row ++ drop k (drop (at * w) ws))) (set cs at v) (at + 1)
row_put n at ws cs atoms row v w k below small room e f is =
    row_loaded n (width_of n) at ws cs atoms v (wide n) below small room _
    (ap₂ (λ (i : ℕ) (l : List ℕ). take i ws ++ l) (ap (λ (j : ℕ). at * j) e)
    (ap₂ ◌++◌ (is ∙ ap (λ (j : ℕ). inserted_all atoms (replicate j 0)) (part ∙ e))
    (drop-drop k (at * w) ws ∙ ap (λ (j : ℕ). drop j ws) (ap₂ (λ (i j : ℕ). at * i + j) e (f ∙ e)))))
  where
    part : length (take k (drop (at * w) ws)) ≡ w
    part =
        let fits : at * width_of n + width_of n ≤ length ws = omega (arith, room.words, add-mul at 1 (width_of n)) in
        let room' : at * w + w ≤ length ws = subst (λ (j : ℕ). at * j + j ≤ length ws) (sym e) fits in
        length-take-le k (drop (at * w) ws) (omega (arith, f, room', length-drop (at * w) ws)) ∙ f

-- ---- none

pub none_loaded : (w : ℕ) (ws cs : List ℕ) (at : ℕ) → Loaded w [] ws cs at ws cs at
unfolding words_of constants_of
none_loaded w ws cs at = record { place = sym (add-zero at); words = refl; constants = refl }

-- ---- what is left

pub record Left (w : ℕ) (all : List Row) (ws₀ cs₀ : List ℕ) (at₀ : ℕ) (rs : List Row) (ws cs : List ℕ) (at : ℕ) : Type 0 where
  pub place : at + length rs ≡ at₀ + length all
  pub kept : length ws ≡ length ws₀
  pub kept' : length cs ≡ length cs₀
  pub words : sets ws (at * w) (words_of w (reverse rs)) ≡ sets ws₀ (at₀ * w) (words_of w (reverse all))
  pub constants : sets cs at (constants_of (reverse rs)) ≡ sets cs₀ at₀ (constants_of (reverse all))

module _ (w : ℕ) (all : List Row) (ws₀ cs₀ : List ℕ) (at₀ : ℕ) (ws cs : List ℕ) (at : ℕ) where
  pub left_end : Left w all ws₀ cs₀ at₀ [] ws cs at → Loaded w all ws₀ cs₀ at₀ ws cs at
  unfolding words_of constants_of
  left_end so = record { place = sym (add-zero at) ∙ so.place; words = so.words; constants = so.constants }

  module _ (rs ss : List Row) (so : Left w all ws₀ cs₀ at₀ (rs ++ ss) ws cs at) where
    pub left_room : Room w all ws₀ cs₀ at₀ → Room w rs ws cs at
    left_room room =
        let le : at + length rs ≤ at₀ + length all = omega (arith, so.place, length-append rs ss) in
        record { words = omega (arith, mul-le-mul_right w le, room.words, so.kept); constants = omega (arith, room.constants, so.kept') }

    pub left_next : (ws' cs' : List ℕ) (next : ℕ) → Loaded w rs ws cs at ws' cs' next → Left w all ws₀ cs₀ at₀ ss ws' cs' next
    left_next ws' cs' next now =
        let p = words_of w (reverse rs) in
        let c = constants_of (reverse rs) in
        let from : next * w ≡ at * w + length p = ap (λ (k : ℕ). k * w) now.place ∙ add-mul at (length rs) w ∙ ap (λ (k : ℕ). at * w + k) (sym (words_size w rs)) in
        let from' : next ≡ at + length c = now.place ∙ ap (λ (k : ℕ). at + k) (sym (constants_size rs)) in
        record {
          place = omega (arith, now.place, so.place, length-append rs ss);
          kept = ap length now.words ∙ length-sets ws (at * w) p ∙ so.kept;
          kept' = ap length now.constants ∙ length-sets cs at c ∙ so.kept';
          words =
              ap₂ (λ (l : List ℕ) (k : ℕ). sets l k (words_of w (reverse ss))) now.words from
              ∙ sym (sets_append ws (at * w) p (words_of w (reverse ss))) ∙ ap (sets ws (at * w)) (sym (words_both w rs ss)) ∙ so.words;
          constants =
              ap₂ (λ (l : List ℕ) (k : ℕ). sets l k (constants_of (reverse ss))) now.constants from'
              ∙ sym (sets_append cs at c (constants_of (reverse ss))) ∙ ap (sets cs at) (sym (constants_both rs ss)) ∙ so.constants;
        }

-- ---- all of them

pub all_loaded : (w m : ℕ) (rs : List Row) (ws cs ws' cs' : List ℕ) (next : ℕ) → length rs ≡ m → Room w rs ws cs 0 → Loaded w rs ws cs 0 ws' cs' next
    → (ws' ≡ words_of w (reverse rs) ++ drop (m * w) ws) × (cs' ≡ constants_of (reverse rs) ++ drop m cs)
all_loaded w m rs ws cs ws' cs' next size room so =
    let p = words_of w (reverse rs) in
    let c = constants_of (reverse rs) in
    let lp : length p ≡ m * w = words_size w rs ∙ ap (λ (k : ℕ). k * w) size in
    let lc : length c ≡ m = constants_size rs ∙ size in
    let none : 0 + length rs ≡ m = zero-add (length rs) ∙ size in
    let fits : 0 + length p ≤ length ws = omega (arith, room.words, ap (λ (k : ℕ). k * w) none) in
    let fits' : 0 + length c ≤ length cs = omega (arith, room.constants) in (
      so.words ∙ ap (λ (k : ℕ). sets ws k p) (zero-mul w) ∙ sets-eq p ws 0 fits ∙ ap (λ (k : ℕ). p ++ drop k ws) (zero-add (length p) ∙ lp),
      so.constants ∙ sets-eq c cs 0 fits' ∙ ap (λ (k : ℕ). c ++ drop k cs) (zero-add (length c) ∙ lc),
    )
