-- What `add` and the overlaps do, seen as rows over n atoms.
use Prim.Native.Nat.{ℕ, suc, ◌+◌, ◌-◌, ◌*◌, ◌%◌, ◌^◌, ◌≤◌, ◌<◌}
use mathlib.Core.Path.{◌≡◌, refl, sym, ap, ap₂, ◌∙◌}
use mathlib.Core.List.{List, [], ◌∷◌, ◌++◌, zip_with}
use mathlib.Core.Bool.{Bool, true, false, cond, xor, ◌&&◌, false≢true}
use native.Mathlib.Nat.{mod-eq_of_lt, div-eq_of_lt, lt_of_lt_of_le}
use native.Mathlib.Omega.{arith}
use borrow.Author.Tests.{ltb-true, ltb-false, eqb-true, eqb-false}
use lib.Arith.{lt_of_le-ne}
use lib.ListN.{length, get_or, take, drop, length-drop, take-append-drop, get_or-eq_default}
use lib.Seq.{length-take-le, take_at, drop_at, take-append-le, drop-append-le, drop-drop, get_or-set_same, get_or-set_other}
use lib.Dec.{eqb, ltb}
use lib.Bits.{bit_xor}
use lib.Pow.{pow_mono}
use Rattle.words.specs.Set.{set_of, has, low}
use Rattle.words.specs.Calls.{narrow}
use Rattle.words.proofs.Bitwise.{by_xor, two}
use Rattle.words.proofs.Packed.{packed_zip}
use Rattle.words.proofs.Meaning.{low_lowest, has_none}
use Rattle.rows.specs.Flat.{row, row_at, atoms_of, mask_of}
use Rattle.rows.specs.Calls.{outside, added_words, added_constants, lowest_of, within}
use Rattle.rows.specs.declared.Source.{Source}
use Rattle.rows.specs.declared.Atom.{Atom}
use Rattle.rows.specs.declared.Outside.{Outside}
use Rattle.std.specs.Prelude.{Option, Some, None, Result, Ok, Err}
use Rattle.rows.specs.Promises.{AddSums, OverlapShared, RowHas, LowestIsLowest}
use Rattle.rows.proofs.Adding.{can_add, earlier}
use Rattle.rows.proofs.Places.{row_length}
use Rattle.rows.proofs.Digits.{atoms_xor, atoms_overlap, atoms_has, atoms_length, atoms_mask, mask_lt}

pub overlap_shared : OverlapShared
unfolding row_at
overlap_shared n w ws cs r x h = atoms_overlap n (set_of (row w ws r)) x h

-- ---- the words of a row after another was added to row t

pub zip_length : {A B C : Type 0} (op : A → B → C) (l : List A) (r : List B) → length l ≡ length r → length (zip_with op l r) ≡ length l
unfolding zip_with
zip_length op [] r h = refl
zip_length op (x ∷ l) [] h = let z : ⊥ = omega arith in absurd z
zip_length op (x ∷ l) (y ∷ r) h = ap suc (zip_length op l r (omega arith))

part_front : (w a : ℕ) (p q : List ℕ) → a + w ≤ length p → take w (drop a (p ++ q)) ≡ take w (drop a p)
part_front w a p q h =
    let l : w ≤ length (drop a p) = simp length-drop (omega arith) in
    ap (take w) (drop-append-le a p q (omega arith)) ∙ take-append-le w (drop a p) q l

module _ (w : ℕ) (ws : List ℕ) (t s : Source) (lt : s.0 < t.0) (fits : t.0 * w + w ≤ length ws) where
  front : length (take (t.0 * w) ws) ≡ t.0 * w
  front = length-take-le (t.0 * w) ws (omega arith)

  sum : List ℕ
  sum = zip_with bit_xor (row w ws t.0) (row w ws s.0)

  target_length : length (row w ws t.0) ≡ w
  target_length = row_length w ws t.0 fits

  source_length : length (row w ws s.0) ≡ w
  source_length = row_length w ws s.0 (omega (arith, earlier w t.0 s.0 lt))

  sum_length : length sum ≡ w
  unfolding sum
  sum_length = zip_length bit_xor (row w ws t.0) (row w ws s.0) (target_length ∙ sym source_length) ∙ target_length

  row_target : row w (added_words w ws t s) t.0 ≡ sum
  unfolding added_words sum
  row_target = ap (take w) (drop_at (take (t.0 * w) ws) (sum ++ drop (t.0 * w + w) ws) (t.0 * w) front) ∙ take_at sum (drop (t.0 * w + w) ws) w sum_length

  row_before : (r : ℕ) → r < t.0 → row w (added_words w ws t s) r ≡ row w ws r
  unfolding added_words sum
  row_before r h =
      let ends : r * w + w ≤ length (take (t.0 * w) ws) = omega (arith, front, earlier w t.0 r h) in
      part_front w (r * w) (take (t.0 * w) ws) _ ends ∙ sym (part_front w (r * w) (take (t.0 * w) ws) (drop (t.0 * w) ws) ends)
      ∙ ap (λ (l : List ℕ). take w (drop (r * w) l)) (take-append-drop (t.0 * w) ws)

  rest : drop (t.0 * w + w) (added_words w ws t s) ≡ drop (t.0 * w + w) ws
  unfolding added_words sum
  rest =
      sym (drop-drop w (t.0 * w) (added_words w ws t s))
      ∙ ap (drop w) (drop_at (take (t.0 * w) ws) (sum ++ drop (t.0 * w + w) ws) (t.0 * w) front) ∙ drop_at sum (drop (t.0 * w + w) ws) w sum_length

  row_after : (r : ℕ) → t.0 < r → row w (added_words w ws t s) r ≡ row w ws r
  row_after r h =
      let d = r * w - (t.0 * w + w) in
      let e : t.0 * w + w + d ≡ r * w = omega (arith, earlier w r t.0 h) in
      let split : (l : List ℕ) → drop d (drop (t.0 * w + w) l) ≡ drop (r * w) l = λ l. drop-drop d (t.0 * w + w) l ∙ ap (λ (n : ℕ). drop n l) e in
      ap (take w) (sym (split (added_words w ws t s)) ∙ ap (drop d) rest ∙ split ws)

  row_other : (r : ℕ) → (r ≡ t.0 → ⊥) → row w (added_words w ws t s) r ≡ row w ws r
  row_other r ne = go (ltb r t.0) refl
    where
      go : (b : Bool) → ltb r t.0 ≡ b → row w (added_words w ws t s) r ≡ row w ws r
      go true e = row_before r (ltb-true r t.0 e)
      go false e = row_after r (lt_of_le-ne (ltb-false r t.0 e) (λ p. ne (sym p)))

  set_target : set_of (row w (added_words w ws t s) t.0) ≡ bit_xor (set_of (row w ws t.0)) (set_of (row w ws s.0))
  unfolding sum
  set_target = ap set_of row_target ∙ packed_zip by_xor 64 (row w ws t.0) (row w ws s.0) (target_length ∙ sym source_length)

-- a constant is 0 or 1
pub constant_sum : (a b : ℕ) → a < 2 → b < 2 → eqb (bit_xor a b) 1 ≡ xor (eqb a 1) (eqb b 1)
unfolding xor
constant_sum a b ha hb =
    ap₂ (λ (x y : ℕ). eqb (bit_xor x y) 1) (sym (mod-eq_of_lt ha)) (sym (mod-eq_of_lt hb))
    ∙ two (λ (x y : ℕ). eqb (bit_xor x y) 1 ≡ xor (eqb x 1) (eqb y 1)) refl refl refl refl a b
    ∙ ap₂ (λ (x y : ℕ). xor (eqb x 1) (eqb y 1)) (mod-eq_of_lt ha) (mod-eq_of_lt hb)

pub add_sums : AddSums
unfolding row_at added_constants
add_sums n w ws cs t s able ct cs' =
    let can = can_add w (length ws) (length cs) t.0 s.0 able in
    let sums = set_target w ws t s can.before can.words in
    let constant : eqb (get_or (added_constants cs t s) t.0 0) 1 ≡ xor (eqb (get_or cs t.0 0) 1) (eqb (get_or cs s.0 0) 1) =
    ap (λ (c : ℕ). eqb c 1) (get_or-set_same cs t.0 _ 0 can.constant) ∙ constant_sum (get_or cs t.0 0) (get_or cs s.0 0) ct cs' in (
      ap₂ (λ (l : List Bool) (c : Bool). record { atoms = l; constant = c })
          (ap (atoms_of n) sums ∙ atoms_xor n (set_of (row w ws t.0)) (set_of (row w ws s.0))) constant,
      λ r ne.
          ap₂ (λ (l : List ℕ) (c : ℕ). record { atoms = atoms_of n (set_of l); constant = eqb c 1 })
          (row_other w ws t s can.before can.words r ne) (get_or-set_other cs t.0 r _ 0 ne),
    )

-- ---- the atoms of a row

pub row_has : RowHas
unfolding row_at
row_has n w ws cs r a h = atoms_has n (set_of (row w ws r)) a h

-- what `lowest_atom` answers of a row that is there or not, and that is empty or has the lowest atom x
abbrev lowest_at : Bool → Bool → ℕ → Result (Option Atom) Outside
lowest_at t e x = cond t (Ok (cond e None (Some (record { 0 = x })))) (Err outside)

lowest_cases : (t e : Bool) (x : ℕ) → ((a : ℕ) → lowest_at t e x ≡ Ok (Some (record { 0 = a })) → (e ≡ false) × (x ≡ a)) × (lowest_at t e x ≡ Ok None → e ≡ true)
lowest_cases true true x = ((λ a p. (cc, cc)), (λ p. refl))
lowest_cases true false x = (
  (λ a p. let e : ◌≡◌ {A = Atom} (record { 0 = x }) (record { 0 = a }) = cc in (refl, ap (λ (t : Atom). t.0) e)),
  (λ p. cc),
)
lowest_cases false e x = ((λ a p. (cc, cc)), (λ p. cc))

-- an atom of a set below 2 ^ n is below n
pub has_above : (n x a : ℕ) → x < 2 ^ n → n ≤ a → has x a ≡ false
has_above n x a h l = ap (λ (k : ℕ). eqb (k % 2) 1) (div-eq_of_lt (lt_of_lt_of_le h (pow_mono l)))

pub has_below : (n x a : ℕ) → x < 2 ^ n → has x a ≡ true → a < n
has_below n x a h e = go (ltb a n) refl
  where
    go : (b : Bool) → ltb a n ≡ b → a < n
    go true l = ltb-true a n l
    go false l = absurd (false≢true (sym (has_above n x a h (ltb-false a n l)) ∙ e))

-- the set of a list has just the atoms of the list
pub mask_has : (l : List Bool) (a : ℕ) → has (mask_of l) a ≡ get_or l a false
mask_has l a = go (ltb a (length l)) refl
  where
    go : (b : Bool) → ltb a (length l) ≡ b → has (mask_of l) a ≡ get_or l a false
    go true e = sym (atoms_has (length l) (mask_of l) a (ltb-true a (length l) e)) ∙ ap (λ (m : List Bool). get_or m a false) (atoms_mask l)
    go false e = let past = ltb-false a (length l) e in has_above (length l) (mask_of l) a (mask_lt l) past ∙ sym (get_or-eq_default l false past)

-- an atom that the set lacks is not in its list, wherever that ends
pub atoms_none : (n x b : ℕ) → has x b ≡ false → get_or (atoms_of n x) b false ≡ false
atoms_none n x b e = go (ltb b n) refl
  where
    go : (t : Bool) → ltb b n ≡ t → get_or (atoms_of n x) b false ≡ false
    go true l = atoms_has n x b (ltb-true b n l) ∙ e
    go false l =
        let past : length (atoms_of n x) ≤ b = omega (arith, atoms_length n x, ltb-false b n l) in
        get_or-eq_default (atoms_of n x) false past

pub lowest_is_lowest : LowestIsLowest
unfolding lowest_of row_at
lowest_is_lowest n w ws cs r fit =
    let x = set_of (row w ws r.0) in
    let cases = lowest_cases (within w ws r && narrow w) (eqb x 0) (low x) in (
      (λ a e.
          let some : 0 < x = omega (arith, eqb-false x 0 (cases.0 a e).0) in
          let lowest = rw (cases.0 a e).1 at (low_lowest x some) in
          let lt = has_below n x a fit lowest.0 in
          (lt, atoms_has n x a lt ∙ lowest.0, λ b l. atoms_none n x b (lowest.1 b l))),
      (λ e b. atoms_none n x b (ap (λ (k : ℕ). has k b) (eqb-true x 0 (cases.1 e)) ∙ has_none b)),
    )
