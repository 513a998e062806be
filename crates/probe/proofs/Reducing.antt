-- The pivots by their lowest atoms say what forward elimination finds among the rows so far, so that a row is left as forward elimination leaves it.
use Prim.Native.Nat.{ℕ, zero, suc, ◌+◌, ◌-◌, ◌*◌, ◌/◌, ◌≤◌, ◌<◌}
use mathlib.Core.Path.{◌≡◌, refl, sym, ap, ap₂, subst, ◌∙◌}
use mathlib.Core.List.{List, [], ◌∷◌}
use mathlib.Core.Bool.{Bool, true, false, cond, not, ◌&&◌}
use mathlib.Core.Option.{none, some}
use native.Mathlib.Nat.{zero-add, suc-add}
use native.Mathlib.Numerals.{add-one}
use native.Mathlib.Omega.{arith}
use borrow.Author.Tests.{eqb-true, eqb-false, eq-eqb, ne_eqb}
use lib.ListN.{length, get_or, set, replicate, length-append, length-set}
use lib.Seq.{get_or-set_same, get_or-set_other}
use lib.Bits.{bit_xor}
use lib.Count.{count_trailing_zeros}
use lib.Dec.{eqb}
use Rattle.std.proofs.lemmas.List.{length-replicate, get_or_default}
use Rattle.words.specs.Set.{set_of}
use Rattle.rows.specs.Row.{Row, add}
use Rattle.rows.proofs.Digits.{atoms_length}
use Rattle.echelon.specs.Forward.{same_low, empty, find, reduced, joined, State, next}
use Rattle.echelon.specs.Forward as echelon
use Rattle.echelon.specs.Promises.{Lowest}
use Rattle.echelon.specs.Steps.{Onward, rest}
use Rattle.echelon.proofs.Lows.{same_low_lem, other_low, none_low, find_none, has_some, rest_falls}
use Rattle.echelon.proofs.Left.{refuted_stays}
use Rattle.echelon.proofs.Directories.{all_listed}
use Rattle.echelon.proofs.Solutions.{rank_le}
use Rattle.echelon.proofs.Onwards.{find_same, onward_start, onward_next, onward_end}
use Rattle.probe.specs.declared.open_row.OpenRow.{OpenRow}
use Rattle.probe.specs.Steps.{AddedFrom, empty_row, pivot_at}
use Rattle.probe.proofs.Agreed.{numbered_to, numbered_next, numbered_sized, told_forward}
use Rattle.probe.proofs.OpenRows.{row_of, RowFit, EmptyTo, sum, sum_fit, sum_is, sum_empty, sum_from, lowest, lowest_below, lowest_is, lowest_word, no_atom}

-- ---- the pivots

pub pivot_none : {w : ℕ} (pivots : List (OpenRow w)) (i word : ℕ) → word ≡ 0 → get_or (pivot_at pivots i word).words i 0 ≡ 0
unfolding pivot_at
pivot_none {w} pivots i word e = rw e (all_listed 0 w i)

pivot_is : {w : ℕ} (pivots : List (OpenRow w)) (i word : ℕ) → 0 < word
    → pivot_at pivots i word ≡ get_or pivots (i * 64 + count_trailing_zeros 64 word) (empty_row w)
unfolding pivot_at
pivot_is {w} pivots i word h =
    ap (λ (e : Bool). cond e (empty_row w) (get_or pivots (i * 64 + count_trailing_zeros 64 word) (empty_row w))) (ne_eqb word 0 (λ e. omega arith))

-- as it is read
pub pivot_read : {w : ℕ} (pivots : List (OpenRow w)) (i word : ℕ) → 0 < word → i * 64 + count_trailing_zeros 64 word < length pivots
    → (d : OpenRow w) → get_or pivots (i * 64 + count_trailing_zeros 64 word) d ≡ pivot_at pivots i word
pivot_read {w} pivots i word h inside d =
    get_or_default pivots (i * 64 + count_trailing_zeros 64 word) d (empty_row w) inside ∙ sym (pivot_is pivots i word h)

-- the word of a pivot of atom a that has the atom
abbrev head : {w : ℕ} → OpenRow w → ℕ → ℕ
head pivot a = get_or pivot.words (a / 64) 0

-- what the pivots say of atom a: no row so far has it as its lowest one, or the pivot is the row found for one that has
pub record Known (n : ℕ) {w : ℕ} (rows : List Row) (a : ℕ) (pivot : OpenRow w) : Type 0 where
  pub fit : 0 < head pivot a → RowFit n pivot
  pub before : 0 < head pivot a → EmptyTo pivot (a / 64)
  pub none_yet : head pivot a ≡ 0 → (r : Row) → Lowest r a → find r rows ≡ none
  pub found : 0 < head pivot a → (r : Row) → Lowest r a → find r rows ≡ some (row_of n pivot)

pub record Directory (n : ℕ) {w : ℕ} (rows : List Row) (pivots : List (OpenRow w)) : Type 0 where
  pub wide : n ≤ length pivots
  pub known : (a : ℕ) → a < n → Known n rows a (get_or pivots a (empty_row w))

known_start : (n w a : ℕ) → Known n [] a (empty_row w)
known_start n w a =
    let none : head (empty_row w) a ≡ 0 = all_listed 0 w (a / 64) in
    record {
      fit = λ p. let z : ⊥ = omega (arith, p, none) in absurd z;
      before = λ p. let z : ⊥ = omega (arith, p, none) in absurd z;
      none_yet = λ e r low. refl;
      found = λ p. let z : ⊥ = omega (arith, p, none) in absurd z;
    }

pub directory_start : (n w k : ℕ) → n ≤ k → Directory n [] (replicate k (empty_row w))
directory_start n w k h = record {
  wide = simp length-replicate h;
  known = λ a l. rw (all_listed (empty_row w) k a) (known_start n w a);
}

module _ {n w : ℕ} {rows : List Row} {pivots : List (OpenRow w)} (dir : Directory n rows pivots) (q : OpenRow w) (fit : RowFit n q) where
  -- the last row does not have lowest atom a
  known_on : (a : ℕ) (pivot : OpenRow w) → Known n rows a pivot → ((r : Row) → Lowest r a → same_low r.atoms (row_of n q).atoms ≡ false)
      → Known n (row_of n q ∷ rows) a pivot
  known_on a pivot known other = record {
    fit = known.fit;
    before = known.before;
    none_yet = λ e r low. ap (λ (b : Bool). cond b (some (row_of n q)) (find r rows)) (other r low) ∙ known.none_yet e r low;
    found = λ p r low. ap (λ (b : Bool). cond b (some (row_of n q)) (find r rows)) (other r low) ∙ known.found p r low;
  }

  -- an empty row changes nothing
  pub directory_empty : EmptyTo q w → Directory n (row_of n q ∷ rows) pivots
  directory_empty e = record {
    wide = dir.wide;
    known = λ a h. known_on a (get_or pivots a (empty_row w)) (dir.known a h) (λ r low. none_low r.atoms (row_of n q).atoms (no_atom q fit w e (omega arith)));
  }

  -- a row that is not is entered at its lowest atom
  module _ (i : ℕ) (before : EmptyTo q i) (inside : i < w) (some_atom : 0 < get_or q.words i 0) where
    at : ℕ
    at = lowest i q

    is : Lowest (row_of n q) at
    unfolding at
    is = lowest_is q fit i before inside some_atom

    word : at / 64 ≡ i
    unfolding at
    word = lowest_word q fit i before inside some_atom

    some_head : 0 < head q at
    some_head = rw word some_atom

    known_new : Known n (row_of n q ∷ rows) at q
    known_new = record {
      fit = λ p. fit;
      before = λ p. rw word before;
      none_yet = λ e. let z : ⊥ = omega (arith, e, some_head) in absurd z;
      found = λ p r low. ap (λ (b : Bool). cond b (some (row_of n q)) (find r rows)) (same_low_lem r (row_of n q) at low is);
    }

    known_all : (a : ℕ) → a < n → Known n (row_of n q ∷ rows) a (get_or (set pivots at q) a (empty_row w))
    known_all a h = go (eqb a at) refl
      where
        go : (b : Bool) → eqb a at ≡ b → Known n (row_of n q ∷ rows) a (get_or (set pivots at q) a (empty_row w))
        go true e =
            let same = eqb-true a at e in
            rw (same, get_or-set_same pivots at q (empty_row w) (omega (arith, dir.wide, h, same))) known_new
        go false e =
            let ne = eqb-false a at e in
            rw (get_or-set_other pivots at a q (empty_row w) ne)
            (known_on a (get_or pivots a (empty_row w)) (dir.known a h) (λ r low. other_low r (row_of n q) a at low is ne))

    pub directory_pivot : Directory n (row_of n q ∷ rows) (set pivots (lowest i q) q)
    unfolding at
    directory_pivot = record { wide = simp length-set dir.wide; known = known_all }

-- ---- one row reduced

-- from a row to what is left of it, by some additions; its words before place i are empty
pub record Turn (n : ℕ) {w : ℕ} (rows : List Row) (begun : Row) (i : ℕ) (left : OpenRow w) : Type 0 where
  pub fit : RowFit n left
  pub before : EmptyTo left i
  pub additions : ℕ
  pub onward : Onward rows begun additions (row_of n left)

pub turn_start : (n : ℕ) {w : ℕ} (rows : List Row) (q : OpenRow w) → RowFit n q → Turn n rows (row_of n q) 0 q
turn_start n rows q fit = record {
  fit = fit;
  before = λ k h. let z : ⊥ = omega arith in absurd z;
  additions = 0;
  onward = onward_start rows (row_of n q);
}

module _ {n w : ℕ} {rows : List Row} {pivots : List (OpenRow w)} (dir : Directory n rows pivots) {begun : Row} {i : ℕ} {left : OpenRow w}
    (turn : Turn n rows begun i left) where
  -- a word is passed over that is empty
  pub turn_past : get_or left.words i 0 ≡ 0 → Turn n rows begun (i + 1) left
  turn_past e = record {
    fit = turn.fit;
    before = λ k h. by k h (eqb k i) refl;
    additions = turn.additions;
    onward = turn.onward;
  }
    where
      by : (k : ℕ) → k < i + 1 → (t : Bool) → eqb k i ≡ t → get_or left.words k 0 ≡ 0
      by k h true f = rw (eqb-true k i f) e
      by k h false f = let ne = eqb-false k i f in turn.before k (omega arith)

  module _ (inside : i < w) where
    abbrev own : ℕ
    own = get_or left.words i 0

    module _ (some_left : 0 < own) where
      pub atom_below : lowest i left < n
      atom_below = lowest_below left turn.fit i turn.before inside some_left

      known_at : Known n rows (lowest i left) (pivot_at pivots i own)
      known_at = rw (pivot_is pivots i own some_left) (dir.known (lowest i left) atom_below)

      at_head : head (pivot_at pivots i own) (lowest i left) ≡ get_or (pivot_at pivots i own).words i 0
      at_head = ap (λ (k : ℕ). get_or (pivot_at pivots i own).words k 0) (lowest_word left turn.fit i turn.before inside some_left)

    -- a pivot is added
    module _ (pivot : OpenRow w) (some_pivot : 0 < get_or pivot.words i 0) (is : pivot ≡ pivot_at pivots i own) where
      some_by : (t : Bool) → eqb own 0 ≡ t → 0 < own
      some_by true e =
          let none : get_or pivot.words i 0 ≡ 0 = ap (λ (r : OpenRow w). get_or r.words i 0) is ∙ pivot_none pivots i own (eqb-true own 0 e) in
          let z : ⊥ = omega (arith, some_pivot, none) in absurd z
      some_by false e = let ne = eqb-false own 0 e in omega arith

      some_left : 0 < own
      some_left = some_by (eqb own 0) refl

      known : Known n rows (lowest i left) pivot
      known = rw is (known_at some_left)

      here : 0 < head pivot (lowest i left)
      here = rw (ap (λ (r : OpenRow w). head r (lowest i left)) is ∙ at_head some_left ∙ ap (λ (r : OpenRow w). get_or r.words i 0) (sym is)) some_pivot

      pivot_fit : RowFit n pivot
      pivot_fit = known.fit here

      pivot_before : EmptyTo pivot i
      pivot_before = rw (lowest_word left turn.fit i turn.before inside some_left) at (known.before here)

      added : row_of n (sum left pivot) ≡ add (row_of n left) (row_of n pivot)
      added = sum_is left pivot turn.fit pivot_fit

      found : find (row_of n left) rows ≡ some (row_of n pivot)
      found = known.found here (row_of n left) (lowest_is left turn.fit i turn.before inside some_left)

      same_length : length (row_of n left).atoms ≡ length (row_of n pivot).atoms
      same_length = atoms_length n (set_of left.words) ∙ sym (atoms_length n (set_of pivot.words))

      sum_next : Turn n rows begun i (sum left pivot)
      sum_next = record {
        fit = sum_fit left pivot turn.fit pivot_fit;
        before = sum_empty left pivot turn.fit pivot_fit i turn.before pivot_before;
        additions = turn.additions + 1;
        onward = rw added (onward_next rows begun turn.additions (row_of n left) turn.onward (row_of n pivot) found same_length);
      }

      sum_falls : rest (row_of n (sum left pivot)).atoms < rest (row_of n left).atoms
      sum_falls =
          rw (ap (λ (r : Row). rest r.atoms) added)
          (rest_falls (row_of n left).atoms (row_of n pivot).atoms (find_same (row_of n left) (row_of n pivot) rows found) same_length)

      -- from word i on
      module _ (left' : OpenRow w) (made : AddedFrom i left pivot left') where
        is_sum : left' ≡ sum left pivot
        is_sum = sum_from left pivot turn.fit pivot_fit i turn.before pivot_before left' made

        pub turn_next : Turn n rows begun i left'
        turn_next = rw is_sum sum_next

        pub turn_falls : rest (row_of n left').atoms < rest (row_of n left).atoms
        turn_falls = rw is_sum sum_falls

        pub turn_word : bit_xor (get_or left.words i 0) (get_or pivot.words i 0) ≡ get_or left'.words i 0
        turn_word = sym (made.from i (omega arith) (omega (arith, turn.fit.long)))

  module _ (long : length begun.atoms ≡ n) where
    -- no pivot is left
    pub turn_pivot : (inside : i < w) → 0 < get_or left.words i 0 → get_or (pivot_at pivots i (get_or left.words i 0)).words i 0 ≡ 0
        → (row_of n left, turn.additions) ≡ reduced n rows begun
    turn_pivot inside some_atom none_left =
        onward_end rows begun turn.additions (row_of n left) turn.onward n long
        ((known_at inside some_atom).none_yet (at_head inside some_atom ∙ none_left) (row_of n left)
        (lowest_is left turn.fit i turn.before inside some_atom))

    -- or no atom
    pub turn_empty : w ≤ i → (row_of n left, turn.additions) ≡ reduced n rows begun
    turn_empty all =
        onward_end rows begun turn.additions (row_of n left) turn.onward n long
        (find_none (row_of n left) (no_atom left turn.fit i turn.before all) rows)

-- ---- row after row

module _ (n w : ℕ) (f : ℕ → OpenRow w) where
  abbrev pub after : ℕ → State
  after j = echelon.eliminated n (numbered_to (λ i. row_of n (f i)) j)

  pub record Tabled (pivots : List (OpenRow w)) (kept j : ℕ) : Type 0 where
    pub going : (after j).refuted ≡ false
    pub kept_is : kept ≡ length (after j).basis
    pub directory : Directory n (after j).rows pivots

  pub tabled_start : (k : ℕ) → n ≤ k → Tabled (replicate k (empty_row w)) 0 0
  unfolding echelon.eliminated numbered_to
  tabled_start k h = record { going = refl; kept_is = refl; directory = directory_start n w k h }

  -- a refuted state stays
  stuck : (j d : ℕ) → (after j).refuted ≡ true → after (d + j) ≡ after j
  unfolding numbered_to
  stuck j zero e = ap after (zero-add j)
  stuck j (suc d) e =
      let before = stuck j d e in
      ap after (suc-add d j)
      ∙ refuted_stays n (row_of n (f (d + j))) (numbered_to (λ i. row_of n (f i)) (d + j)) (ap (λ (st : State). st.refuted) before ∙ e) ∙ before

  pub tabled_few : {pivots : List (OpenRow w)} {kept j : ℕ} → Tabled pivots kept j → kept ≤ n
  tabled_few {j = j} so =
      omega (arith, so.kept_is, rank_le n (numbered_to (λ i. row_of n (f i)) j) (numbered_sized n (λ i. row_of n (f i)) (λ i. atoms_length n (set_of (f i).words)) j))

  module _ {pivots : List (OpenRow w)} {kept j : ℕ} (so : Tabled pivots kept j) {q left : OpenRow w} (is_next : q ≡ f j) {i : ℕ}
      (turn : Turn n (after j).rows (row_of n q) i left) where
    long : length (row_of n q).atoms ≡ n
    long = atoms_length n (set_of q.words)

    -- what stands after a row that is reduced
    module _ (reduces : (row_of n left, turn.additions) ≡ reduced n (after j).rows (row_of n q)) where
      then : after (j + 1) ≡ next (after j) (row_of n left, turn.additions)
      then =
          ap after (add-one j) ∙ numbered_next n (λ i. row_of n (f i)) j
          ∙ ap (λ (b : Bool). cond b (after j) (next (after j) (reduced n (after j).rows (row_of n (f j))))) so.going
          ∙ ap (λ (r : OpenRow w). next (after j) (reduced n (after j).rows (row_of n r))) (sym is_next)
          ∙ ap (next (after j)) (sym reduces)

      refuted_is : (b : Bool) → empty (row_of n left).atoms ≡ b → (after (j + 1)).refuted ≡ (b && eqb left.constant 1)
      refuted_is b is = ap (λ (st : State). st.refuted) then ∙ ap (λ (t : Bool). t && eqb left.constant 1) is

      basis_is : (b : Bool) → empty (row_of n left).atoms ≡ b → (after (j + 1)).basis ≡ joined b (length (after j).rows) (after j).basis
      basis_is b is = ap (λ (st : State). st.basis) then ∙ ap (λ (t : Bool). joined t (length (after j).rows) (after j).basis) is

    pub tabled_pivot : i < w → 0 < get_or left.words i 0 → get_or (pivot_at pivots i (get_or left.words i 0)).words i 0 ≡ 0
        → Tabled (set pivots (lowest i left) left) (kept + 1) (j + 1)
    tabled_pivot inside some_atom none_left =
        let reduces = turn_pivot so.directory turn long inside some_atom none_left in
        let is : empty (row_of n left).atoms ≡ false =
        has_some (row_of n left) (lowest i left) (lowest_is left turn.fit i turn.before inside some_atom) in
        record {
          going = refuted_is reduces false is;
          kept_is =
              ap (λ (k : ℕ). k + 1) so.kept_is ∙ sym (length-append (after j).basis (length (after j).rows ∷ [])) ∙ sym (ap length (basis_is reduces false is));
          directory =
              subst (λ (st : State). Directory n st.rows (set pivots (lowest i left) left)) (sym (then reduces))
              (directory_pivot so.directory left turn.fit i turn.before inside some_atom);
        }

    module _ (all : w ≤ i) where
      reduces : (row_of n left, turn.additions) ≡ reduced n (after j).rows (row_of n q)
      reduces = turn_empty so.directory turn long all

      no_atoms : empty (row_of n left).atoms ≡ true
      no_atoms = no_atom left turn.fit i turn.before all

      counted : kept ≡ length (after (j + 1)).basis
      counted = so.kept_is ∙ sym (ap length (basis_is reduces true no_atoms))

      pub tabled_empty : (left.constant ≡ 1 → ⊥) → Tabled pivots kept (j + 1)
      tabled_empty ne = record {
        going = refuted_is reduces true no_atoms ∙ ne_eqb left.constant 1 ne;
        kept_is = counted;
        directory =
            subst (λ (st : State). Directory n st.rows pivots) (sym (then reduces))
            (directory_empty so.directory left turn.fit (λ k h. turn.before k (omega arith)));
      }

      pub tabled_refuted : (m : ℕ) → j < m → left.constant ≡ 1 → record { kept = kept; sound = false } ≡ told_forward (after m)
      tabled_refuted m h one =
          let refuted : (after (j + 1)).refuted ≡ true = refuted_is reduces true no_atoms ∙ eq-eqb left.constant 1 one in
          let last : m - (j + 1) + (j + 1) ≡ m = omega (arith, h) in
          ap₂ (λ (k : ℕ) (t : Bool). record { kept = k; sound = not t }) counted (sym refuted)
          ∙ ap told_forward (sym (stuck (j + 1) (m - (j + 1)) refuted) ∙ ap after last)

  pub tabled_end : {pivots : List (OpenRow w)} {kept j : ℕ} → Tabled pivots kept j → record { kept = kept; sound = true } ≡ told_forward (after j)
  tabled_end so = ap₂ (λ (k : ℕ) (t : Bool). record { kept = k; sound = not t }) so.kept_is (sym so.going)
