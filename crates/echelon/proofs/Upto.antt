-- The turns of `eliminate_rows`: after t rows the memory holds what `eliminated` says of them, and the rest is as it was.
use Prim.Native.Nat.{ℕ, zero, suc, ◌+◌, ◌-◌, ◌*◌, ◌^◌, ◌≤◌, ◌<◌, min}
use mathlib.Core.Path.{◌≡◌, refl, sym, ap, ap₂, ◌∙◌}
use mathlib.Core.List.{List, [], ◌∷◌, ◌++◌}
use Rattle.std.specs.Prelude.{Option, Some, None}
use mathlib.Core.Bool.{Bool, true, false, cond, ◌&&◌}
use native.Mathlib.Nat.{suc-mul, add-zero, zero-add, suc-add}
use native.Mathlib.Numerals.{add-one}
use native.Mathlib.Omega.{arith}
use lib.ListN.{length, get_or, take, drop, set, length-append, length-set, take-append-drop}
use lib.Seq.{drop-drop, drop-cons, append_snoc, set_at, get_or-drop}
use borrow.Author.Tests.{eq-eqb, ne_eqb}
use lib.Dec.{eqb}
use Rattle.words.specs.Set.{set_of}
use Rattle.rows.specs.Row.{Row}
use Rattle.rows.specs.Flat.{row_at, atoms_of}
use Rattle.echelon.specs.Forward.{State, empty, joined, next, reduced, eliminated}
use Rattle.echelon.specs.Eliminate.{rows_to, words_of, constants_of, written, outcome}
use Rattle.echelon.specs.Promises.{Sized}
use Rattle.echelon.specs.declared.directory.NewPivot.{NewPivot}
use Rattle.echelon.specs.declared.directory.Pivot.{Pivot}
use Rattle.echelon.specs.Steps.{Clean, WordsFit, ListsPivots, IsNewPivot, Finished}
use Rattle.echelon.proofs.Lows.{has_some}
use Rattle.echelon.proofs.Left.{refuted_stays, rows_le}
use Rattle.echelon.proofs.Basis.{rank_rows}
use Rattle.echelon.proofs.Solutions.{rank_le}
use Rattle.echelon.proofs.Written.{words_back, constants_back}
use Rattle.echelon.proofs.Replaced.{row_at_length, rows_kept}
use Rattle.echelon.proofs.Finishing.{directory_kept}
use Rattle.echelon.proofs.Directories.{clean_all, directory_empty, directory_pivot}

abbrev pub after : ℕ → ℕ → List ℕ → List ℕ → ℕ → State
after n w ws cs t = eliminated n (rows_to n w ws cs t)

pub rows_sized : (n w : ℕ) (ws cs : List ℕ) (t : ℕ) → Sized n (rows_to n w ws cs t)
unfolding rows_to
rows_sized n w ws cs zero = tt
rows_sized n w ws cs (suc t) = (row_at_length n w ws cs t, rows_sized n w ws cs t)

pub rows_length : (n w : ℕ) (ws cs : List ℕ) (t : ℕ) → length (rows_to n w ws cs t) ≡ t
unfolding rows_to
rows_length n w ws cs zero = refl
rows_length n w ws cs (suc t) = ap suc (rows_length n w ws cs t)

pub record Upto (n w t : ℕ) (ws cs ps ws' cs' ps' : List ℕ) (pivots : List Pivot) (rank additions : ℕ) : Type 0 where
  pub words : length ws' ≡ length ws
  pub constants : length cs' ≡ length cs
  pub entries : length ps' ≡ length ps
  pub rows : rows_to n w ws' cs' t ≡ (after n w ws cs t).rows
  pub ahead : drop (t * w) ws' ≡ drop (t * w) ws
  pub ahead' : drop t cs' ≡ drop t cs
  pub basis : ps' ≡ (after n w ws cs t).basis ++ drop rank ps
  pub rank_is : rank ≡ length (after n w ws cs t).basis
  pub additions_is : additions ≡ (after n w ws cs t).additions
  pub going : (after n w ws cs t).refuted ≡ false
  pub directory : ListsPivots n w t ws' cs' pivots
  pub few : additions ≤ t * 512
  pub fits : WordsFit ws'

pub upto_start : {n w : ℕ} {ws cs : List ℕ} {pivots : List Pivot} (ps : List ℕ) → ListsPivots n w 0 ws cs pivots → WordsFit ws → Upto n w 0 ws cs ps ws cs ps pivots 0 0
unfolding eliminated rows_to
upto_start ps dir fits = record {
  words = refl;
  constants = refl;
  entries = refl;
  rows = refl;
  ahead = refl;
  ahead' = refl;
  basis = refl;
  rank_is = refl;
  additions_is = refl;
  going = refl;
  directory = dir;
  few = omega arith;
  fits = fits;
}

-- ---- what stands at the end

module _ (n w t : ℕ) (ws cs ws' cs' : List ℕ) (rs : List Row) (rows : rows_to n w ws' cs' t ≡ rs) (clean : (r : ℕ) → r < t → Clean n w r ws' cs')
  where
    count_is : t ≡ length rs
    count_is = sym (rows_length n w ws' cs' t) ∙ ap length rows

    pub words_whole : t * w ≤ length ws' → ((i : ℕ) → get_or ws' i 0 < 2 ^ 64) → drop (t * w) ws' ≡ drop (t * w) ws → ws' ≡ words_of w rs ++ drop (length rs * w) ws
    words_whole room fits ahead =
        sym (take-append-drop (t * w) ws')
        ∙ ap₂ ◌++◌ (sym (words_back n w ws' cs' t fits room (λ r h. (clean r h).atoms)) ∙ ap (words_of w) rows) (ahead ∙ ap (λ (k : ℕ). drop (k * w) ws) count_is)

    pub constants_whole : t ≤ length cs' → drop t cs' ≡ drop t cs → cs' ≡ constants_of rs ++ drop (length rs) cs
    constants_whole room ahead =
        sym (take-append-drop t cs')
        ∙ ap₂ ◌++◌ (sym (constants_back n w ws' cs' t room (λ r h. (clean r h).constant)) ∙ ap constants_of rows) (ahead ∙ ap (λ (k : ℕ). drop k cs) count_is)

-- the whole memory, and the counts
pub written_is : (w : ℕ) (st : State) (ws cs ps ws' cs' ps' : List ℕ) (rank additions : ℕ) (refuted : Bool)
    → ws' ≡ words_of w st.rows ++ drop (length st.rows * w) ws → cs' ≡ constants_of st.rows ++ drop (length st.rows) cs
    → ps' ≡ st.basis ++ drop rank ps → rank ≡ length st.basis → additions ≡ st.additions → refuted ≡ st.refuted
    → outcome (record { rank = rank; additions = additions; refuted = refuted }) ws' cs' ps' ≡ written w st ws cs ps
written_is w st ws cs ps ws' cs' ps' rank additions refuted words constants basis rank_is additions_is refuted_is =
    rw (words, constants, basis, rank_is, additions_is, refuted_is) refl

-- a refuted state stays
stuck : (n w : ℕ) (ws cs : List ℕ) (t d : ℕ) → (after n w ws cs t).refuted ≡ true → after n w ws cs (d + t) ≡ after n w ws cs t
unfolding rows_to
stuck n w ws cs t zero e = ap (after n w ws cs) (zero-add t)
stuck n w ws cs t (suc d) e =
    let before = stuck n w ws cs t d e in
    ap (after n w ws cs) (suc-add d t)
    ∙ refuted_stays n (row_at n w ws cs (d + t)) (rows_to n w ws cs (d + t)) (ap (λ (s : State). s.refuted) before ∙ e) ∙ before

-- ---- one row more

module _ {n w t : ℕ} {ws cs ps ws' cs' ps' : List ℕ} {pivots : List Pivot} {rank additions : ℕ}
    (so : Upto n w t ws cs ps ws' cs' ps' pivots rank additions) where
  st : State
  st = after n w ws cs t

  -- row t is still as handed in
  constant_here : get_or cs' t 0 ≡ get_or cs t 0
  constant_here =
      let first : (l : List ℕ) → get_or l t 0 ≡ get_or (drop t l) 0 0 = λ l. sym (get_or-drop t l 0 0 ∙ ap (λ (i : ℕ). get_or l i 0) (add-zero t)) in
      first cs' ∙ ap (λ (l : List ℕ). get_or l 0 0) so.ahead' ∙ sym (first cs)

  at_here : row_at n w ws' cs' t ≡ row_at n w ws cs t
  unfolding row_at
  at_here = ap₂ (λ (l : List ℕ) (c : ℕ). record { atoms = atoms_of n (set_of (take w l)); constant = eqb c 1 }) so.ahead constant_here

  few_rows : length st.rows ≡ t
  unfolding st
  few_rows = ap length (sym so.rows) ∙ rows_length n w ws' cs' t

  module _ {ws'' cs'' : List ℕ} {pivot : Option NewPivot} {k : ℕ} (bound : n ≤ 512) (f : Finished n w t ws' cs' ws'' cs'' pivot k) where
    left : Row
    left = row_at n w ws'' cs'' t

    next_is : after n w ws cs (suc t) ≡ next st (left, k)
    unfolding eliminated rows_to st left
    next_is =
        ap (λ (b : Bool). cond b st (next st (reduced n st.rows (row_at n w ws cs t)))) so.going
        ∙ ap (next st) (ap₂ (reduced n) (sym so.rows) (sym at_here) ∙ sym f.row)

    rows_next : rows_to n w ws'' cs'' (suc t) ≡ left ∷ st.rows
    unfolding rows_to left st
    rows_next = ap (◌∷◌ left) (rows_kept n w t t ws' cs' ws'' cs'' (omega arith) f.only ∙ so.rows)

    ahead_next : drop (suc t * w) ws'' ≡ drop (suc t * w) ws
    ahead_next =
        let further : (l : List ℕ) → drop (suc t * w) l ≡ drop (t * w + w) l = λ l. ap (λ (i : ℕ). drop i l) (suc-mul t w) in
        further ws'' ∙ f.only.after ∙ sym (drop-drop w (t * w) ws') ∙ ap (drop w) so.ahead ∙ drop-drop w (t * w) ws ∙ sym (further ws)

    ahead_next' : drop (suc t) cs'' ≡ drop (suc t) cs
    ahead_next' =
        let further : (l : List ℕ) → drop (suc t) l ≡ drop 1 (drop t l) = λ l. ap (λ (i : ℕ). drop i l) (sym (add-one t)) ∙ sym (drop-drop 1 t l) in
        f.only.after' ∙ further cs' ∙ ap (drop 1) so.ahead' ∙ sym (further cs)

    clean_next : (r : ℕ) → r < suc t → Clean n w r ws'' cs''
    clean_next = clean_all n w t ws'' cs'' pivots (directory_kept f.only so.directory) f.clean

    few_next : additions + k ≤ suc t * 512
    few_next = omega (arith, so.few, f.few)

    upto_next : (ps'' : List ℕ) (pivots'' : List Pivot) (rank'' : ℕ) → length ps'' ≡ length ps → ps'' ≡ joined (empty left.atoms) t st.basis ++ drop rank'' ps
        → rank'' ≡ length (joined (empty left.atoms) t st.basis) → (empty left.atoms && left.constant) ≡ false
        → ListsPivots n w (suc t) ws'' cs'' pivots'' → Upto n w (suc t) ws cs ps ws'' cs'' ps'' pivots'' rank'' (additions + k)
    unfolding st
    upto_next ps'' pivots'' rank'' entries basis rank_is going directory = record {
      words = f.only.words ∙ so.words;
      constants = f.only.constants ∙ so.constants;
      entries = entries;
      rows = rows_next ∙ sym (ap (λ (s : State). s.rows) next_is);
      ahead = ahead_next;
      ahead' = ahead_next';
      basis = basis ∙ sym (ap (λ (s : State). s.basis ++ drop rank'' ps) next_is ∙ ap (λ (i : ℕ). joined (empty left.atoms) i st.basis ++ drop rank'' ps) few_rows);
      rank_is = rank_is ∙ sym (ap (λ (s : State). length s.basis) next_is ∙ ap (λ (i : ℕ). length (joined (empty left.atoms) i st.basis)) few_rows);
      additions_is = ap (λ (i : ℕ). i + k) so.additions_is ∙ sym (ap (λ (s : State). s.additions) next_is);
      going = ap (λ (s : State). s.refuted) next_is ∙ going;
      directory = directory;
      few = few_next;
      fits = f.fits so.fits;
    }

    directory_here : ListsPivots n w t ws'' cs'' pivots
    directory_here = directory_kept f.only so.directory

    -- the row is left empty with constant 0
    empty_left : pivot ≡ None → empty left.atoms ≡ true
    unfolding left
    empty_left e = rw e at f.pivot_is

    pub upto_empty : pivot ≡ None → (get_or cs'' t 0 ≡ 1 → ⊥) → Upto n w (suc t) ws cs ps ws'' cs'' ps' pivots rank (additions + k)
    unfolding st left row_at
    upto_empty e ne =
        let none = empty_left e in
        upto_next ps' pivots rank so.entries (so.basis ∙ ap (λ (b : Bool). joined b t st.basis ++ drop rank ps) (sym none))
        (so.rank_is ∙ ap (λ (b : Bool). length (joined b t st.basis)) (sym none))
        (ap (λ (b : Bool). b && left.constant) none ∙ ne_eqb (get_or cs'' t 0) 1 ne)
        (directory_empty n w t ws'' cs'' pivots directory_here f.clean none)

    -- it has a new lowest atom
    module _ {p : NewPivot} (pivot_is : pivot ≡ Some p) where
      pub new_pivot : IsNewPivot n w t ws'' cs'' p.head p.lowest.0
      new_pivot = rw pivot_is at f.pivot_is

      left_some : empty left.atoms ≡ false
      unfolding left
      left_some = has_some (row_at n w ws'' cs'' t) p.lowest.0 new_pivot.is

      rank_next : length (after n w ws cs (suc t)).basis ≡ rank + 1
      unfolding st
      rank_next =
          ap (λ (s : State). length s.basis) next_is ∙ ap (λ (b : Bool). length (joined b (length st.rows) st.basis)) left_some
          ∙ length-append st.basis (length st.rows ∷ []) ∙ ap (λ (i : ℕ). i + 1) (sym so.rank_is)

      pub pivot_room : (m : ℕ) → t < m → rank < min m n
      pivot_room m h =
          let rs = rows_to n w ws cs (suc t) in
          let atoms = rank_le n rs (rows_sized n w ws cs (suc t)) in
          let rows = rank_rows n rs in
          let handed = rows_le n rs in
          omega (arith, rank_next, rows_length n w ws cs (suc t))

      pub upto_pivot : rank < length ps → n ≤ w * 64
          → Upto n w (suc t) ws cs ps ws'' cs'' (set ps' rank t) (set pivots p.lowest.0 (record { head = p.head; source = record { 0 = t } })) (rank + 1) (additions + k)
      unfolding st left
      upto_pivot room wide =
          let split : ps' ≡ st.basis ++ get_or ps rank 0 ∷ drop (suc rank) ps = so.basis ∙ ap (λ (l : List ℕ). st.basis ++ l) (drop-cons ps rank 0 room) in
          upto_next (set ps' rank t) (set pivots p.lowest.0 (record { head = p.head; source = record { 0 = t } })) (rank + 1) (simp length-set so.entries)
          (ap (λ (l : List ℕ). set l rank t) split ∙ set_at st.basis (get_or ps rank 0) (drop (suc rank) ps) t rank (sym so.rank_is)
          ∙ sym (append_snoc st.basis t (drop (suc rank) ps))
          ∙ ap₂ (λ (b : Bool) (i : ℕ). joined b t st.basis ++ drop i ps) (sym left_some) (sym (add-one rank)))
          (ap (λ (i : ℕ). i + 1) so.rank_is ∙ sym (length-append st.basis (t ∷ [])) ∙ ap (λ (b : Bool). length (joined b t st.basis)) (sym left_some))
          (ap (λ (b : Bool). b && left.constant) left_some)
          (directory_pivot n w t ws'' cs'' pivots directory_here f.clean wide p.head p.lowest.0 new_pivot)

    -- the row is left empty with constant 1: the end
    pub upto_refuted : (m : ℕ) → t < m → pivot ≡ None → get_or cs'' t 0 ≡ 1
        → outcome (record { rank = rank; additions = additions + k; refuted = true }) ws'' cs'' ps' ≡ written w (after n w ws cs m) ws cs ps
    unfolding st left row_at
    upto_refuted m h e one =
        let none = empty_left e in
        let end : State = next st (left, k) in
        let refuted : end.refuted ≡ true = ap (λ (b : Bool). b && left.constant) none ∙ eq-eqb (get_or cs'' t 0) 1 one in
        let last : (m - suc t) + suc t ≡ m = omega arith in
        let stays : after n w ws cs m ≡ end =
        ap (after n w ws cs) (sym last) ∙ stuck n w ws cs (suc t) (m - suc t) (ap (λ (s : State). s.refuted) next_is ∙ refuted) ∙ next_is in
        let words = words_whole n w (suc t) ws cs ws'' cs'' end.rows rows_next clean_next (omega (arith, suc-mul t w, f.clean.words)) (f.fits so.fits) ahead_next in
        let constants = constants_whole n w (suc t) ws cs ws'' cs'' end.rows rows_next clean_next f.clean.constants ahead_next' in
        let basis : st.basis ≡ end.basis = ap (λ (b : Bool). joined b (length st.rows) st.basis) (sym none) in
        written_is w end ws cs ps ws'' cs'' ps' rank (additions + k) true words constants (so.basis ∙ ap (λ (l : List ℕ). l ++ drop rank ps) basis)
        (so.rank_is ∙ ap length basis) (ap (λ (i : ℕ). i + k) so.additions_is) (sym refuted)
        ∙ ap (λ (s : State). written w s ws cs ps) (sym stays)

  -- every row is done
  pub upto_end : t * w ≤ length ws → t ≤ length cs
      → outcome (record { rank = rank; additions = additions; refuted = false }) ws' cs' ps' ≡ written w (after n w ws cs t) ws cs ps
  unfolding st
  upto_end room room' =
      let words = words_whole n w t ws cs ws' cs' st.rows so.rows so.directory.clean (omega (arith, so.words)) so.fits so.ahead in
      let constants = constants_whole n w t ws cs ws' cs' st.rows so.rows so.directory.clean (omega (arith, so.constants)) so.ahead' in
      written_is w st ws cs ps ws' cs' ps' rank additions false words constants so.basis so.rank_is so.additions_is (sym so.going)
