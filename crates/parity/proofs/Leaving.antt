-- What `prepare` leaves where it does not refuse, as the state of elimination: its basis rows are those of `eliminated`.
use Prim.Native.Nat.{ℕ, suc, ◌*◌, ◌≤◌, ◌<◌}
use mathlib.Core.Path.{◌≡◌, refl, sym, ap, ap₂, ◌∙◌, subst}
use mathlib.Core.List.{List, [], ◌∷◌, map}
use mathlib.Core.Bool.{Bool, true, false, true≢false, false≢true}
use native.Mathlib.Omega.{arith}
use lib.ListN.{length, get_or, take, drop, get_or-append}
use lib.Seq.{take-append_seam}
use Rattle.rows.specs.Row.{Row, Assignment, meets_all}
use Rattle.rows.specs.Flat.{width_of, row_at}
use Rattle.echelon.specs.declared.Eliminated.{Eliminated}
use Rattle.echelon.specs.Forward.{State, eliminated}
use Rattle.echelon.specs.Eliminate.{Outcome, written}
use Rattle.echelon.specs.Promises.{Sized, Lowest, numbered, basis_rows}
use Rattle.echelon.proofs.Left.{left_sized, rows_le, rows_all}
use Rattle.echelon.proofs.Basis.{basis_below, pivots_differ}
use Rattle.echelon.proofs.Solutions.{solutions_kept, sound_counts}
use Rattle.echelon.proofs.Sums.{left_are_sums}
use Rattle.echelon.proofs.Written.{numbered_at}
use Rattle.echelon.proofs.Upto.{rows_sized, rows_length}
use Rattle.parity.specs.Basis.{basis_of}
use Rattle.parity.specs.Prepare.{Lent, followed, prepared}
use Rattle.parity.specs.declared.Prepared.{Prepared}
use Rattle.parity.specs.Promises.{handed_in, Keeps, Counts, Pivots, Sums, PrepareKeeps, PrepareCounts, PreparePivots, PrepareSums}
use Rattle.parity.proofs.Usable.{rank_few}

map_same : {B : Type 0} (f g : ℕ → B) (ss : List ℕ) → ((i : ℕ) → i < length ss → f (get_or ss i 0) ≡ g (get_or ss i 0)) → map f ss ≡ map g ss
map_same f g [] h = refl
map_same f g (s ∷ ss) h = ap₂ ◌∷◌ (h 0 (omega arith)) (map_same f g ss (λ i l. h (suc i) (omega arith)))

module _ (n m : ℕ) (l : Lent) where
  abbrev pub st : State
  st = eliminated n (handed_in n m l)

  abbrev pub left : Outcome Eliminated
  left = written (width_of n) st l.rows l.constants l.basis

  sized : Sized n (handed_in n m l)
  sized = rows_sized n (width_of n) l.rows l.constants m

  -- ---- the rows left, by their numbers and by the basis

  wide : n ≤ width_of n * 64
  wide = omega arith

  pub row_is : (s : ℕ) → s < length st.rows → row_at n (width_of n) left.rows left.constants s ≡ numbered st.rows s
  row_is s h =
      numbered_at n (width_of n) st.rows (left_sized n (handed_in n m l) sized) wide (drop (length st.rows * width_of n) l.rows) (drop (length st.rows) l.constants) s h

  pub entry_is : (i : ℕ) → i < length st.basis → get_or left.basis i 0 ≡ get_or st.basis i 0
  entry_is i h = get_or-append st.basis (drop (length st.basis) l.basis) 0 i h

  pub basis_row : (i : ℕ) → i < length st.basis
      → row_at n (width_of n) left.rows left.constants (get_or left.basis i 0) ≡ numbered st.rows (get_or st.basis i 0)
  basis_row i h =
      ap (row_at n (width_of n) left.rows left.constants) (entry_is i h) ∙ row_is (get_or st.basis i 0) (basis_below n (handed_in n m l) i h)

  pub basis_is : basis_of n left.rows left.constants (take (length st.basis) left.basis) ≡ basis_rows st
  basis_is =
      ap (basis_of n left.rows left.constants) (take-append_seam st.basis (drop (length st.basis) l.basis))
      ∙ map_same (row_at n (width_of n) left.rows left.constants) (numbered st.rows) st.basis
      (λ i h. row_is (get_or st.basis i 0) (basis_below n (handed_in n m l) i h))

  -- a fact of what was prepared, from the two ways it can end
  pub of_both : (T : Prepared × Lent → Type 0) → ((b : Bool) → st.refuted ≡ b → T (followed b n m l left)) → T (prepared n m l)
  unfolding prepared
  of_both T both = both st.refuted refl

-- ---- the promises

module _ (n m : ℕ) (l : Lent) where
  keeps : (x : Assignment) (b : Bool) → (st n m l).refuted ≡ b → Keeps n (handed_in n m l) x (followed b n m l (left n m l))
  keeps x true e = ((λ f. absurd (true≢false f)), (λ t. (solutions_kept n (handed_in n m l) x).1 e))
  keeps x false e = (
    (λ f. ap (λ (rs : List Row). meets_all rs x) (basis_is n m l) ∙ (solutions_kept n (handed_in n m l) x).0 e),
    (λ t. absurd (false≢true t)),
  )

  counts : (b : Bool) → (st n m l).refuted ≡ b → Counts n m (handed_in n m l) (followed b n m l (left n m l))
  counts true e = (rank_few n m l.rows l.constants, λ f. absurd (true≢false f))
  counts false e = (rank_few n m l.rows l.constants, λ f. (sound_counts n (handed_in n m l) (sized n m l)).1 e)

  -- the same of both ends
  pivots_here : (lists : Prepared × Lent) → lists.0.system.rank ≡ length (st n m l).basis → lists.1.rows ≡ (left n m l).rows
      → lists.1.constants ≡ (left n m l).constants → lists.1.basis ≡ (left n m l).basis → Pivots n m lists
  pivots_here lists rank rows constants basis =
      let differ = pivots_differ n (handed_in n m l) (sized n m l) in
      let few = rows_le n (handed_in n m l) in
      rw (rank, rows, constants, basis) (
        (λ i h.
            let one = differ.0 i h in (
              omega (arith, entry_is n m l i h, one.0, rows_length n (width_of n) l.rows l.constants m),
              one.1,
              subst (λ (r : Row). Lowest r one.1) (sym (basis_row n m l i h)) one.2,
            )),
        (λ i j a lt h low low'.
            differ.1 i j a lt h (subst (λ (r : Row). Lowest r a) (basis_row n m l i (omega arith)) low)
            (subst (λ (r : Row). Lowest r a) (basis_row n m l j h) low')),
      )

  pivots : (b : Bool) → (st n m l).refuted ≡ b → Pivots n m (followed b n m l (left n m l))
  pivots true e = pivots_here (followed true n m l (left n m l)) refl refl refl refl
  pivots false e = pivots_here (followed false n m l (left n m l)) refl refl refl refl

  sums : (b : Bool) → (st n m l).refuted ≡ b → Sums n m (handed_in n m l) (followed b n m l (left n m l))
  sums true e = λ f. absurd (true≢false f)
  sums false e = λ f s h.
      let all : s < length (st n m l).rows = omega (arith, rows_all n (handed_in n m l) e, rows_length n (width_of n) l.rows l.constants m) in
      let sum = left_are_sums n (handed_in n m l) (sized n m l) s all in
      (sum.0, row_is n m l s all ∙ sum.1)

pub prepare_keeps : PrepareKeeps
prepare_keeps n m l x fit = of_both n m l (Keeps n (handed_in n m l) x) (keeps n m l x)

pub prepare_counts : PrepareCounts
prepare_counts n m l fit = of_both n m l (Counts n m (handed_in n m l)) (counts n m l)

pub prepare_pivots : PreparePivots
prepare_pivots n m l fit = of_both n m l (Pivots n m) (pivots n m l)

pub prepare_sums : PrepareSums
prepare_sums n m l fit = of_both n m l (Sums n m (handed_in n m l)) (sums n m l)
