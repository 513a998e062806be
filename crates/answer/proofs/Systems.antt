-- The numbers of the system line: at most 512 atoms, rows, rank and units, and at most 512 times 512 additions and incidences.
use Prim.Native.Nat.{ℕ, zero, suc, ◌+◌, ◌*◌, ◌≤◌}
use mathlib.Core.List.{List, [], ◌∷◌}
use mathlib.Core.Bool.{Bool, true, false, ◌&&◌}
use mathlib.Core.Option.{Option, none, some}
use native.Mathlib.Nat.{mul-le-mul, suc-mul}
use native.Mathlib.Omega.{arith}
use lib.ListN.{length, take, length-append, length-map, length-take}
use lib.Dec.{eqb}
use Rattle.rows.specs.Row.{Row, add, overlap, has_atom}
use Rattle.rows.specs.Flat.{width_of, row_at}
use Rattle.echelon.specs.Forward.{find, forward, reduced, State, empty, joined, eliminated}
use Rattle.echelon.specs.Eliminate.{rows_to, written}
use Rattle.echelon.proofs.Upto.{rows_length}
use Rattle.index.specs.Index.{column_of, size, incidences_of}
use Rattle.parity.specs.Basis.{basis_of, units_of}
use Rattle.parity.specs.Prepare.{Lent, followed, prepared}
use Rattle.parity.specs.declared.Prepared.{Prepared}
use Rattle.answer.proofs.Choices.{chosen}

forward_few : (n : ℕ) (bs : List Row) (found : Option Row) (r : Row) (k : ℕ) → (forward n bs found r k).1 ≤ k + n
unfolding forward
forward_few zero bs found r k = omega arith
forward_few (suc n) bs none r k = omega arith
forward_few (suc n) bs (some b) r k = omega (arith, forward_few n bs (find (add r b) bs) (add r b) (suc k))

record Few (n m : ℕ) (st : State) : Type 0 where
  rank : length st.basis ≤ m
  additions : st.additions ≤ m * n

eliminated_few : (n : ℕ) (rs : List Row) → Few n (length rs) (eliminated n rs)
unfolding eliminated
eliminated_few n [] = record { rank = omega arith; additions = omega arith }
eliminated_few n (r ∷ rs) =
    let st = eliminated n rs in
    let ih = eliminated_few n rs in
    let left = reduced n st.rows r in
    let more = suc-mul (length rs) n in
    let basis : length (joined (empty left.0.atoms) (length st.rows) st.basis) ≤ suc (length rs) =
    chosen (λ (b : List ℕ). length b ≤ suc (length rs)) (empty left.0.atoms) (omega (arith, ih.rank))
    (omega (arith, ih.rank, length-append st.basis (length st.rows ∷ []))) in
    chosen (Few n (suc (length rs))) st.refuted
    (record { rank = omega (arith, ih.rank); additions = omega (arith, ih.additions, more) })
    (record { rank = basis; additions = omega (arith, ih.additions, more, forward_few n st.rows (find r st.rows) r 0) })

overlap_few : (r x : List Bool) → overlap r x ≤ length r
overlap_few [] x = omega arith
overlap_few (b ∷ r) [] = omega arith
overlap_few (b ∷ r) (v ∷ x) =
    let ih = overlap_few r x in
    chosen (λ (k : ℕ). k ≤ suc (length r)) (b && v) (omega (arith, ih)) (omega (arith, ih))

incidences_few : (rs : List Row) (n : ℕ) → incidences_of rs n ≤ n * length rs
unfolding incidences_of
incidences_few rs zero = omega arith
incidences_few rs (suc n) =
    let column = column_of rs n in
    omega (arith, incidences_few rs n, overlap_few column column, length-map rs (λ (r : Row). has_atom r n), suc-mul n (length rs))

units_few : (rs : List Row) → length (units_of rs) ≤ length rs
units_few [] = omega arith
units_few (r ∷ rs) =
    let ih = units_few rs in
    chosen (λ (us : List Row). length us ≤ suc (length rs)) (eqb (size r.atoms) 1) (omega (arith, ih)) (omega (arith, ih))

pub record Bounded (p : Prepared) : Type 0 where
  pub atoms : p.system.atoms ≤ 512
  pub rows : p.system.rows ≤ 512
  pub rank : p.system.rank ≤ 512
  pub additions : p.additions ≤ 262144
  pub units : p.units ≤ 512
  pub incidences : p.incidences ≤ 262144

module _ (n m : ℕ) (l : Lent) where
  state : State
  state = eliminated n (rows_to n (width_of n) l.rows l.constants m)

  followed_few : (t : Bool) → n ≤ 512 → m ≤ 512 → Bounded (followed t n m l (written (width_of n) state l.rows l.constants l.basis)).0
  unfolding state
  followed_few t few many =
      let long = rows_length n (width_of n) l.rows l.constants m in
      let counts = eliminated_few n (rows_to n (width_of n) l.rows l.constants m) in
      let rank : length state.basis ≤ 512 = omega (arith, counts.rank, long) in
      let short : length (rows_to n (width_of n) l.rows l.constants m) ≤ 512 = omega (arith, long) in
      let product : length (rows_to n (width_of n) l.rows l.constants m) * n ≤ 512 * 512 = mul-le-mul short few in
      let additions : state.additions ≤ 262144 = omega (arith, counts.additions, product) in
      by t rank additions
    where
      by : (t : Bool) → length state.basis ≤ 512 → state.additions ≤ 262144
          → Bounded (followed t n m l (written (width_of n) state l.rows l.constants l.basis)).0
      by true rank additions =
          record { atoms = few; rows = many; rank = rank; additions = additions; units = omega arith; incidences = omega arith }
      by false rank additions =
          let o = written (width_of n) state l.rows l.constants l.basis in
          let named = take (length state.basis) o.basis in
          let rs = basis_of n o.rows o.constants named in
          let size : length rs ≤ 512 = omega (arith, rank, length-map named (row_at n (width_of n) o.rows o.constants), length-take (length state.basis) o.basis) in
          let product : n * length rs ≤ 512 * 512 = mul-le-mul few size in
          record {
            atoms = few;
            rows = many;
            rank = rank;
            additions = additions;
            units = omega (arith, units_few rs, size);
            incidences = omega (arith, incidences_few rs n, product);
          }

  pub prepared_bounded : n ≤ 512 → m ≤ 512 → Bounded (prepared n m l).0
  unfolding prepared state
  prepared_bounded = followed_few state.refuted
