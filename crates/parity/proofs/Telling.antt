-- A column of the index that preparation wrote: its words are those of the definition, and its bits tell which basis rows have the atom.
use Prim.Native.Nat.{ℕ, zero, suc, ◌*◌, ◌^◌, ◌≤◌, ◌<◌, min}
use mathlib.Core.Path.{◌≡◌, refl, sym, ap, ◌∙◌}
use mathlib.Core.List.{List, [], ◌++◌, append_assoc}
use mathlib.Core.Bool.{Bool, true, false, ◌&&◌, true≢false}
use native.Mathlib.Nat.{zero-mul, suc-mul, lt_of_lt_of_le}
use native.Mathlib.Omega.{arith}
use borrow.Author.Tests.{ltb-true, ltb-false, eqb-true, eqb-false, le-ltb, lt-leb}
use lib.Arith.{lt_of_le-ne}
use lib.ListN.{length, get_or, take, drop, length-append, length-map}
use lib.Seq.{length-take-le, take_at, drop_at, get_or-take}
use lib.Dec.{eqb, ltb}
use lib.Pow.{pow_mono}
use Rattle.std.proofs.lemmas.List.{get_or-map}
use Rattle.words.specs.Set.{set_of, has}
use Rattle.rows.specs.Row.{Row, has_atom}
use Rattle.rows.specs.Flat.{width_of, row_at, row, mask_of, unpack}
use Rattle.rows.specs.declared.Atom.{Atom}
use Rattle.rows.proofs.Rowwise.{has_above, mask_has}
use Rattle.rows.proofs.Digits.{mask_lt, packed_unpack}
use Rattle.index.specs.Index.{column_width, column_of, index_of}
use Rattle.index.specs.Column.{over_rank, column_check, wanted_column}
use Rattle.std.specs.Prelude.{Ok}
use Rattle.refusal.specs.Refusal.{left as left_of}
use Rattle.index.proofs.Overrank.{over_none}
use Rattle.echelon.proofs.Written.{unpack_length}
use Rattle.parity.specs.Basis.{basis_of}
use Rattle.parity.specs.Prepare.{followed}
use Rattle.parity.specs.Promises.{Tells, ColumnTells}
use Rattle.parity.proofs.Whole.{Room, room}
use Rattle.parity.proofs.Usable.{rank_few}
use Rattle.parity.proofs.Leaving.{st, left, of_both}

-- ---- the columns one after another

index_length : (w : ℕ) (rs : List Row) (n : ℕ) → length (index_of w rs n) ≡ n * w
unfolding index_of
index_length w rs zero = sym (zero-mul w)
index_length w rs (suc n) = simp length-append (omega (arith, index_length w rs n, unpack_length 64 w (mask_of (column_of rs n)), suc-mul n w))

index_row : (w : ℕ) (rs : List Row) (n a : ℕ) → a < n → (rest : List ℕ) → row w (index_of w rs n ++ rest) a ≡ unpack 64 w (mask_of (column_of rs a))
unfolding index_of
index_row w rs zero a h rest = let z : ⊥ = omega arith in absurd z
index_row w rs (suc n) a h rest =
    ap (λ (l : List ℕ). row w l a) (append_assoc (index_of w rs n) (unpack 64 w (mask_of (column_of rs n))) rest)
    ∙ go (eqb a n) refl (λ l. index_row w rs n a l (unpack 64 w (mask_of (column_of rs n)) ++ rest))
  where
    go : (b : Bool) → eqb a n ≡ b → (a < n → row w (index_of w rs n ++ (unpack 64 w (mask_of (column_of rs n)) ++ rest)) a ≡ unpack 64 w (mask_of (column_of rs a)))
        → row w (index_of w rs n ++ (unpack 64 w (mask_of (column_of rs n)) ++ rest)) a ≡ unpack 64 w (mask_of (column_of rs a))
    go true e older =
        let last = unpack 64 w (mask_of (column_of rs n)) in
        ap (λ (k : ℕ). row w (index_of w rs n ++ (last ++ rest)) k) (eqb-true a n e)
        ∙ ap (take w) (drop_at (index_of w rs n) (last ++ rest) (n * w) (index_length w rs n)) ∙ take_at last rest w (unpack_length 64 w (mask_of (column_of rs n)))
        ∙ ap (λ (k : ℕ). unpack 64 w (mask_of (column_of rs k))) (sym (eqb-true a n e))
    go false e older = older (lt_of_le-ne (omega arith) (eqb-false a n e))

-- ---- the bits of one column

module _ (n rank : ℕ) (rs : List Row) (ranked : length rs ≡ rank) (rest : List ℕ) where
  abbrev written : List ℕ
  written = index_of (column_width rank) rs n ++ rest

  pub column_set : (a : ℕ) → a < n → set_of (row (column_width rank) written a) ≡ mask_of (column_of rs a)
  column_set a h =
      let c = column_of rs a in
      let long : length c ≡ rank = length-map rs (λ (r : Row). has_atom r a) ∙ ranked in
      let fits : length c ≤ column_width rank * 64 = omega arith in
      ap set_of (index_row (column_width rank) rs n a h rest) ∙ packed_unpack 64 (column_width rank) (mask_of c) (lt_of_lt_of_le (mask_lt c) (pow_mono fits))

  column_below : (a : ℕ) → a < n → set_of (row (column_width rank) written a) < 2 ^ rank
  column_below a h =
      rw (column_set a h) (rw (length-map rs (λ (r : Row). has_atom r a) ∙ ranked) at (mask_lt (column_of rs a)))

  pub columns_long : n * column_width rank ≤ length written
  columns_long = simp length-append (omega (arith, index_length (column_width rank) rs n))

  pub columns_below : over_rank rank (column_width rank) written n ≡ false
  columns_below = over_none rank (column_width rank) written n column_below

  pub column_taken : n ≤ 512 → rank ≤ 512 → (a : Atom) → a.0 < n → column_check written n rank a ≡ Ok tt
  unfolding column_check
  column_taken atoms ranks a h =
      simp (le-ltb 512 n atoms, le-ltb 512 rank ranks, le-ltb _ _ columns_long, columns_below, lt-leb n a.0 h)

  module _ (atoms : n ≤ 512) (ranks : rank ≤ 512) (a : Atom) (h : a.0 < n) where
    column_is : wanted_column written n rank a ≡ row (column_width rank) written a.0
    unfolding wanted_column
    column_is = ap (λ check. left_of check (row (column_width rank) written a.0) []) (column_taken atoms ranks a h)

    pub column_length : length (wanted_column written n rank a) ≡ column_width rank
    column_length = ap length (column_is ∙ index_row (column_width rank) rs n a.0 h rest) ∙ unpack_length 64 (column_width rank) _

    pub column_bit : (j : ℕ) → has (set_of (wanted_column written n rank a)) j ≡ (ltb j rank && get_or (column_of rs a.0) j false)
    column_bit j = ap (λ (l : List ℕ). has (set_of l) j) column_is ∙ go (ltb j rank) refl
      where
        go : (b : Bool) → ltb j rank ≡ b → has (set_of (row (column_width rank) written a.0)) j ≡ (b && get_or (column_of rs a.0) j false)
        go true e = ap (λ (k : ℕ). has k j) (column_set a.0 h) ∙ mask_has (column_of rs a.0) j
        go false e = has_above rank _ j (column_below a.0 h) (ltb-false j rank e)

-- two tests that differ at most past the rank
below : {j : ℕ} {x y : Bool} (rank : ℕ) → (j < rank → x ≡ y) → (ltb j rank && x) ≡ (ltb j rank && y)
below {j} {x} {y} rank same = go (ltb j rank) refl
  where
    go : (b : Bool) → ltb j rank ≡ b → (b && x) ≡ (b && y)
    go true e = same (ltb-true j rank e)
    go false e = refl

-- ---- the promise

pub column_tells : ColumnTells
column_tells n m l a fit h = of_both n m l (Tells n a) tells
  where
    fits : Room n m l
    fits = room n m l fit

    tells : (b : Bool) → (st n m l).refuted ≡ b → Tells n a (followed b n m l (left n m l))
    tells true e = λ f. absurd (true≢false f)
    tells false e = λ f.
        let o = left n m l in
        let rank = o.result.rank in
        let few : rank ≤ min m n = rank_few n m l.rows l.constants in
        let named = take rank o.basis in
        let rs = basis_of n o.rows o.constants named in
        let long : rank ≤ length o.basis = simp length-append (omega arith) in
        let short : length named ≡ rank = length-take-le rank o.basis long in
        let ranked : length rs ≡ rank = length-map named (row_at n (width_of n) o.rows o.constants) ∙ short in
        let rest = drop (n * column_width rank) l.index in
        let ranks : rank ≤ 512 = omega (arith, fits.fit.atoms) in
        let row_here = row_at n (width_of n) o.rows o.constants in (
          column_taken n rank rs ranked rest fits.fit.atoms ranks a h,
          column_length n rank rs ranked rest fits.fit.atoms ranks a h,
          λ j. column_bit n rank rs ranked rest fits.fit.atoms ranks a h j ∙ below rank (λ lt.
              let within : j < length named = omega arith in
              get_or-map (λ (r : Row). has_atom r a.0) rs j (row_here 0) false (omega arith)
              ∙ ap (λ (r : Row). has_atom r a.0) (get_or-map row_here named j 0 (row_here 0) within)
              ∙ ap (λ (s : ℕ). has_atom (row_here s) a.0) (get_or-take rank o.basis j 0 lt)),
        )
