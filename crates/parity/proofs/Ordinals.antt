-- Basis rows entered one after another: the turns of `enter_rows`.
use Prim.Native.Nat.{ℕ, ◌+◌, ◌*◌, ◌^◌, ◌≤◌, ◌<◌}
use mathlib.Core.Path.{◌≡◌, sym, ap, ap₂, ◌∙◌}
use mathlib.Core.List.{List, [], ◌∷◌, ◌++◌, map-append}
use mathlib.Core.Bool.{Bool}
use native.Mathlib.Numerals.{add-one}
use native.Mathlib.Omega.{arith}
use lib.ListN.{length, get_or, take, replicate, length-map, length-replicate}
use lib.Seq.{take-suc, take_all, length-take-le}
use lib.Count.{ones, ones-le}
use Rattle.words.specs.Set.{set_of}
use Rattle.words.proofs.Meaning.{ones_count}
use Rattle.rows.specs.Row.{Row, has_atom}
use Rattle.rows.specs.Flat.{width_of, row, row_at, mask_of}
use Rattle.rows.proofs.Adding.{earlier}
use Rattle.rows.proofs.Rowwise.{row_has, has_below}
use Rattle.index.specs.Index.{column_of, index_of, incidences_of}
use Rattle.parity.specs.Basis.{basis_of}
use Rattle.parity.specs.Named.{Named}
use Rattle.parity.specs.Entered.{Reaches, mark_if, Entered}
use Rattle.parity.proofs.Columns.{mask_snoc, incidences_none, incidences_snoc, column_none, columns_words}

-- one entry of the basis more
pub basis_next : (n : ℕ) (ws cs ps : List ℕ) (j : ℕ) → j < length ps
    → basis_of n ws cs (take (j + 1) ps) ≡ basis_of n ws cs (take j ps) ++ (row_at n (width_of n) ws cs (get_or ps j 0) ∷ [])
basis_next n ws cs ps j h =
    ap (λ (k : ℕ). basis_of n ws cs (take k ps)) (add-one j) ∙ ap (basis_of n ws cs) (take-suc ps j 0 h)
    ∙ map-append (row_at n (width_of n) ws cs) (take j ps) (get_or ps j 0 ∷ [])

-- after j turns: the columns have the bits of the first j basis rows, whatever the constants
pub record Upto (n stride : ℕ) (ws ps index : List ℕ) (total j : ℕ) : Type 0 where
  pub kept : length index ≡ n * stride
  pub fit : (i : ℕ) → get_or index i 0 < 2 ^ 64
  pub few : total ≤ j * 512
  pub columns : (cs : List ℕ) (a : ℕ) → a < n → set_of (row stride index a) ≡ mask_of (column_of (basis_of n ws cs (take j ps)) a)
  pub counted : (cs : List ℕ) → total ≡ incidences_of (basis_of n ws cs (take j ps)) n

pub upto_start : (n stride : ℕ) (ws ps index : List ℕ) → index ≡ replicate (n * stride) 0 → ((i : ℕ) → get_or index i 0 < 2 ^ 64) → Upto n stride ws ps index 0 0
unfolding mask_of
upto_start n stride ws ps index is fit = record {
  kept = ap length is ∙ length-replicate {A = ℕ} (n * stride) 0;
  fit = fit;
  few = omega arith;
  columns = λ cs a h. ap (λ (l : List ℕ). set_of (row stride l a)) is ∙ column_none (n * stride) stride a;
  counted = λ cs. sym (incidences_none n);
}

module _ {n rank stride : ℕ} {ws cs₀ ps index : List ℕ} {total j : ℕ} (named : Named n rank ws cs₀ ps) (h : j < rank) (so : Upto n stride ws ps index total j) where
  pub ordinal_reaches : Reaches stride (set_of (row (width_of n) ws (get_or ps j 0))) (length index)
  ordinal_reaches a e = rw so.kept (earlier stride n a (has_below n (set_of (row (width_of n) ws (get_or ps j 0))) a (named.legible j h).below e))

  pub ordinal_few : ones (set_of (row (width_of n) ws (get_or ps j 0))) ≤ 512
  ordinal_few = omega (arith, ones-le n (set_of (row (width_of n) ws (get_or ps j 0))) (named.legible j h).below, (named.legible j h).atoms)

  pub upto_next : {index' : List ℕ} {count : ℕ} → length index' ≡ length index → ((i : ℕ) → get_or index' i 0 < 2 ^ 64)
      → Entered stride (2 ^ j) (set_of (row (width_of n) ws (get_or ps j 0))) index index'
      → count ≡ ones (set_of (row (width_of n) ws (get_or ps j 0))) → Upto n stride ws ps index' (total + count) (j + 1)
  upto_next kept fit entered is =
      let x = set_of (row (width_of n) ws (get_or ps j 0)) in
      let there : j < length ps = omega (arith, named.entries) in
      let long : (cs : List ℕ) (a : ℕ) → length (column_of (basis_of n ws cs (take j ps)) a) ≡ j =
      λ cs a. length-map (basis_of n ws cs (take j ps)) (λ (r : Row). has_atom r a) ∙ length-map (take j ps) (row_at n (width_of n) ws cs) ∙ length-take-le j ps (omega arith) in
      record {
        kept = kept ∙ so.kept;
        fit = fit;
        few = omega (arith, so.few, ordinal_few);
        columns = λ cs a l.
            let rs = basis_of n ws cs (take j ps) in
            let r = row_at n (width_of n) ws cs (get_or ps j 0) in
            let room : a * stride + stride ≤ length index = omega (arith, so.kept, earlier stride n a l) in
            entered.columns a room ∙ ap₂ (λ (t : Bool) (c : ℕ). mark_if t (2 ^ j) c) (sym (row_has n (width_of n) ws cs (get_or ps j 0) a l)) (so.columns cs a l)
            ∙ ap (λ (k : ℕ). mark_if (has_atom r a) (2 ^ k) (mask_of (column_of rs a))) (sym (long cs a))
            ∙ sym (mask_snoc (column_of rs a) (has_atom r a))
            ∙ ap mask_of (sym (map-append (λ (s : Row). has_atom s a) rs (r ∷ [])))
            ∙ ap (λ (l : List Row). mask_of (column_of l a)) (sym (basis_next n ws cs ps j there));
        counted = λ cs.
            let rs = basis_of n ws cs (take j ps) in
            let r = row_at n (width_of n) ws cs (get_or ps j 0) in
            ap₂ ◌+◌ (so.counted cs) (is ∙ ones_count n x (named.legible j h).below)
            ∙ sym (incidences_snoc rs r x n (λ a l. row_has n (width_of n) ws cs (get_or ps j 0) a l))
            ∙ ap (λ (l : List Row). incidences_of l n) (sym (basis_next n ws cs ps j there));
      }

pub upto_words : {n stride : ℕ} {ws ps index : List ℕ} {total j : ℕ} → Upto n stride ws ps index total j
    → (cs : List ℕ) → index ≡ index_of stride (basis_of n ws cs (take j ps)) n
upto_words {n} {stride} {ws} {ps} {index} {total} {j} so cs =
    let whole : length index ≤ n * stride = omega (arith, so.kept) in
    let room : n * stride ≤ length index = omega (arith, so.kept) in
    sym (take_all (n * stride) index whole) ∙ columns_words stride (basis_of n ws cs (take j ps)) index so.fit n room (so.columns cs)
