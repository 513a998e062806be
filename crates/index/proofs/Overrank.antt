-- A column with a bit from the rank on: what its last two words tell, one column after another, and all by the unions of these words.
use Prim.Native.Nat.{ℕ, suc, ◌+◌, ◌-◌, ◌*◌, ◌/◌, ◌%◌, ◌^◌, ◌≤◌, ◌<◌}
use mathlib.Core.Path.{◌≡◌, refl, sym, ap, ap₂, ◌∙◌}
use mathlib.Core.List.{List}
use mathlib.Core.Bool.{Bool, true, false, not, ◌||◌}
use native.Mathlib.Nat.{div-one, le_trans}
use native.Mathlib.Omega.{arith}
use borrow.Author.Tests.{eq-eqb, ne_eqb, eqb-true, eqb-false, le-leb, lt-leb, leb-true}
use lib.ListN.{length, get_or, drop}
use lib.Dec.{leb, eqb}
use lib.Pow.{pow_mono}
use Rattle.words.specs.Set.{set_of}
use Rattle.rows.specs.Flat.{row}
use Rattle.rows.specs.Calls.{union_of}
use Rattle.rows.proofs.Adding.{earlier}
use Rattle.fit.proofs.Among.{among_same, among_either, any_none, any_among}
use Rattle.fit.proofs.Unions.{above, above_union}
use Rattle.fit.proofs.Stray.{above_from, row_from, row_past, last_above}
use Rattle.fit.proofs.Strays.{parts_above, parts_last, parts_full}
use Rattle.index.specs.Index.{column_width}
use Rattle.index.specs.Column.{over_rank}

any_above : (x : ℕ) → above 0 x ≡ not (eqb x 0)
any_above x = ap (λ (h : ℕ). not (eqb h 0)) (div-one x)

-- ---- a column whose last word but one is used up to u: it has a bit from there on where its last word has any, or that one has one

module _ (w : ℕ) (ws : List ℕ) (a : ℕ) (within : a * w + w ≤ length ws) (n i u : ℕ) (is : n ≡ i * 64 + u) (wide : w ≡ i + 2)
    (fits : (j : ℕ) → get_or ws j 0 < 2 ^ 64) where
  abbrev last : ℕ
  last = get_or ws (a * w + (i + 1)) 0

  abbrev before : ℕ
  before = get_or ws (a * w + i) 0

  high_above : u ≤ 64 → (last ≡ 0 → ⊥) → leb (2 ^ n) (set_of (row w ws a)) ≡ true
  high_above few some =
      let x = set_of (row w ws a) in
      let m = (i + 1) * 64 in
      let word = any_above last ∙ ap not (ne_eqb _ 0 some) in
      let above = last_above w ws a within m (i + 1) 0 (omega arith) (omega arith) (fits (a * w + (i + 1))) ∙ word in
      let le : n ≤ m = omega arith in
      le-leb (2 ^ n) x (le_trans (pow_mono le) (leb-true (2 ^ m) x above))

  low_above : last ≡ 0 → leb (2 ^ n) (set_of (row w ws a)) ≡ above u before
  low_above none =
      let past = row_past w ws a within (i + 1 + 1) (omega arith) in
      let high : set_of (drop (i + 1) (row w ws a)) ≡ 0 = omega (arith, row_from w ws a within (i + 1) (omega arith) (fits (a * w + (i + 1))), past) in
      let word : set_of (drop i (row w ws a)) ≡ before = omega (arith, row_from w ws a within i (omega arith) (fits (a * w + i)), high) in
      ap (λ (x : ℕ). leb (2 ^ x) (set_of (row w ws a))) is ∙ above_from 64 (row w ws a) i u ∙ ap (λ (x : ℕ). not (eqb (x / 2 ^ u) 0)) word

  both_above : u ≤ 64 → leb (2 ^ n) (set_of (row w ws a)) ≡ (above 0 last || above u before)
  both_above few = go (eqb last 0) refl
    where
      go : (t : Bool) → eqb last 0 ≡ t → leb (2 ^ n) (set_of (row w ws a)) ≡ (above 0 last || above u before)
      go true e = low_above (eqb-true last 0 e) ∙ ap (λ (t : Bool). t || above u before) (sym (any_above last ∙ ap not e))
      go false e = high_above few (eqb-false last 0 e) ∙ ap (λ (t : Bool). t || above u before) (sym (any_above last ∙ ap not e))

-- ---- one column after another

module _ (rank w : ℕ) (index : List ℕ) where
  abbrev over_at : ℕ → Bool
  over_at a = leb (2 ^ rank) (set_of (row w index a))

  over_start : over_rank rank w index 0 ≡ false
  unfolding over_rank
  over_start = refl

  over_more : (n : ℕ) → over_rank rank w index (suc n) ≡ (over_rank rank w index n || over_at n)
  unfolding over_rank
  over_more n = refl

  pub over_none : (n : ℕ) → ((a : ℕ) → a < n → set_of (row w index a) < 2 ^ rank) → over_rank rank w index n ≡ false
  over_none n each = any_none (over_rank rank w index) over_at over_start over_more n (λ a h. lt-leb (2 ^ rank) _ (each a h))

-- ---- what the unions of the last two words tell

module _ (rank w : ℕ) (index : List ℕ) (n : ℕ) (wide : w ≡ column_width rank) (room : n * w ≤ length index) where
  over_parts : over_rank rank w index n ≡ parts_above rank w index n
  over_parts = any_among (over_rank rank w index) (over_at rank w index) (over_start rank w index) (over_more rank w index) n

  pub over_full : rank % 128 ≡ 0 → false ≡ over_rank rank w index n
  over_full full = sym (over_parts ∙ parts_full rank w index n (omega (arith, wide)) room)

  module _ (fits : (j : ℕ) → get_or index j 0 < 2 ^ 64) where
    pub over_last : 64 ≤ rank % 128 → above (rank % 128 - 64) (union_of w (w - 1) index n) ≡ over_rank rank w index n
    over_last part =
        let i = rank / 128 * 2 + 1 in
        let last : w - 1 ≡ i = omega (arith, wide) in
        ap (λ (j : ℕ). above (rank % 128 - 64) (union_of w j index n)) last
        ∙ parts_last rank w i (rank % 128 - 64) index n (omega arith) (omega (arith, wide)) room fits ∙ sym over_parts

    module _ (some : rank % 128 ≡ 0 → ⊥) (part : rank % 128 < 64) where
      over_both : (above 0 (union_of w (w - 1) index n) || above (rank % 128) (union_of w (w - 2) index n)) ≡ over_rank rank w index n
      over_both =
          let i = rank / 128 * 2 in
          let u = rank % 128 in
          let last : w - 1 ≡ i + 1 = omega (arith, wide) in
          let before : w - 2 ≡ i = omega (arith, wide) in
          ap₂ ◌||◌
          (ap (λ (j : ℕ). above 0 (union_of w j index n)) last ∙ above_union 0 w (i + 1) index n)
          (ap (λ (j : ℕ). above u (union_of w j index n)) before ∙ above_union u w i index n)
          ∙ sym (among_either _ _ n)
          ∙ among_same _ _ n (λ a h.
          sym (both_above w index a (omega (arith, earlier w n a h, room)) rank i u (omega arith) (omega (arith, wide)) fits (omega arith)))
          ∙ sym over_parts

      pub over_high : (union_of w (w - 1) index n ≡ 0 → ⊥) → not (eqb (union_of w (w - 1) index n) 0) ≡ over_rank rank w index n
      over_high high =
          let last = union_of w (w - 1) index n in
          let true_is = ap not (ne_eqb last 0 high) in
          true_is ∙ sym (ap (λ (t : Bool). t || above (rank % 128) (union_of w (w - 2) index n)) (any_above last ∙ true_is)) ∙ over_both

      pub over_low : union_of w (w - 1) index n ≡ 0 → above (rank % 128) (union_of w (w - 2) index n) ≡ over_rank rank w index n
      over_low none =
          let last = union_of w (w - 1) index n in
          sym (ap (λ (t : Bool). t || above (rank % 128) (union_of w (w - 2) index n)) (any_above last ∙ ap not (eq-eqb last 0 none))) ∙ over_both
