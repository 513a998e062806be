-- Whether parts have a bit from n on, and so whether lent rows stray, by the unions that the code asks.
use Prim.Native.Nat.{ℕ, zero, suc, ◌+◌, ◌-◌, ◌*◌, ◌/◌, ◌%◌, ◌^◌, ◌≤◌, ◌<◌}
use mathlib.Core.Path.{◌≡◌, refl, sym, ap, ap₂, ◌∙◌}
use mathlib.Core.List.{List}
use mathlib.Core.Bool.{Bool, true, false, ◌||◌, or-false}
use native.Mathlib.Numerals.{add-one}
use native.Mathlib.Omega.{arith}
use lib.ListN.{length, get_or}
use lib.Dec.{leb, ltb}
use lib.Bits.{bit_or}
use Rattle.std.proofs.lemmas.Bool.{or_right}
use Rattle.words.specs.Set.{set_of}
use Rattle.rows.specs.Flat.{width_of, row}
use Rattle.rows.specs.Calls.{union_of}
use Rattle.rows.proofs.Adding.{earlier}
use Rattle.fit.specs.Rows.{strays}
use Rattle.fit.proofs.Among.{among, among_same, among_either, any_among}
use Rattle.fit.proofs.Stray.{none_above, last_above}
use Rattle.fit.proofs.Unions.{above, above_union, past_one_or}
use Rattle.fit.proofs.Fitting.{row_strays, strays_start, strays_more}

abbrev pub parts_above : ℕ → ℕ → List ℕ → ℕ → Bool
parts_above n w ws = among (λ (r : ℕ). leb (2 ^ n) (set_of (row w ws r)))

abbrev pub constants_stray : List ℕ → ℕ → Bool
constants_stray cs = among (λ (r : ℕ). ltb 1 (get_or cs r 0))

-- the union of some constants with one more
pub constant_more : (cs : List ℕ) (union c j : ℕ) → ltb 1 union ≡ constants_stray cs j → c ≡ get_or cs j 0 → ltb 1 (bit_or union c) ≡ constants_stray cs (j + 1)
constant_more cs union c j before is =
    past_one_or union c ∙ ap₂ ◌||◌ before (ap (ltb 1) is) ∙ sym (ap (constants_stray cs) (add-one j))

-- the last words tell of parts whose last word is used up to u
pub parts_last : (n w i u : ℕ) (ws : List ℕ) (m : ℕ) → n ≡ i * 64 + u → w ≡ i + 1 → m * w ≤ length ws → ((j : ℕ) → get_or ws j 0 < 2 ^ 64)
    → above u (union_of w i ws m) ≡ parts_above n w ws m
parts_last n w i u ws m is wide room fits =
    above_union u w i ws m
    ∙ among_same _ _ m (λ r h. sym (last_above w ws r (omega (arith, earlier w m r h, room)) n i u is wide (fits (r * w + i))))

pub parts_full : (n w : ℕ) (ws : List ℕ) (m : ℕ) → n ≡ w * 64 → m * w ≤ length ws → parts_above n w ws m ≡ false
parts_full n w ws zero is room = refl
parts_full n w ws (suc m) is room =
    let more = earlier w (suc m) m (omega arith) in
    ap₂ ◌||◌ (parts_full n w ws m is (omega (arith, more, room))) (none_above w ws m (omega (arith, more, room)) n is)

-- the rows and the constants apart
strays_apart : (n w : ℕ) (ws cs : List ℕ) (m : ℕ) → strays n w ws cs m ≡ (parts_above n w ws m || constants_stray cs m)
strays_apart n w ws cs m =
    any_among (strays n w ws cs) (row_strays n w ws cs) (strays_start n w ws cs) (strays_more n w ws cs) m ∙ among_either _ _ m

-- what the union of the constants, and that of the last words, tell
module _ (n w : ℕ) (ws cs : List ℕ) (m : ℕ) (wide : w ≡ width_of n) (room : m * w ≤ length ws) where
  pub strays_constant : constants_stray cs m ≡ true → true ≡ strays n w ws cs m
  strays_constant some = sym (strays_apart n w ws cs m ∙ or_right _ _ some)

  pub strays_full : n % 64 ≡ 0 → constants_stray cs m ≡ false → false ≡ strays n w ws cs m
  strays_full full none = sym (strays_apart n w ws cs m ∙ ap₂ ◌||◌ (parts_full n w ws m (omega (arith, wide)) room) none)

  pub strays_last : (n % 64 ≡ 0 → ⊥) → constants_stray cs m ≡ false → ((j : ℕ) → get_or ws j 0 < 2 ^ 64)
      → above (n % 64) (union_of w (w - 1) ws m) ≡ strays n w ws cs m
  strays_last part none fits =
      let last : w - 1 ≡ n / 64 = omega (arith, wide) in
      ap (λ (i : ℕ). above (n % 64) (union_of w i ws m)) last
      ∙ parts_last n w (n / 64) (n % 64) ws m (omega arith) (omega (arith, wide)) room fits
      ∙ sym (strays_apart n w ws cs m ∙ ap (λ (t : Bool). parts_above n w ws m || t) none ∙ or-false _)
