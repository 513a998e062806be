-- Held, cut and undecided atoms make up all of a region's atoms.
use Prim.Native.Nat.{ℕ, ◌+◌, ◌*◌, ◌^◌, ◌≤◌, ◌<◌}
use mathlib.Core.Path.{◌≡◌, refl, sym, ap, ◌∙◌}
use mathlib.Core.List.{List, [], ◌∷◌, map}
use mathlib.Core.Bool.{Bool, true, false}
use mathlib.Core.Option.{none, some}
use native.Mathlib.Nat.{zero-add, zero-mul, lt_of_lt_of_le, div-eq_of_lt}
use native.Mathlib.Omega.{arith}
use lib.ListN.{length, take, drop}
use lib.Bits.{and_self}
use lib.Count.{ones}
use lib.Pow.{pow_mono}
use Rattle.words.specs.Set.{set_of}
use Rattle.rows.specs.Row.{overlap}
use Rattle.rows.specs.Decisions.{Decisions, undecided}
use Rattle.rows.specs.Flat.{width_of, atoms_of}
use Rattle.rows.proofs.Digits.{atoms_overlap}
use Rattle.fit.proofs.Stray.{packed_shr}
use Rattle.echelon.proofs.Turns.{packed_parts}
use Rattle.region.specs.Masks.{decisions, is_held, is_cut}
use Rattle.region.specs.declared.Region.{Region}
use Rattle.region.proofs.Masked.{Fitting, decisions_length, map_held, map_cut}

tally : (p : Decisions) → undecided p + overlap (map is_held p) (map is_held p) + overlap (map is_cut p) (map is_cut p) ≡ length p
tally [] = refl
tally (none ∷ p) = omega (arith, tally p)
tally (some true ∷ p) = omega (arith, tally p)
tally (some false ∷ p) = omega (arith, tally p)

size_of : (n x : ℕ) (l : List Bool) → x < 2 ^ n → l ≡ atoms_of n x → overlap l l ≡ ones x
size_of n x l below e = ap (λ (m : List Bool). overlap m m) e ∙ atoms_overlap n x x below ∙ ap ones (and_self x)

-- a mask has no atom past the words that its atoms take
narrow : (n w : ℕ) (l : List ℕ) → w ≤ length l → n ≤ w * 64 → set_of l < 2 ^ n → set_of (take w l) ≡ set_of l
narrow n w l room wide below =
    let past : set_of (drop w l) ≡ 0 = sym (packed_shr 64 l w) ∙ div-eq_of_lt (lt_of_lt_of_le below (pow_mono wide)) in
    sym (packed_parts 64 l w room ∙ ap (λ (x : ℕ). x * 2 ^ (w * 64) + set_of (take w l)) past ∙ ap (λ (x : ℕ). x + set_of (take w l)) (zero-mul (2 ^ (w * 64))) ∙ zero-add _)

pub tallied : (r : Region) → Fitting r → length r.held ≡ 8 → length r.cut ≡ 8 → (w : ℕ) → w ≡ width_of r.atoms
    → undecided (decisions r) + ones (set_of (take w r.held)) + ones (set_of (take w r.cut)) ≡ r.atoms
tallied r f held cut w is =
    let p = decisions r in
    let n = r.atoms in
    let wide : n ≤ w * 64 = omega (arith, is) in
    omega (
      arith,
      tally p,
      ap ones (narrow n w r.held (omega (arith, is, held, f.few)) wide f.held_below),
      ap ones (narrow n w r.cut (omega (arith, is, cut, f.few)) wide f.cut_below),
      size_of n (set_of r.held) (map is_held p) f.held_below (map_held r),
      size_of n (set_of r.cut) (map is_cut p) f.cut_below (map_cut r f),
      decisions_length r,
    )
