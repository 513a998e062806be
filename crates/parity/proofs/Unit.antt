-- What `count` and `first` answer of a row, the atom and the value of a unit, and the units of one basis row more.
use Prim.Native.Nat.{ℕ, zero, suc, ◌+◌, ◌*◌, ◌/◌, ◌%◌, ◌^◌, ◌≤◌, ◌<◌}
use mathlib.Core.Path.{◌≡◌, refl, sym, ap, ◌∙◌}
use mathlib.Core.List.{List, [], ◌∷◌, ◌++◌}
use mathlib.Core.Bool.{Bool, true, false, cond}
use native.Mathlib.Nat.{pow-suc, mul_assoc, mod-lt, zero-lt-suc}
use native.Mathlib.Omega.{arith}
use borrow.Author.Tests.{lt-ltb, ne_eqb}
use lib.ListN.{length, get_or}
use lib.Bits.{and_self}
use lib.Count.{ones}
use lib.Dec.{eqb}
use Rattle.std.specs.Prelude.{Some, Ok, Err}
use Rattle.rows.proofs.Constants.{number_back}
use Rattle.words.specs.Set.{set_of, low}
use Rattle.words.specs.declared.Unfit.TheVariants.{TooWide}
use Rattle.words.specs.Calls.{count_of, first_of, narrow}
use Rattle.words.proofs.Lowest.{low_form, low_is}
use Rattle.rows.specs.Row.{Row}
use Rattle.rows.specs.Flat.{row, atoms_of, row_at}
use Rattle.rows.proofs.Digits.{atoms_overlap}
use Rattle.index.specs.Index.{size}
use Rattle.parity.specs.Basis.{units_of}
use Rattle.echelon.specs.Forward as forward

-- ---- what the calls answer

narrow_few : (w : ℕ) → w ≤ 8 → narrow w ≡ true
narrow_few w h = lt-ltb (w * 64) (2 ^ 64) (omega arith)

pub counted_few : (ws : List ℕ) → length ws ≤ 8 → count_of ws ≡ Ok (ones (set_of ws))
unfolding count_of
counted_few ws h = ap (λ (t : Bool). cond t (Ok (ones (set_of ws))) (Err TooWide)) (narrow_few (length ws) h)

-- a set of one atom is not empty
pub single_some : (x : ℕ) → ones x ≡ 1 → 0 < x
unfolding ones
single_some zero e = omega arith
single_some (suc x) e = omega arith

pub unit_first : (ws : List ℕ) → length ws ≤ 8 → ones (set_of ws) ≡ 1 → first_of ws ≡ Ok (Some (low (set_of ws)))
unfolding first_of
unit_first ws few one =
    let some : eqb (set_of ws) 0 ≡ false = ne_eqb (set_of ws) 0 (λ z. omega (arith, single_some (set_of ws) one)) in
    rw (narrow_few (length ws) few, some) refl

-- ---- the row's atoms as a list

pub size_row : (n w : ℕ) (ws cs : List ℕ) (s : ℕ) → set_of (row w ws s) < 2 ^ n → size (row_at n w ws cs s).atoms ≡ ones (set_of (row w ws s))
unfolding row_at
size_row n w ws cs s fit = let x = set_of (row w ws s) in atoms_overlap n x x fit ∙ ap ones (and_self x)

low_half : (x : ℕ) → 0 < x → x % 2 ≡ 0 → low x ≡ suc (low (x / 2))
low_half x h even =
    let half : 0 < x / 2 = omega arith in
    let f = low_form (x / 2) half in
    let t = low (x / 2) in
    let twice : x ≡ x / 2 * 2 = omega arith in
    low_is x (suc t) (record {
      half = f.half;
      is = twice ∙ ap (λ (n : ℕ). n * 2) f.is ∙ mul_assoc (f.half * 2 + 1) (2 ^ t) 2 ∙ ap (λ (n : ℕ). (f.half * 2 + 1) * n) (sym (pow-suc 2 t));
    })

low_odd : (x : ℕ) → x % 2 ≡ 1 → low x ≡ 0
low_odd x e = low_is x 0 (record { half = x / 2; is = omega arith })

pub low_atoms : (n x : ℕ) → 0 < x → x < 2 ^ n → forward.low (atoms_of n x) ≡ low x
unfolding atoms_of
low_atoms zero x h l = let z : ⊥ = omega arith in absurd z
low_atoms (suc n) x h l = go (x % 2) refl (mod-lt x (zero-lt-suc 1)) (low_atoms n (x / 2))
  where
    go : (d : ℕ) → x % 2 ≡ d → d < 2 → (0 < x / 2 → x / 2 < 2 ^ n → forward.low (atoms_of n (x / 2)) ≡ low (x / 2)) → forward.low (eqb d 1 ∷ atoms_of n (x / 2)) ≡ low x
    go zero e b ih = ap suc (ih (omega arith) (omega (arith, pow-suc 2 n))) ∙ sym (low_half x h e)
    go (suc zero) e b ih = sym (low_odd x e)
    go (suc (suc d)) e b ih = let z : ⊥ = omega arith in absurd z

pub low_row : (n w : ℕ) (ws cs : List ℕ) (s : ℕ) → ones (set_of (row w ws s)) ≡ 1 → set_of (row w ws s) < 2 ^ n
    → forward.low (row_at n w ws cs s).atoms ≡ low (set_of (row w ws s))
unfolding row_at
low_row n w ws cs s one fit = low_atoms n (set_of (row w ws s)) (single_some (set_of (row w ws s)) one) fit

pub value_row : (n w : ℕ) (ws cs : List ℕ) (s : ℕ) → get_or cs s 0 < 2 → cond (row_at n w ws cs s).constant 1 0 ≡ get_or cs s 0
unfolding row_at
value_row n w ws cs s h = number_back (get_or cs s 0) h

pub units_snoc : (rs : List Row) (r : Row) → units_of (rs ++ (r ∷ [])) ≡ units_of rs ++ cond (eqb (size r.atoms) 1) (r ∷ []) []
units_snoc [] r = refl
units_snoc (q ∷ rs) r = go (eqb (size q.atoms) 1) (units_snoc rs r)
  where
    go : (t : Bool) → units_of (rs ++ (r ∷ [])) ≡ units_of rs ++ cond (eqb (size r.atoms) 1) (r ∷ []) []
        → cond t (q ∷ units_of (rs ++ (r ∷ []))) (units_of (rs ++ (r ∷ []))) ≡ cond t (q ∷ units_of rs) (units_of rs) ++ cond (eqb (size r.atoms) 1) (r ∷ []) []
    go true e = ap (◌∷◌ q) e
    go false e = e
