-- Where a row lies in flat words: inside them or not, and its words.
use Prim.Native.Nat.{ℕ, ◌+◌, ◌-◌, ◌*◌, ◌/◌, ◌≤◌, ◌<◌}
use mathlib.Core.Path.{◌≡◌, refl, sym, ◌∙◌}
use mathlib.Core.List.{List}
use mathlib.Core.Bool.{Bool, true, false}
use native.Mathlib.Nat.{le-div_iff_mul-le, div-lt_iff_lt-mul}
use native.Mathlib.Omega.{arith}
use borrow.Author.Tests.{le-leb, lt-leb, leb-true, leb-false}
use lib.ListN.{length, length-take, length-drop}
use lib.Dec.{leb}
use Rattle.rows.specs.Flat.{row}

-- r rows lie within n words, and so does row r
pub rows_within : (w r n : ℕ) → 0 < w → leb r (n / w) ≡ leb (r * w) n
rows_within w r n h = go (leb r (n / w)) refl
  where
    go : (t : Bool) → leb r (n / w) ≡ t → t ≡ leb (r * w) n
    go true e = sym (le-leb (r * w) n ((le-div_iff_mul-le h).0 (leb-true r (n / w) e)))
    go false e = sym (lt-leb (r * w) n ((div-lt_iff_lt-mul h).0 (leb-false r (n / w) e)))

-- so do f and c more, where c do
pub parts_within : (w f c n : ℕ) → 0 < w → c ≤ n / w → leb f (n / w - c) ≡ leb ((f + c) * w) n
parts_within w f c n h l = go (leb f (n / w - c)) refl ∙ rows_within w (f + c) n h
  where
    go : (t : Bool) → leb f (n / w - c) ≡ t → t ≡ leb (f + c) (n / w)
    go true e = sym (le-leb _ _ (let few = leb-true f (n / w - c) e in omega arith))
    go false e = sym (lt-leb _ _ (let more = leb-false f (n / w - c) e in omega arith))

-- ---- a row's words

pub row_length : (w : ℕ) (ws : List ℕ) (r : ℕ) → r * w + w ≤ length ws → length (row w ws r) ≡ w
row_length w ws r h = simp (length-take, length-drop) (omega arith)
