-- The rows that `write` leaves are the equations over the atoms named.
use Prim.Native.Nat.{ℕ, zero, suc, ◌+◌, ◌*◌, ◌/◌, ◌^◌, ◌≤◌, ◌<◌}
use mathlib.Core.Path.{◌≡◌, refl, sym, ap, ap₂, ◌∙◌}
use mathlib.Core.List.{List, [], ◌∷◌, ◌++◌, append_assoc}
use mathlib.Core.Bool.{Bool, true, false, cond, ◌&&◌, ◌||◌, or_assoc, or-false}
use native.Mathlib.Nat.{suc-mul, zero-mul, add-mul, div-lt_iff_lt-mul, zero-lt-suc}
use native.Mathlib.Omega.{arith}
use borrow.Author.Tests.{eqb-true, eqb-false}
use lib.ListN.{length, get_or, take, drop, set, replicate, length-replicate}
use lib.Seq.{length-take-le, ext_get_or, take_at, drop_at, drop-drop, get_or-append-add, get_or-set_same, get_or-set_other}
use lib.Dec.{eqb}
use Rattle.rows.proofs.Constants.{bool_back}
use Rattle.words.specs.Set.{packed, set_of, has, odd}
use Rattle.words.specs.Calls.{inserted}
use Rattle.words.proofs.Meaning.{insert_adds, has_none}
use Rattle.rows.specs.Flat.{row, row_at, atoms_of}
use Rattle.rows.proofs.Digits.{atoms_has, atoms_length}
use Rattle.embed.specs.Embed.{Rising, spread}
use Rattle.hull.specs.Propose.{blank}
use Rattle.hull.proofs.Only.{get_d_zeros}
use Rattle.embed.specs.Written.{marked, row_words, one_if, constants_of, written_words, written_constants}
use Rattle.hull.specs.declared.LocalEquation.{LocalEquation}
use Rattle.embed.specs.Promises.{WriteEmbeds}
use Rattle.embed.proofs.Embedded.{spread_length}
use Rattle.embed.proofs.Writing.{inserted_length, marked_length}

-- ---- which atoms are set

-- whether a set bit of the coefficients names atom a
abbrev named_by : List ℕ → ℕ → ℕ → Bool
named_by [] c a = false
named_by (b ∷ names) c a = (odd c && eqb a b) || named_by names (c / 2) a

abbrev Below : ℕ → List ℕ → Type 0
Below n [] = Unit {0}
Below n (b ∷ names) = (b < n) × Below n names

below_rising : (from n : ℕ) (names : List ℕ) → Rising from n names → Below n names
below_rising from n [] r = tt
below_rising from n (b ∷ names) r = (r.1, below_rising (suc b) n names r.2)

has_marked : (w : ℕ) (names : List ℕ) (c : ℕ) (ws : List ℕ) (a : ℕ) → length ws ≡ w → Below (w * 64) names
    → has (set_of (marked names c ws)) a ≡ (has (set_of ws) a || named_by names c a)
unfolding marked
has_marked w [] c ws a e h = sym (or-false _)
has_marked w (b ∷ names) c ws a e h =
    has_marked w names (c / 2) (cond (odd c) (inserted ws b) ws) a (either_length (odd c)) h.1
    ∙ ap (λ (t : Bool). t || named_by names (c / 2) a) (either (odd c)) ∙ or_assoc (has (set_of ws) a) (odd c && eqb a b) (named_by names (c / 2) a)
  where
    room : b / 64 < length ws
    room = omega (arith, (div-lt_iff_lt-mul (zero-lt-suc 63)).1 h.0)

    either : (t : Bool) → has (set_of (cond t (inserted ws b) ws)) a ≡ (has (set_of ws) a || (t && eqb a b))
    either true = (insert_adds ws b).0 room a
    either false = sym (or-false (has (set_of ws) a))

    either_length : (t : Bool) → length (cond t (inserted ws b) ws) ≡ w
    either_length true = inserted_length ws b ∙ e
    either_length false = e

get_d_spread : (n : ℕ) (names : List ℕ) (c a : ℕ) → a < n → Below n names
    → get_or (spread n names (atoms_of (length names) c)) a false ≡ named_by names c a
unfolding atoms_of
get_d_spread n [] c a l h = get_d_zeros n a
get_d_spread n (b ∷ names) c a l h = either (odd c) (get_d_spread n names (c / 2) a l h.1)
  where
    rest : List Bool
    rest = spread n names (atoms_of (length names) (c / 2))

    marks : (t : Bool) → eqb a b ≡ t → get_or rest a false ≡ named_by names (c / 2) a → get_or (set rest b true) a false ≡ (t || named_by names (c / 2) a)
    marks true e ih =
        ap (λ (k : ℕ). get_or (set rest b true) k false) (eqb-true a b e)
        ∙ get_or-set_same rest b true false (omega (arith, spread_length n names (atoms_of (length names) (c / 2)), h.0))
    marks false e ih = get_or-set_other rest b a true false (eqb-false a b e) ∙ ih

    either : (t : Bool) → get_or rest a false ≡ named_by names (c / 2) a
        → get_or (spread n (b ∷ names) (t ∷ atoms_of (length names) (c / 2))) a false ≡ ((t && eqb a b) || named_by names (c / 2) a)
    either true ih = marks (eqb a b) refl ih
    either false ih = ih

pub packed_zeros : (k : ℕ) → packed 64 (replicate k 0) ≡ 0
unfolding packed
packed_zeros zero = refl
packed_zeros (suc k) = ap (λ (x : ℕ). x * 2 ^ 64 + 0) (packed_zeros k)

pub atoms_marked : (n w : ℕ) (names : List ℕ) (c : ℕ) → n ≤ w * 64 → Rising 0 n names
    → atoms_of n (set_of (marked names c (replicate w 0))) ≡ spread n names (atoms_of (length names) c)
atoms_marked n w names c wide r =
    let x = set_of (marked names c (replicate w 0)) in
    let size : length (atoms_of n x) ≡ length (spread n names (atoms_of (length names) c)) = atoms_length n x ∙ sym (spread_length n names (atoms_of (length names) c)) in
    ext_get_or false (atoms_of n x) (spread n names (atoms_of (length names) c)) size
    (λ a l.
    let lt : a < n = omega (arith, atoms_length n x) in
    atoms_has n x a lt ∙ has_marked w names c (replicate w 0) a (length-replicate {A = ℕ} w 0) (below_more n (w * 64) names wide (below_rising 0 n names r))
    ∙ ap (λ (y : ℕ). has y a || named_by names c a) (packed_zeros w) ∙ ap (λ (t : Bool). t || named_by names c a) (has_none a)
    ∙ sym (get_d_spread n names c a lt (below_rising 0 n names r)))
  where
    below_more : (i j : ℕ) (l : List ℕ) → i ≤ j → Below i l → Below j l
    below_more i j [] h b = tt
    below_more i j (d ∷ l) h b = (omega (arith, b.0), below_more i j l h b.1)

-- ---- where the rows and constants stand

row_words_at : (w : ℕ) (names : List ℕ) (es : List LocalEquation) (rest : List ℕ) (m : ℕ) → m < length es
    → take w (drop (m * w) (row_words w names es ++ rest)) ≡ marked names (get_or es m blank).coefficients (replicate w 0)
unfolding row_words
row_words_at w names [] rest m h = let z : ⊥ = omega arith in absurd z
row_words_at w names (e ∷ es) rest zero h =
    let one = marked names e.coefficients (replicate w 0) in
    let wide : length one ≡ w = marked_length names e.coefficients (replicate w 0) ∙ length-replicate {A = ℕ} w 0 in
    ap₂ (λ (n : ℕ) (l : List ℕ). take w (drop n l)) (zero-mul w) (append_assoc one (row_words w names es) rest) ∙ take_at one (row_words w names es ++ rest) w wide
row_words_at w names (e ∷ es) rest (suc m) h =
    let one = marked names e.coefficients (replicate w 0) in
    let wide : length one ≡ w = marked_length names e.coefficients (replicate w 0) ∙ length-replicate {A = ℕ} w 0 in
    let n : suc m * w ≡ w + m * w = omega (arith, suc-mul m w) in
    ap₂ (λ (n : ℕ) (l : List ℕ). take w (drop n l)) n (append_assoc one (row_words w names es) rest)
    ∙ ap (take w) (sym (drop-drop (m * w) w (one ++ (row_words w names es ++ rest))) ∙ ap (drop (m * w)) (drop_at one (row_words w names es ++ rest) w wide))
    ∙ row_words_at w names es rest m (omega arith)

constants_at : (es : List LocalEquation) (rest : List ℕ) (m : ℕ) → m < length es → get_or (constants_of es ++ rest) m 0 ≡ one_if (get_or es m blank).constant
constants_at [] rest m h = let z : ⊥ = omega arith in absurd z
constants_at (e ∷ es) rest zero h = refl
constants_at (e ∷ es) rest (suc m) h = constants_at es rest m (omega arith)

pub write_embeds : WriteEmbeds
unfolding row_at written_words written_constants
write_embeds n w ws cs names es first m words constants wide rising h =
    let f = first.0 in
    let e = get_or es m blank in
    let x = take (f * w) ws in
    let y = row_words w names es ++ drop (f * w + length es * w) ws in
    let front : length x ≡ f * w = length-take-le (f * w) ws (omega (arith, add-mul f (length es) w)) in
    let front' : length (take f cs) ≡ f = length-take-le f cs (omega arith) in
    let place : (f + m) * w ≡ f * w + m * w = add-mul f m w in
    let is : row w (x ++ y) (f + m) ≡ marked names e.coefficients (replicate w 0) =
    ap (λ (k : ℕ). take w (drop k (x ++ y))) place ∙ ap (take w) (sym (drop-drop (m * w) (f * w) (x ++ y)) ∙ ap (drop (m * w)) (drop_at x y (f * w) front))
    ∙ row_words_at w names es (drop (f * w + length es * w) ws) m h in
    let constant : get_or (take f cs ++ (constants_of es ++ drop (f + length es) cs)) (f + m) 0 ≡ one_if e.constant =
    ap (λ (k : ℕ). get_or (take f cs ++ (constants_of es ++ drop (f + length es) cs)) (k + m) 0) (sym front')
    ∙ get_or-append-add (take f cs) (constants_of es ++ drop (f + length es) cs) m 0 ∙ constants_at es (drop (f + length es) cs) m h in
    ap₂ (λ (l : List Bool) (b : Bool). record { atoms = l; constant = b })
    (ap (λ (l : List ℕ). atoms_of n (set_of l)) is ∙ atoms_marked n w names e.coefficients wide rising)
    (ap (λ (k : ℕ). eqb k 1) constant ∙ bool_back e.constant)
