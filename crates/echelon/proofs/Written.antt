-- Rows written as words and constants, and read back: `words_of` and `constants_of` against `rows_to`.
use Prim.Native.Nat.{ℕ, zero, suc, ◌+◌, ◌*◌, ◌/◌, ◌^◌, ◌≤◌, ◌<◌}
use mathlib.Core.Path.{◌≡◌, refl, sym, ap, ap₂, subst, ◌∙◌}
use mathlib.Core.List.{List, [], ◌∷◌, ◌++◌, append_assoc}
use mathlib.Core.Bool.{Bool, true, false, cond}
use native.Mathlib.Nat.{zero-mul, suc-mul, lt_of_lt_of_le, mod-eq_of_lt}
use native.Mathlib.Omega.{arith}
use lib.ListN.{length, get_or, take, drop, length-append}
use lib.Seq.{take_at, drop_at, get_or_at, take-add, take-suc, get_or-drop}
use lib.Dec.{eqb}
use lib.Pow.{pow_mono, pow_pos}
use Rattle.rows.proofs.Constants.{bool_back}
use Rattle.words.specs.Set.{packed, set_of}
use Rattle.words.proofs.Bitwise.{one}
use Rattle.rows.specs.Row.{Row}
use Rattle.rows.specs.Flat.{row, row_at, atoms_of, mask_of, unpack}
use Rattle.rows.proofs.Places.{row_length}
use Rattle.rows.proofs.Digits.{mask_lt, packed_unpack, atoms_fix_words, words_hold_atoms}
use Rattle.echelon.specs.Eliminate.{rows_to, words_of, constants_of}
use Rattle.echelon.specs.Promises.{Sized, numbered}
use Rattle.echelon.proofs.Reducing.{Long, each_long}
use Rattle.echelon.proofs.Numbered.{numbered_each, each_numbered}

pub unpack_length : (k w x : ℕ) → length (unpack k w x) ≡ w
unfolding unpack
unpack_length k zero x = refl
unpack_length k (suc w) x = ap suc (unpack_length k w (x / 2 ^ k))

pub words_length : (w : ℕ) (rs : List Row) → length (words_of w rs) ≡ length rs * w
unfolding words_of
words_length w [] = omega arith
words_length w (r ∷ rs) =
    let own = unpack 64 w (mask_of r.atoms) in
    omega (arith, length-append (words_of w rs) own, unpack_length 64 w (mask_of r.atoms), words_length w rs, suc-mul (length rs) w)

pub constants_length : (rs : List Row) → length (constants_of rs) ≡ length rs
unfolding constants_of
constants_length [] = refl
constants_length (r ∷ rs) = omega (arith, length-append (constants_of rs) (cond r.constant 1 0 ∷ []), constants_length rs)

-- ---- the words and the constant of row s

row_written : (w : ℕ) (rs : List Row) (x : List ℕ) (s : ℕ) → s < length rs → row w (words_of w rs ++ x) s ≡ unpack 64 w (mask_of (numbered rs s).atoms)
unfolding words_of
row_written w [] x s h = let z : ⊥ = omega arith in absurd z
row_written w (r ∷ rs) x s h =
    let own = unpack 64 w (mask_of r.atoms) in
    ap (λ (l : List ℕ). row w l s) (append_assoc (words_of w rs) own x)
    ∙ numbered_each (λ t q. row w (words_of w rs ++ (own ++ x)) t ≡ unpack 64 w (mask_of q.atoms)) r rs
    (ap (take w) (drop_at (words_of w rs) (own ++ x) (length rs * w) (words_length w rs)) ∙ take_at own x w (unpack_length 64 w (mask_of r.atoms)))
    (row_written w rs (own ++ x))
    s
    h

constant_written : (rs : List Row) (y : List ℕ) (s : ℕ) → s < length rs → get_or (constants_of rs ++ y) s 0 ≡ cond (numbered rs s).constant 1 0
unfolding constants_of
constant_written [] y s h = let z : ⊥ = omega arith in absurd z
constant_written (r ∷ rs) y s h =
    let own : ℕ = cond r.constant 1 0 in
    ap (λ (l : List ℕ). get_or l s 0) (append_assoc (constants_of rs) (own ∷ []) y)
    ∙ numbered_each (λ t q. get_or (constants_of rs ++ (own ∷ y)) t 0 ≡ cond q.constant 1 0) r rs
    (get_or_at (constants_of rs) own y 0 (length rs) (constants_length rs)) (constant_written rs (own ∷ y)) s h

pub numbered_at : (n w : ℕ) (rs : List Row) → Sized n rs → n ≤ w * 64 → (x y : List ℕ) (s : ℕ) → s < length rs
    → row_at n w (words_of w rs ++ x) (constants_of rs ++ y) s ≡ numbered rs s
unfolding row_at
numbered_at n w rs sized wide x y s below =
    let r = numbered rs s in
    let long = each_numbered (Long n) rs (each_long n rs sized) s below in
    ap₂ (λ (l : List Bool) (c : Bool). record { atoms = l; constant = c })
    (ap (λ (l : List ℕ). atoms_of n (set_of l)) (row_written w rs x s below)
    ∙ ap (λ (k : ℕ). atoms_of k (packed 64 (unpack 64 w (mask_of r.atoms)))) (sym long) ∙ words_hold_atoms 64 w r.atoms (omega (arith, long)))
    (ap (λ (k : ℕ). eqb k 1) (constant_written rs y s below) ∙ bool_back r.constant)

pub fit_words : (n w : ℕ) (rs : List Row) → Sized n rs → n ≤ w * 64 → (x : List ℕ) (s : ℕ) → s < length rs → set_of (row w (words_of w rs ++ x) s) < 2 ^ n
fit_words n w rs sized wide x s below =
    let r = (numbered rs s).atoms in
    let lt : mask_of r < 2 ^ n = subst (λ (k : ℕ). mask_of r < 2 ^ k) (each_numbered (Long n) rs (each_long n rs sized) s below) (mask_lt r) in
    let e : set_of (row w (words_of w rs ++ x) s) ≡ mask_of r =
    ap set_of (row_written w rs x s below) ∙ packed_unpack 64 w (mask_of r) (lt_of_lt_of_le lt (pow_mono wide)) in
    rw e lt

pub fit_constants : (rs : List Row) (y : List ℕ) (s : ℕ) → s < length rs → get_or (constants_of rs ++ y) s 0 < 2
fit_constants rs y s h = rw (constant_written rs y s h) (bit (numbered rs s).constant)
  where
    bit : (b : Bool) → cond b 1 0 < 2
    bit true = omega arith
    bit false = omega arith

-- ---- and words read as rows are the words of those rows

take_bound : (b : ℕ) → 0 < b → (k : ℕ) (l : List ℕ) → ((i : ℕ) → get_or l i 0 < b) → (i : ℕ) → get_or (take k l) i 0 < b
take_bound b pos zero l h i = pos
take_bound b pos (suc k) [] h i = pos
take_bound b pos (suc k) (v ∷ l) h zero = h 0
take_bound b pos (suc k) (v ∷ l) h (suc i) = take_bound b pos k l (λ j. h (suc j)) i

pub words_back : (n w : ℕ) (ws cs : List ℕ) (m : ℕ) → ((i : ℕ) → get_or ws i 0 < 2 ^ 64) → m * w ≤ length ws
    → ((r : ℕ) → r < m → set_of (row w ws r) < 2 ^ n) → words_of w (rows_to n w ws cs m) ≡ take (m * w) ws
unfolding rows_to words_of row_at
words_back n w ws cs zero bound room fit = sym (ap (λ (k : ℕ). take k ws) (zero-mul w))
words_back n w ws cs (suc m) bound room fit =
    let ends : m * w + w ≤ length ws = omega (arith, suc-mul m w) in
    let own = row w ws m in
    let fits = take_bound (2 ^ 64) (pow_pos 64) w (drop (m * w) ws) (λ i. rw (get_or-drop (m * w) ws i 0) (bound (m * w + i))) in
    let same : unpack 64 w (mask_of (atoms_of n (set_of own))) ≡ own =
    ap (λ (k : ℕ). unpack 64 k (mask_of (atoms_of n (set_of own)))) (sym (row_length w ws m ends))
    ∙ atoms_fix_words 64 n own fits (fit m (omega arith)) in
    ap₂ ◌++◌ (words_back n w ws cs m bound (omega arith) (λ r l. fit r (omega arith))) same
    ∙ sym (take-add (m * w) w ws) ∙ ap (λ (k : ℕ). take k ws) (sym (suc-mul m w))

pub constants_back : (n w : ℕ) (ws cs : List ℕ) (m : ℕ) → m ≤ length cs → ((r : ℕ) → r < m → get_or cs r 0 < 2)
    → constants_of (rows_to n w ws cs m) ≡ take m cs
unfolding rows_to constants_of row_at
constants_back n w ws cs zero room fit = refl
constants_back n w ws cs (suc m) room fit =
    let c = get_or cs m 0 in
    let same : cond (eqb c 1) 1 0 ≡ c =
    subst (λ (d : ℕ). cond (eqb d 1) 1 0 ≡ d) (mod-eq_of_lt (fit m (omega arith))) (one (λ d. cond (eqb d 1) 1 0 ≡ d) refl refl c) in
    ap₂ (λ (l : List ℕ) (d : ℕ). l ++ (d ∷ [])) (constants_back n w ws cs m (omega arith) (λ r l. fit r (omega arith))) same
    ∙ sym (take-suc cs m 0 room)
