-- What pivots span: the lists of which the reduction from bit 0 upward leaves nothing. Entering a list makes it spanned, keeps what was, and
-- keeps the pivots' sizes; and r pivots span 2^r lists.
use Prim.Native.Nat.{ℕ, zero, suc, ◌^◌}
use mathlib.Core.Path.{◌≡◌, refl, sym, ap, ◌∙◌}
use mathlib.Core.List.{List, [], ◌∷◌}
use mathlib.Core.Bool.{Bool, true, false}
use mathlib.Core.Option.{none, some}
use native.Mathlib.Nat.{pow-suc}
use native.Mathlib.Omega.{arith}
use lib.ListN.{length, replicate, length-replicate}
use Rattle.rows.specs.Row.{plus}
use Rattle.rows.specs.Count.{count}
use Rattle.rows.proofs.Counting.{count_none}
use Rattle.hull.specs.Table.{Pattern}
use Rattle.hull.specs.Equations.{Pivots, enter, pivots_from, rank, zeros}
use Rattle.hull.specs.Promises.{Sized}
use Rattle.rows.proofs.Plus.{plus_self, length_plus}
use Rattle.hull.proofs.Counts.{count_moved}

abbrev pub Each : (Pattern → Type 0) → List Pattern → Type 0
Each P [] = Unit {0}
Each P (x ∷ xs) = P x × Each P xs

abbrev pub spans : Pivots → List Bool → Bool
spans [] x = true
spans (s ∷ ss) [] = true
spans (s ∷ ss) (false ∷ x) = spans ss x
spans (none ∷ ss) (true ∷ x) = false
spans (some t ∷ ss) (true ∷ x) = spans ss (plus x t)

pub spans_zeros : (ss : Pivots) (n : ℕ) → spans ss (zeros n) ≡ true
spans_zeros [] n = refl
spans_zeros (s ∷ ss) zero = refl
spans_zeros (s ∷ ss) (suc n) = spans_zeros ss n

pub spans_entered : (ss : Pivots) (x : List Bool) → spans (enter ss x) x ≡ true
unfolding enter
spans_entered [] x = refl
spans_entered (s ∷ ss) [] = refl
spans_entered (s ∷ ss) (false ∷ x) = spans_entered ss x
spans_entered (none ∷ ss) (true ∷ x) = ap (spans ss) (plus_self x) ∙ spans_zeros ss (length x)
spans_entered (some t ∷ ss) (true ∷ x) = spans_entered ss (plus x t)

pub spans_enter : (ss : Pivots) (x y : List Bool) → spans ss y ≡ true → spans (enter ss x) y ≡ true
unfolding enter
spans_enter [] x y h = refl
spans_enter (s ∷ ss) [] y h = h
spans_enter (s ∷ ss) (false ∷ x) [] h = refl
spans_enter (none ∷ ss) (true ∷ x) [] h = refl
spans_enter (some t ∷ ss) (true ∷ x) [] h = refl
spans_enter (s ∷ ss) (false ∷ x) (false ∷ y) h = spans_enter ss x y h
spans_enter (none ∷ ss) (false ∷ x) (true ∷ y) h = cc
spans_enter (some t ∷ ss) (false ∷ x) (true ∷ y) h = spans_enter ss x (plus y t) h
spans_enter (none ∷ ss) (true ∷ x) (false ∷ y) h = h
spans_enter (none ∷ ss) (true ∷ x) (true ∷ y) h = cc
spans_enter (some t ∷ ss) (true ∷ x) (false ∷ y) h = spans_enter ss (plus x t) y h
spans_enter (some t ∷ ss) (true ∷ x) (true ∷ y) h = spans_enter ss (plus x t) (plus y t) h

spans_from : (anchor : Pattern) (ss : Pivots) (xs : List Pattern) (y : List Bool) → spans ss y ≡ true → spans (pivots_from anchor ss xs) y ≡ true
unfolding pivots_from
spans_from anchor ss [] y h = h
spans_from anchor ss (x ∷ xs) y h = spans_from anchor (enter ss (plus anchor x)) xs y (spans_enter ss (plus anchor x) y h)

pub spans_each : (anchor : Pattern) (ss : Pivots) (xs : List Pattern) → Each (λ x. spans (pivots_from anchor ss xs) (plus anchor x) ≡ true) xs
unfolding pivots_from
spans_each anchor ss [] = tt
spans_each anchor ss (x ∷ xs) =
    let d = plus anchor x in (spans_from anchor (enter ss d) xs d (spans_entered ss d), spans_each anchor (enter ss d) xs)

-- As many places as before, and each pivot of its size.
pub length_enter : (ss : Pivots) (x : List Bool) → length (enter ss x) ≡ length ss
unfolding enter
length_enter [] x = refl
length_enter (s ∷ ss) [] = refl
length_enter (s ∷ ss) (false ∷ x) = ap suc (length_enter ss x)
length_enter (none ∷ ss) (true ∷ x) = refl
length_enter (some t ∷ ss) (true ∷ x) = ap suc (length_enter ss (plus x t))

pub sized_enter : (ss : Pivots) (x : List Bool) → Sized ss → length x ≡ length ss → Sized (enter ss x)
unfolding enter
sized_enter [] x z e = tt
sized_enter (s ∷ ss) [] z e = z
sized_enter (none ∷ ss) (false ∷ x) z e = sized_enter ss x z (omega arith)
sized_enter (none ∷ ss) (true ∷ x) z e = (omega arith, z)
sized_enter (some t ∷ ss) (false ∷ x) z e = (z.0 ∙ sym (length_enter ss x), sized_enter ss x z.1 (omega arith))
sized_enter (some t ∷ ss) (true ∷ x) z e =
    (z.0 ∙ sym (length_enter ss (plus x t)), sized_enter ss (plus x t) z.1 (length_plus x t (omega arith) ∙ z.0))

pub sized_none : (k : ℕ) → Sized (replicate k none)
sized_none zero = tt
sized_none (suc k) = sized_none k

sized_from : (k : ℕ) (anchor : Pattern) (ss : Pivots) (xs : List Pattern) → length anchor ≡ k → Each (λ x. length x ≡ k) xs
    → length ss ≡ k → Sized ss → (length (pivots_from anchor ss xs) ≡ k) × Sized (pivots_from anchor ss xs)
unfolding pivots_from
sized_from k anchor ss [] a each e z = (e, z)
sized_from k anchor ss (x ∷ xs) a each e z =
    let d = plus anchor x in
    sized_from k anchor (enter ss d) xs a each.1 (length_enter ss d ∙ e)
    (sized_enter ss d z (length_plus anchor x (a ∙ sym each.0) ∙ each.0 ∙ sym e))

pub sized_pivots : (k : ℕ) (anchor : Pattern) (xs : List Pattern) → length anchor ≡ k → Each (λ x. length x ≡ k) xs
    → (length (pivots_from anchor (replicate k none) xs) ≡ k) × Sized (pivots_from anchor (replicate k none) xs)
sized_pivots k anchor xs a each = sized_from k anchor (replicate k none) xs a each (length-replicate k none) (sized_none k)

pub spans_count : (ss : Pivots) → Sized ss → count (length ss) (spans ss) ≡ 2 ^ rank ss
unfolding count
spans_count [] z = refl
spans_count (none ∷ ss) z = omega (arith, spans_count ss z, count_none (length ss))
spans_count (some t ∷ ss) z =
    omega (arith, pow-suc 2 (rank ss), spans_count ss z.1, rw z.0 at (count_moved t (spans ss)))
