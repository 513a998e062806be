-- A list of entries written one after the other from two lists of numbers, and what its atoms and values are then.
use Prim.Native.Nat.{ℕ, zero, suc, ◌+◌, ◌≤◌, ◌<◌}
use mathlib.Core.Path.{◌≡◌, refl, sym, ap, ◌∙◌}
use mathlib.Core.List.{List, [], ◌∷◌, ◌++◌, map, zip_with}
use native.Mathlib.Numerals.{add-one}
use native.Mathlib.Omega.{arith}
use lib.ListN.{length, get_or, set, take, drop}
use Rattle.by_ref.specs.Told.{atom_of, value_of}
use Rattle.by_ref.specs.Promises.{EntriesSettle}
use Rattle.by_ref.specs.Steps.{written}
use Rattle.by_ref.specs.declared.Forced.{Forced}

-- entry i of two lists
abbrev pub entry : List ℕ → List ℕ → ℕ → Forced
entry ts vs i = record { atom = get_or ts i 0; value = get_or vs i 0 }

-- no entry
pub none : (ts vs : List ℕ) (xs : List Forced) → xs ≡ written ts vs 0 xs
unfolding zip_with
none ts vs xs = refl

-- one entry more
suc_step : (ts vs : List ℕ) (i : ℕ) (xs : List Forced) → i < length ts → i < length vs → i < length xs
    → set (written ts vs i xs) i (entry ts vs i) ≡ written ts vs (suc i) xs
unfolding zip_with
suc_step [] vs i xs a b c = absurd (omega arith)
suc_step (t ∷ ts) [] i xs a b c = absurd (omega arith)
suc_step (t ∷ ts) (v ∷ vs) i [] a b c = absurd (omega arith)
suc_step (t ∷ ts) (v ∷ vs) zero (x ∷ xs) a b c = refl
suc_step (t ∷ ts) (v ∷ vs) (suc i) (x ∷ xs) a b c =
    ap (λ (l : List Forced). record { atom = t; value = v } ∷ l) (suc_step ts vs i xs (omega arith) (omega arith) (omega arith))

pub one_more : (ts vs : List ℕ) (i : ℕ) (xs : List Forced) → i < length ts → i < length vs → i < length xs
    → set (written ts vs i xs) i (entry ts vs i) ≡ written ts vs (i + 1) xs
one_more ts vs i xs a b c = suc_step ts vs i xs a b c ∙ ap (λ (k : ℕ). written ts vs k xs) (sym (add-one i))

-- its atoms and its values
pub atoms_are : (ts vs : List ℕ) (i : ℕ) (xs : List Forced) → i ≤ length ts → i ≤ length vs → i ≤ length xs
    → map atom_of (written ts vs i xs) ≡ take i ts ++ drop i (map atom_of xs)
unfolding zip_with
atoms_are ts vs zero xs a b c = refl
atoms_are [] vs (suc i) xs a b c = absurd (omega arith)
atoms_are (t ∷ ts) [] (suc i) xs a b c = absurd (omega arith)
atoms_are (t ∷ ts) (v ∷ vs) (suc i) [] a b c = absurd (omega arith)
atoms_are (t ∷ ts) (v ∷ vs) (suc i) (x ∷ xs) a b c = ap (λ (l : List ℕ). t ∷ l) (atoms_are ts vs i xs (omega arith) (omega arith) (omega arith))

pub values_are : (ts vs : List ℕ) (i : ℕ) (xs : List Forced) → i ≤ length ts → i ≤ length vs → i ≤ length xs
    → map value_of (written ts vs i xs) ≡ take i vs ++ drop i (map value_of xs)
unfolding zip_with
values_are ts vs zero xs a b c = refl
values_are [] vs (suc i) xs a b c = absurd (omega arith)
values_are (t ∷ ts) [] (suc i) xs a b c = absurd (omega arith)
values_are (t ∷ ts) (v ∷ vs) (suc i) [] a b c = absurd (omega arith)
values_are (t ∷ ts) (v ∷ vs) (suc i) (x ∷ xs) a b c = ap (λ (l : List ℕ). v ∷ l) (values_are ts vs i xs (omega arith) (omega arith) (omega arith))

-- two lists with the same atoms and the same values are one
pub entries_settle : EntriesSettle
entries_settle [] [] a v = refl
entries_settle [] (y ∷ ys) a v = let z : ⊥ = omega (arith, ap length a) in absurd z
entries_settle (x ∷ xs) [] a v = let z : ⊥ = omega (arith, ap length a) in absurd z
entries_settle (x ∷ xs) (y ∷ ys) a v =
    let atom = ap (λ (l : List ℕ). get_or l 0 0) a in
    let value = ap (λ (l : List ℕ). get_or l 0 0) v in
    (λ i. record { atom = atom i; value = value i } ∷ entries_settle xs ys (ap (drop 1) a) (ap (drop 1) v) i)
