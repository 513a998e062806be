-- Lowest atoms: `same_low`, `empty` and `find` against `Lowest`, and the measure that falls with each addition.
use Prim.Native.Nat.{ℕ, zero, suc, ◌≤◌, ◌<◌, suc-le-suc}
use mathlib.Core.Path.{◌≡◌, refl, sym, ap, ◌∙◌}
use mathlib.Core.List.{List, [], ◌∷◌}
use mathlib.Core.Bool.{Bool, true, false, cond, xor, true≢false, false≢true}
use mathlib.Core.Option.{none, some}
use native.Mathlib.Nat.{le_of_suc-le-suc, not-suc-le-zero}
use native.Mathlib.Omega.{arith}
use lib.ListN.{length, get_or}
use Rattle.rows.proofs.Plus.{length_plus}
use Rattle.rows.specs.Row.{Row, has_atom, plus}
use Rattle.echelon.specs.Forward.{same_low, empty, low, find}
use Rattle.echelon.specs.Promises.{Lowest, LowestRises}
use Rattle.echelon.specs.Steps.{rest}

-- `Lowest` of the atoms alone.
abbrev Low : List Bool → ℕ → Type 0
Low r a = (get_or r a false ≡ true) × ((b : ℕ) → b < a → get_or r b false ≡ false)

of : (r : Row) (a : ℕ) → Lowest r a → Low r.atoms a
of r a h = (h.own, h.below)

tail : (b : Bool) (r : List Bool) (a : ℕ) → Low (b ∷ r) (suc a) → Low r a
tail b r a h = (h.0, λ c l. h.1 (suc c) (suc-le-suc l))

-- no atom at 0 where the lowest is above
first : (b : Bool) (r : List Bool) (a : ℕ) → Low (b ∷ r) (suc a) → b ≡ false
first b r a h = h.1 0 (omega arith)

-- ---- the same lowest atom, and another

same : (r s : List Bool) (a : ℕ) → Low r a → Low s a → same_low r s ≡ true
same [] s a h k = h.0
same (b ∷ r) [] a h k = k.0
same (true ∷ r) (c ∷ s) zero h k = k.0
same (false ∷ r) (c ∷ s) zero h k = absurd (false≢true h.0)
same (true ∷ r) (c ∷ s) (suc a) h k = absurd (true≢false (first true r a h))
same (false ∷ r) (true ∷ s) (suc a) h k = absurd (true≢false (first true s a k))
same (false ∷ r) (false ∷ s) (suc a) h k = same r s a (tail false r a h) (tail false s a k)

pub same_low_lem : (r s : Row) (a : ℕ) → Lowest r a → Lowest s a → same_low r.atoms s.atoms ≡ true
same_low_lem r s a h k = same r.atoms s.atoms a (of r a h) (of s a k)

other : (r s : List Bool) (a b : ℕ) → Low r a → Low s b → (a ≡ b → ⊥) → same_low r s ≡ false
other [] s a b h k ne = refl
other (c ∷ r) [] a b h k ne = refl
other (true ∷ r) (d ∷ s) zero zero h k ne = absurd (ne refl)
other (true ∷ r) (d ∷ s) zero (suc b) h k ne = first d s b k
other (true ∷ r) (d ∷ s) (suc a) b h k ne = absurd (true≢false (first true r a h))
other (false ∷ r) (d ∷ s) zero b h k ne = absurd (false≢true h.0)
other (false ∷ r) (true ∷ s) (suc a) b h k ne = refl
other (false ∷ r) (false ∷ s) (suc a) zero h k ne = absurd (false≢true k.0)
other (false ∷ r) (false ∷ s) (suc a) (suc b) h k ne = other r s a b (tail false r a h) (tail false s b k) (λ e. ne (ap suc e))

pub other_low : (r s : Row) (a b : ℕ) → Lowest r a → Lowest s b → (a ≡ b → ⊥) → same_low r.atoms s.atoms ≡ false
other_low r s a b h k ne = other r.atoms s.atoms a b (of r a h) (of s b k) ne

-- ---- no atom

pub none_low : (r s : List Bool) → empty s ≡ true → same_low r s ≡ false
none_low [] s h = refl
none_low (a ∷ r) [] h = refl
none_low (true ∷ r) (true ∷ s) h = sym h
none_low (true ∷ r) (false ∷ s) h = refl
none_low (false ∷ r) (true ∷ s) h = refl
none_low (false ∷ r) (false ∷ s) h = none_low r s h

pub none_low' : (r s : List Bool) → empty r ≡ true → same_low r s ≡ false
none_low' [] s h = refl
none_low' (a ∷ r) [] h = refl
none_low' (true ∷ r) (b ∷ s) h = absurd (false≢true h)
none_low' (false ∷ r) (true ∷ s) h = refl
none_low' (false ∷ r) (false ∷ s) h = none_low' r s h

pub find_none : (r : Row) → empty r.atoms ≡ true → (bs : List Row) → find r bs ≡ none
find_none r h [] = refl
find_none r h (b ∷ bs) = ap (λ (t : Bool). cond t (some b) (find r bs)) (none_low' r.atoms b.atoms h) ∙ find_none r h bs

pub some_atom : (r : List Bool) (a : ℕ) → get_or r a false ≡ true → empty r ≡ false
some_atom [] a h = sym h
some_atom (true ∷ r) a h = refl
some_atom (false ∷ r) zero h = absurd (false≢true h)
some_atom (false ∷ r) (suc a) h = some_atom r a h

pub has_some : (r : Row) (a : ℕ) → Lowest r a → empty r.atoms ≡ false
has_some r a h = some_atom r.atoms a h.own

no_atom : (r : List Bool) → ((a : ℕ) → get_or r a false ≡ false) → empty r ≡ true
no_atom [] h = refl
no_atom (true ∷ r) h = sym (h 0)
no_atom (false ∷ r) h = no_atom r (λ a. h (suc a))

pub empty_none : (r : Row) → ((a : ℕ) → has_atom r a ≡ false) → empty r.atoms ≡ true
empty_none r h = no_atom r.atoms h

-- ---- which one it is

zero_low : (r : List Bool) → Low (true ∷ r) 0
zero_low r = (refl, λ b l. absurd (not-suc-le-zero l))

suc_low : (r : List Bool) (a : ℕ) → Low r a → Low (false ∷ r) (suc a)
suc_low r a h = (h.0, below)
  where
    below : (b : ℕ) → b < suc a → get_or (false ∷ r) b false ≡ false
    below zero l = refl
    below (suc b) l = h.1 b (le_of_suc-le-suc l)

low_of : (r : List Bool) → empty r ≡ false → Low r (low r)
low_of [] h = absurd (true≢false h)
low_of (true ∷ r) h = zero_low r
low_of (false ∷ r) h = suc_low r (low r) (low_of r h)

pub low_lowest : (r : Row) → empty r.atoms ≡ false → Lowest r (low r.atoms)
low_lowest r h = let found = low_of r.atoms h in record { own = found.0; below = found.1 }

pub low_lt : (r : List Bool) → empty r ≡ false → low r < length r
low_lt [] h = absurd (true≢false h)
low_lt (true ∷ r) h = omega arith
low_lt (false ∷ r) h = suc-le-suc (low_lt r h)

same_of : (r s : List Bool) → same_low r s ≡ true → (a : ℕ) × Low r a × Low s a
same_of [] s h = absurd (false≢true h)
same_of (a ∷ r) [] h = absurd (false≢true h)
same_of (true ∷ r) (true ∷ s) h = (0, zero_low r, zero_low s)
same_of (true ∷ r) (false ∷ s) h = absurd (false≢true h)
same_of (false ∷ r) (true ∷ s) h = absurd (false≢true h)
same_of (false ∷ r) (false ∷ s) h =
    let found = same_of r s h in (suc found.0, suc_low r found.0 found.1, suc_low s found.0 found.2)

pub same_lowest : (r s : Row) → same_low r.atoms s.atoms ≡ true → (a : ℕ) × Lowest r a × Lowest s a
same_lowest r s h =
    let found = same_of r.atoms s.atoms h in (
      found.0,
      record { own = found.1.0; below = found.1.1 },
      record { own = found.2.0; below = found.2.1 },
    )

-- ---- it rises with an addition

rises : (r s : List Bool) (a b : ℕ) → Low r a → Low s a → get_or (plus r s) b false ≡ true → a < b
unfolding xor
rises [] s a b h k e = absurd (false≢true h.0)
rises (c ∷ r) [] a b h k e = absurd (false≢true k.0)
rises (false ∷ r) (d ∷ s) zero b h k e = absurd (false≢true h.0)
rises (true ∷ r) (false ∷ s) zero b h k e = absurd (false≢true k.0)
rises (true ∷ r) (true ∷ s) zero zero h k e = absurd (false≢true e)
rises (true ∷ r) (true ∷ s) zero (suc b) h k e = omega arith
rises (true ∷ r) (d ∷ s) (suc a) b h k e = absurd (true≢false (first true r a h))
rises (false ∷ r) (true ∷ s) (suc a) b h k e = absurd (true≢false (first true s a k))
rises (false ∷ r) (false ∷ s) (suc a) zero h k e = absurd (false≢true e)
rises (false ∷ r) (false ∷ s) (suc a) (suc b) h k e = suc-le-suc (rises r s a b (tail false r a h) (tail false s a k) e)

pub lowest_rises : LowestRises
lowest_rises r s a b h k l = rises r.atoms s.atoms a b (of r a h) (of s a k) l.own

pub rest_le : (r : List Bool) → rest r ≤ length r
rest_le [] = omega arith
rest_le (true ∷ r) = omega arith
rest_le (false ∷ r) = omega (arith, rest_le r)

pub rest_falls : (r s : List Bool) → same_low r s ≡ true → length r ≡ length s → rest (plus r s) < rest r
unfolding xor
rest_falls [] s h e = absurd (false≢true h)
rest_falls (a ∷ r) [] h e = absurd (false≢true h)
rest_falls (true ∷ r) (true ∷ s) h e = omega (arith, rest_le (plus r s), length_plus r s (omega arith))
rest_falls (true ∷ r) (false ∷ s) h e = absurd (false≢true h)
rest_falls (false ∷ r) (true ∷ s) h e = absurd (false≢true h)
rest_falls (false ∷ r) (false ∷ s) h e = rest_falls r s h (omega arith)
