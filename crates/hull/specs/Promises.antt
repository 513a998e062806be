-- The theorems of `hull`, as statements, for every k and every table; src/promises.rt holds each.
use Rattle.std.specs.Prelude.{ℕ, suc, ◌-◌, ◌^◌, ◌<◌, ◌≡◌, ◌↔◌, List, [], ◌∷◌, ◌++◌, Bool, true, false, length, get_or, replicate}
use Rattle.std.proofs.Math.Option.{none, some}
use Rattle.words.specs.Set.{odd}
use Rattle.rows.specs.Row.{Row, overlap, meets, meets_all, plus, sum_of}
use Rattle.rows.specs.Count.{count}
use Rattle.hull.specs.Table.{Pattern, allowed, allows}
use Rattle.hull.specs.Equations.{Pivots, equations, zeros, pivots_from, hull_of}

-- An affine set of patterns of k bits: closed under the sum of three.
abbrev pub Affine : ℕ → (Pattern → Bool) → Type 0
Affine k A = (x y z : Pattern) → length x ≡ k → length y ≡ k → length z ≡ k
    → A x ≡ true → A y ≡ true → A z ≡ true → A (plus (plus x y) z) ≡ true

-- A set that holds the patterns that a table of k atoms allows.
abbrev pub Holds : ℕ → List ℕ → (Pattern → Bool) → Type 0
Holds k words A = (x : Pattern) → length x ≡ k → allows words x ≡ true → A x ≡ true

-- "the equations are met by just the smallest affine set that holds the allowed patterns"
abbrev pub SmallestAffine : Type 0
SmallestAffine = (k : ℕ) (words : List ℕ) (x : Pattern) → length x ≡ k
    → (meets_all (hull_of k words).rows x ≡ true) ↔ ((A : Pattern → Bool) → Affine k A → Holds k words A → A x ≡ true)

-- "where some pattern is allowed every parity equation true on all of them is a sum of these."
abbrev pub EverySum : Type 0
EverySum = (k : ℕ) (words : List ℕ) (y : Pattern) → length y ≡ k → allows words y ≡ true
    → (q : Row) → length q.atoms ≡ k → Holds k words (meets q) → (bs : List Bool) × (q ≡ sum_of k bs (hull_of k words).rows)

-- Exact exactly when the allowed patterns are that set.
abbrev pub ExactIsSet : Type 0
ExactIsSet = (k : ℕ) (words : List ℕ)
    → ((hull_of k words).exact ≡ true) ↔ ((x : Pattern) → length x ≡ k → allows words x ≡ meets_all (hull_of k words).rows x)

-- "Exact means allowed patterns = 2^rank, all 2^k patterns counted": the rank is k less the number of equations.
abbrev pub ExactIsCount : Type 0
ExactIsCount = (k : ℕ) (words : List ℕ) (y : Pattern) → length y ≡ k → allows words y ≡ true
    → ((hull_of k words).exact ≡ true) ↔ (count k (allows words) ≡ 2 ^ (k - length (hull_of k words).rows))

-- A pivot at position i of k has k - i - 1 bits above it.
abbrev pub Sized : Pivots → Type 0
Sized [] = Unit {0}
Sized (none ∷ ss) = Sized ss
Sized (some t ∷ ss) = (length t ≡ length ss) × Sized ss

-- The positions without a pivot, rising, counted from `at`.
abbrev pub free : ℕ → Pivots → List ℕ
free at [] = []
free at (none ∷ ss) = at ∷ free (suc at) ss
free at (some t ∷ ss) = free (suc at) ss

-- The equation c of position i: "that bit set, other non-pivot bits clear, even overlap with every pivot".
pub record Described (ss : Pivots) (i : ℕ) (c : List Bool) : Type 0 where
  pub size : length c ≡ length ss
  pub own : get_or c i false ≡ true
  pub others : (j : ℕ) → (j ≡ i → ⊥) → get_or ss j (some []) ≡ none → get_or c j false ≡ false
  pub even : (j : ℕ) (t : List Bool) → get_or ss j none ≡ some t → odd (overlap c (zeros j ++ (true ∷ t))) ≡ false

-- "Each position without a pivot, rising, yields one equation", the one described and no other.
abbrev pub FreeEquations : Type 0
FreeEquations = (ss : Pivots)
    → (length (equations ss) ≡ length (free 0 ss))
    × ((m : ℕ) → m < length (free 0 ss) → Described ss (get_or (free 0 ss) m 0) (get_or (equations ss) m []))
    × ((i : ℕ) (c d : List Bool) → Described ss i c → Described ss i d → c ≡ d)

-- The pivots of a table are of that size, one place for each of its k atoms.
abbrev pub TablePivots : Type 0
TablePivots = (k : ℕ) (words : List ℕ) (anchor : Pattern) (xs : List Pattern) → allowed k words ≡ anchor ∷ xs
    → (length (pivots_from anchor (replicate k none) xs) ≡ k) × Sized (pivots_from anchor (replicate k none) xs)
