-- A property that sums keep and that the pivots have: the differences entered leave it so, and all that the pivots span has it.
use Prim.Native.Nat.{ℕ, zero, suc}
use mathlib.Core.Path.{◌≡◌, sym, ◌∙◌}
use mathlib.Core.List.{List, [], ◌∷◌}
use mathlib.Core.Bool.{Bool, true, false, xor, false≢true}
use mathlib.Core.Option.{none, some}
use native.Mathlib.Omega.{arith}
use lib.ListN.{length, replicate}
use Rattle.rows.specs.Row.{plus}
use Rattle.hull.specs.Table.{Pattern}
use Rattle.hull.specs.Equations.{Pivots, enter, pivots_from, zeros}
use Rattle.hull.specs.Promises.{Sized}
use Rattle.rows.proofs.Plus.{plus_comm, plus_twice, length_plus}
use Rattle.hull.proofs.Spans.{Each, spans}

abbrev pub Summing : (List Bool → Type 0) → Type 0
Summing D = (x y : List Bool) → D x → D y → D (plus x y)

-- Every pivot has D, with the bits below it clear.
abbrev pub Within : (List Bool → Type 0) → Pivots → Type 0
Within D [] = Unit {0}
Within D (none ∷ ss) = Within (λ x. D (false ∷ x)) ss
Within D (some t ∷ ss) = D (true ∷ t) × Within (λ x. D (false ∷ x)) ss

pub within_map : {D E : List Bool → Type 0} (ss : Pivots) → ((x : List Bool) → D x → E x) → Within D ss → Within E ss
within_map [] f w = tt
within_map (none ∷ ss) f w = within_map ss (λ x. f (false ∷ x)) w
within_map (some t ∷ ss) f w = (f (true ∷ t) w.0, within_map ss (λ x. f (false ∷ x)) w.1)

above : (D : List Bool → Type 0) → Summing D → Summing (λ x. D (false ∷ x))
unfolding xor
above D sum x y = sum (false ∷ x) (false ∷ y)

within_enter : (D : List Bool → Type 0) (ss : Pivots) (x : List Bool) → Summing D → Within D ss → D x → Within D (enter ss x)
unfolding enter xor
within_enter D [] x sum w d = tt
within_enter D (s ∷ ss) [] sum w d = w
within_enter D (none ∷ ss) (false ∷ x) sum w d = within_enter (λ x. D (false ∷ x)) ss x (above D sum) w d
within_enter D (none ∷ ss) (true ∷ x) sum w d = (d, w)
within_enter D (some t ∷ ss) (false ∷ x) sum w d = (w.0, within_enter (λ x. D (false ∷ x)) ss x (above D sum) w.1 d)
within_enter D (some t ∷ ss) (true ∷ x) sum w d =
    (w.0, within_enter (λ x. D (false ∷ x)) ss (plus x t) (above D sum) w.1 (sum (true ∷ x) (true ∷ t) d w.0))

within_none : (D : List Bool → Type 0) (k : ℕ) → Within D (replicate k none)
within_none D zero = tt
within_none D (suc k) = within_none (λ x. D (false ∷ x)) k

within_from : (D : List Bool → Type 0) (anchor : Pattern) (ss : Pivots) (xs : List Pattern) → Summing D → Each (λ x. D (plus anchor x)) xs
    → Within D ss → Within D (pivots_from anchor ss xs)
unfolding pivots_from
within_from D anchor ss [] sum each w = w
within_from D anchor ss (x ∷ xs) sum each w =
    within_from D anchor (enter ss (plus anchor x)) xs sum each.1 (within_enter D ss (plus anchor x) sum w each.0)

pub within_pivots : (D : List Bool → Type 0) (k : ℕ) (anchor : Pattern) (xs : List Pattern) → Summing D → Each (λ x. D (plus anchor x)) xs
    → Within D (pivots_from anchor (replicate k none) xs)
within_pivots D k anchor xs sum each = within_from D anchor (replicate k none) xs sum each (within_none D k)

pub within_spans : (D : List Bool → Type 0) (ss : Pivots) (x : List Bool) → Summing D → D (zeros (length ss)) → Within D ss → Sized ss
    → length x ≡ length ss → spans ss x ≡ true → D x
unfolding xor
within_spans D [] [] sum d w z e h = d
within_spans D [] (v ∷ x) sum d w z e h = let no : ⊥ = omega arith in absurd no
within_spans D (s ∷ ss) [] sum d w z e h = let no : ⊥ = omega arith in absurd no
within_spans D (none ∷ ss) (false ∷ x) sum d w z e h = within_spans (λ x. D (false ∷ x)) ss x (above D sum) d w z (omega arith) h
within_spans D (none ∷ ss) (true ∷ x) sum d w z e h = absurd (false≢true h)
within_spans D (some t ∷ ss) (false ∷ x) sum d w z e h = within_spans (λ x. D (false ∷ x)) ss x (above D sum) d w.1 z.1 (omega arith) h
within_spans D (some t ∷ ss) (true ∷ x) sum d w z e h =
    let l : length x ≡ length t = omega arith in
    let below : D (false ∷ plus x t) =
    within_spans (λ x. D (false ∷ x)) ss (plus x t) (above D sum) d w.1 z.1 (length_plus x t l ∙ z.0) h in
    rw (plus_comm (plus x t) t, plus_comm x t, plus_twice t x (sym l)) at (sum (false ∷ plus x t) (true ∷ t) below w.0)
