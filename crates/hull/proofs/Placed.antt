-- The array of pivots is a function of the list of pivots: a pivot with its bits in place, or 0. The code's `entered` on the one is
-- `enter` on the other.
use Prim.Native.Nat.{ℕ, zero, suc, ◌+◌, ◌-◌, ◌*◌, ◌^◌, ◌≤◌, ◌<◌}
use mathlib.Core.Path.{◌≡◌, refl, sym, ap, ap₂, ◌∙◌}
use mathlib.Core.List.{List, [], ◌∷◌, ◌++◌}
use mathlib.Core.Bool.{Bool, true, false, xor}
use mathlib.Core.Option.{none, some}
use native.Mathlib.Nat.{zero-mul, mul-pos}
use native.Mathlib.Omega.{arith}
use borrow.Author.Tests.{eq-eqb, ne_eqb}
use lib.ListN.{length, replicate, replicate-append-replicate}
use lib.Bits.{bit_xor}
use lib.Pow.{pow_pos}
use Rattle.words.proofs.Bitwise.{by_xor}
use Rattle.rows.specs.Row.{plus}
use Rattle.rows.specs.Flat.{mask_of}
use Rattle.hull.specs.Equations.{Pivots, enter, rank}
use Rattle.hull.specs.Propose.{limit}
use Rattle.hull.specs.Steps.{bit, entered, headed, placed}
use Rattle.hull.proofs.Numbers.{mask_plus, op_shl, even_shl, head_bit}

pub none_zero : (j : ℕ) → mask_of (headed none) * 2 ^ j ≡ 0
unfolding mask_of
none_zero j = zero-mul _

pub some_pos : (t : List Bool) (j : ℕ) → 0 < mask_of (headed (some t)) * 2 ^ j
unfolding mask_of
some_pos t j = mul-pos (omega arith) (pow_pos j)

none_placed : (n j : ℕ) → placed j (replicate n none) ≡ replicate n 0
none_placed zero j = refl
none_placed (suc n) j = ap₂ ◌∷◌ (none_zero j) (none_placed n (suc j))

pub none_array : (k : ℕ) → k ≤ limit → placed 0 (replicate k none) ++ replicate (limit - k) 0 ≡ replicate limit 0
none_array k h =
    let all : k + (limit - k) ≡ limit = omega arith in
    ap (λ l. l ++ replicate (limit - k) 0) (none_placed k 0) ∙ replicate-append-replicate k (limit - k) 0 ∙ ap (λ n. replicate n 0) all

-- whether a pivot comes
abbrev pub came : Pivots → List Bool → Bool
came [] x = false
came (s ∷ ss) [] = false
came (s ∷ ss) (false ∷ x) = came ss x
came (none ∷ ss) (true ∷ x) = true
came (some t ∷ ss) (true ∷ x) = came ss (plus x t)

pub rank_enter : (ss : Pivots) (x : List Bool) → rank (enter ss x) ≡ rank ss + bit (came ss x)
unfolding enter
rank_enter [] x = refl
rank_enter (s ∷ ss) [] = omega arith
rank_enter (none ∷ ss) (false ∷ x) = rank_enter ss x
rank_enter (some t ∷ ss) (false ∷ x) = omega (arith, rank_enter ss x)
rank_enter (none ∷ ss) (true ∷ x) = omega arith
rank_enter (some t ∷ ss) (true ∷ x) = omega (arith, rank_enter ss (plus x t))

pub rank_le : (ss : Pivots) → rank ss ≤ length ss
rank_le [] = omega arith
rank_le (none ∷ ss) = omega (arith, rank_le ss)
rank_le (some t ∷ ss) = omega (arith, rank_le ss)

-- at full rank nothing enters
pub enter_full : (ss : Pivots) (x : List Bool) → rank ss ≡ length ss → enter ss x ≡ ss
unfolding enter
enter_full [] x h = refl
enter_full (s ∷ ss) [] h = refl
enter_full (none ∷ ss) (b ∷ x) h = let z : ⊥ = omega (arith, rank_le ss) in absurd z
enter_full (some t ∷ ss) (false ∷ x) h = ap (◌∷◌ (some t)) (enter_full ss x (omega arith))
enter_full (some t ∷ ss) (true ∷ x) h = ap (◌∷◌ (some t)) (enter_full ss (plus x t) (omega arith))

-- a sum is as long as either
pub plus_long : (x y : List Bool) → length x ≤ length (plus x y)
plus_long [] y = omega arith
plus_long (a ∷ x) [] = omega arith
plus_long (a ∷ x) (b ∷ y) = omega (arith, plus_long x y)

-- behind a pivot that stands
abbrev behind : ℕ → List ℕ × Bool → List ℕ × Bool
behind v p = (v ∷ p.0, p.1)

pub entered_placed : (ss : Pivots) (x : List Bool) (j : ℕ) → length ss ≤ length x
    → entered j (placed j ss) (mask_of x * 2 ^ j) ≡ (placed j (enter ss x), came ss x)
unfolding entered enter xor
entered_placed [] x j h = refl
entered_placed (s ∷ ss) [] j h = let z : ⊥ = omega arith in absurd z
entered_placed (s ∷ ss) (false ∷ x) j h =
    rw (head_bit false x j) (ap (behind _) (ap (entered (suc j) (placed (suc j) ss)) (sym (even_shl x j)) ∙ entered_placed ss x (suc j) (omega arith)))
entered_placed (none ∷ ss) (true ∷ x) j h = rw (head_bit true x j, eq-eqb _ _ (none_zero j))
entered_placed (some t ∷ ss) (true ∷ x) j h =
    let held : mask_of (true ∷ t) * 2 ^ j ≡ 0 → ⊥ = λ e. omega (arith, some_pos t j) in
    let sum : bit_xor (mask_of (true ∷ x) * 2 ^ j) (mask_of (true ∷ t) * 2 ^ j) ≡ mask_of (plus x t) * 2 ^ suc j =
    op_shl by_xor (mask_of (true ∷ x)) (mask_of (true ∷ t)) j ∙ ap (λ m. m * 2 ^ j) (mask_plus (true ∷ x) (true ∷ t)) ∙ sym (even_shl (plus x t) j) in
    rw (head_bit true x j, ne_eqb _ _ held) (ap (behind _) (ap (entered (suc j) (placed (suc j) ss)) sum ∙ entered_placed ss (plus x t) (suc j) (omega (arith, plus_long x t))))
