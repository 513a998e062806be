-- Eight words of ones have every atom below 512.
use Prim.Native.Nat.{ℕ, ◌-◌, ◌/◌, ◌%◌, ◌^◌, ◌<◌}
use mathlib.Core.Path.{◌≡◌, refl, sym, ap, ◌∙◌}
use mathlib.Core.List.{List}
use mathlib.Core.Bool.{Bool, true, ◌&&◌}
use native.Mathlib.Nat.{mod-lt, mod-eq_of_lt, zero-lt-suc}
use native.Mathlib.Omega.{arith}
use borrow.Author.Tests.{eq-eqb}
use lib.ListN.{replicate, get_or-replicate}
use lib.Bits.{bit_and, and_mask}
use lib.Pow.{pow-lt}
use Rattle.words.specs.Set.{set_of, has}
use Rattle.words.proofs.Meaning.{atom_is_bit, has_and, has_one}

has_ones : (k a : ℕ) → a < k → has (2 ^ k - 1) a ≡ true
has_ones k a h =
    let one : has (2 ^ a) a ≡ true = has_one a a ∙ eq-eqb a a refl in
    let within : bit_and (2 ^ a) (2 ^ k - 1) ≡ 2 ^ a = and_mask (2 ^ a) k ∙ mod-eq_of_lt (pow-lt {j = k} h) in
    sym (ap (λ (t : Bool). t && has (2 ^ k - 1) a) one) ∙ sym (has_and (2 ^ a) (2 ^ k - 1) a) ∙ ap (λ (x : ℕ). has x a) within ∙ one

abbrev pub full : List ℕ
full = replicate 8 (2 ^ 64 - 1)

pub full_has : (a : ℕ) → a < 512 → has (set_of full) a ≡ true
full_has a h =
    atom_is_bit full a ∙ ap (λ (w : ℕ). has w (a % 64)) (get_or-replicate 8 (a / 64) (2 ^ 64 - 1) 0 (omega arith))
    ∙ has_ones 64 (a % 64) (mod-lt a (zero-lt-suc 63))
