-- The next atom of a set from a place on: what it means, and how it is found in the words.
use Prim.Native.Nat.{ℕ, ◌+◌, ◌-◌, ◌*◌, ◌/◌, ◌%◌, ◌^◌, ◌≤◌, ◌<◌}
use mathlib.Core.Path.{◌≡◌, refl, sym, ap, subst, ◌∙◌}
use mathlib.Core.List.{List}
use mathlib.Core.Bool.{Bool, true, false, cond, not}
use native.Mathlib.Nat.{mod-eq_of_lt, mod-lt, mul_assoc, suc-mul, zero-add, zero-mul, zero-div, mul-le-mul_right, mul-add-div_right, mul-one, lt_of_le_of_lt}
use native.Mathlib.Numerals.{add-one}
use native.Mathlib.Omega.{arith}
use borrow.Author.Tests.{eqb-true, eqb-false, eq-eqb, ne_eqb}
use lib.ListN.{length, get_or, drop}
use lib.Dec.{leb, eqb}
use lib.Count.{count_trailing_zeros}
use lib.Pow.{pow_pos, pow-add, shr-shr, shr_le, shr_lt}
use Rattle.words.specs.Set.{packed, set_of, has, low}
use Rattle.words.proofs.Packed.{left_cons, left_none}
use Rattle.words.proofs.Lowest.{low_word, low_words}
use Rattle.words.proofs.Meaning.{low_lowest, has_none}
use Rattle.fit.proofs.Stray.{packed_shr, above_from}
use Rattle.std.specs.Prelude.{Option, Some, None, is_some}
use Rattle.std.proofs.lemmas.Nat.{div-add-mod'}
use Rattle.region.specs.Visit.{next_of, Clear}

-- ---- what it means

module _ (x from : ℕ) where
  -- the atoms from the place on, counted from it
  has_from : (i : ℕ) → from ≤ i → has x i ≡ has (x / 2 ^ from) (i - from)
  has_from i h =
      let e : i ≡ from + (i - from) = omega arith in
      ap (has x) e ∙ ap (λ (n : ℕ). eqb (n % 2) 1) (sym (shr-shr x from (i - from)))

  -- whatever holds of none where no atom is left, and of the lowest one where some are, holds of the next
  by_next : (P : Option ℕ → Type 0) → (x / 2 ^ from ≡ 0 → P None) → (0 < x / 2 ^ from → P (Some (from + low (x / 2 ^ from)))) → P (next_of x from)
  unfolding next_of
  by_next P none some = go (eqb (x / 2 ^ from) 0) refl
    where
      go : (b : Bool) → eqb (x / 2 ^ from) 0 ≡ b → P (cond b None (Some (from + low (x / 2 ^ from))))
      go true e = none (eqb-true _ _ e)
      go false e = some (omega (arith, eqb-false (x / 2 ^ from) 0 e))

  none_from : x / 2 ^ from ≡ 0 → (i : ℕ) → from ≤ i → has x i ≡ false
  none_from e i h = has_from i h ∙ ap (λ (n : ℕ). has n (i - from)) e ∙ has_none (i - from)

  has_low : 0 < x / 2 ^ from → has x (from + low (x / 2 ^ from)) ≡ true
  has_low h =
      let e : from + low (x / 2 ^ from) - from ≡ low (x / 2 ^ from) = omega arith in
      has_from _ (omega arith) ∙ ap (has (x / 2 ^ from)) e ∙ (low_lowest _ h).0

  -- where there is no next atom, none is left
  pub next_none : {r : Option ℕ} → r ≡ next_of x from → r ≡ None → (end : ℕ) → Clear x from end
  next_none is none =
      by_next (λ r. r ≡ None → (end : ℕ) → Clear x from end) (λ e told end i h l. none_from e i h) (λ h told. cc) (sym is ∙ none)

  -- the next atom is not below the place, it is in the set, and none from the place on lies below it
  pub next_some : {r : Option ℕ} {a : ℕ} → r ≡ next_of x from → r ≡ Some a → (from ≤ a) × (has x a ≡ true) × Clear x from a
  next_some {a = a} is some =
      by_next (λ r. r ≡ Some a → (from ≤ a) × (has x a ≡ true) × Clear x from a) (λ e told. cc) (λ h told.
      let at : from + low (x / 2 ^ from) ≡ a = cc in
      (omega arith, ap (has x) (sym at) ∙ has_low h, λ i l under. has_from i l ∙ (low_lowest _ h).1 (i - from) (omega arith)))
      (sym is ∙ some)

  next_empty : x / 2 ^ from ≡ 0 → None ≡ next_of x from
  next_empty e = by_next (λ r. None ≡ r) (λ z. refl) (λ h. let z : ⊥ = omega arith in absurd z)

  -- a word of k atoms that is not empty, under words p and s atoms above the place
  next_in : (k p w s : ℕ) → x / 2 ^ from ≡ (p * 2 ^ k + w) * 2 ^ s → 0 < w → w < 2 ^ k
      → Some (from + (s + count_trailing_zeros k w)) ≡ next_of x from
  next_in k p w s e some fits =
      let one : 1 ≤ p * 2 ^ k + w = omega arith in
      by_next (λ r. Some (from + (s + count_trailing_zeros k w)) ≡ r)
      (λ none. let z : ⊥ = omega (arith, e, pow_pos s, mul-le-mul_right (2 ^ s) one) in absurd z)
      (λ h. ap (λ (n : ℕ). Some (from + n)) (sym (ap low e ∙ low_words k p w s some fits)))

  next_told : not (eqb (x / 2 ^ from) 0) ≡ is_some (next_of x from)
  next_told =
      by_next (λ r. not (eqb (x / 2 ^ from) 0) ≡ is_some r) (λ e. ap not (eq-eqb _ 0 e)) (λ h. ap not (ne_eqb (x / 2 ^ from) 0 (λ e. omega (arith, e, h))))

-- ---- words of k atoms

-- words have an atom from n on just where there is a next one
pub above_next : (ws : List ℕ) (n : ℕ) → leb (2 ^ n) (set_of ws) ≡ is_some (next_of (set_of ws) n)
above_next ws n =
    ap (λ (m : ℕ). leb (2 ^ m) (set_of ws)) (sym (zero-add n)) ∙ above_from 64 ws 0 n ∙ next_told (set_of ws) n

up : (p a b : ℕ) → p * 2 ^ a * 2 ^ b ≡ p * 2 ^ (a + b)
up p a b = mul_assoc p (2 ^ a) (2 ^ b) ∙ ap (λ (n : ℕ). p * n) (sym (pow-add 2 a b))

module _ (k : ℕ) (ws : List ℕ) (from : ℕ) where
  next_word : (i : ℕ) → (i + 1) * k ≡ i * k + k
  next_word i = ap (λ (n : ℕ). n * k) (add-one i) ∙ suc-mul i k

  -- the atoms from the place on are those from word i on
  pub record Past (i : ℕ) : Type 0 where
    pub reached : from ≤ i * k
    pub rest : packed k ws / 2 ^ from ≡ packed k (drop i ws) * 2 ^ (i * k - from)

  pub past_none : (i : ℕ) → length ws ≤ i → Past i → None ≡ next_of (packed k ws) from
  past_none i h past = next_empty (packed k ws) from (past.rest ∙ ap (λ (n : ℕ). n * 2 ^ (i * k - from)) (left_none k ws i h) ∙ zero-mul _)

  module _ (i : ℕ) (h : i < length ws) (fits : get_or ws i 0 < 2 ^ k) where
    left : packed k (drop i ws) ≡ packed k (drop (i + 1) ws) * 2 ^ k + get_or ws i 0
    left = left_cons k ws i h ∙ ap (λ (n : ℕ). packed k (drop (i + 1) ws) * 2 ^ k + n) (mod-eq_of_lt fits)

    pub past_next : Past i → get_or ws i 0 ≡ 0 → Past (i + 1)
    past_next past e =
        let p = packed k (drop (i + 1) ws) in
        let empty : p * 2 ^ k + get_or ws i 0 ≡ p * 2 ^ k = omega arith in
        let above : k + (i * k - from) ≡ (i + 1) * k - from = omega (arith, next_word i, past.reached) in
        record {
          reached = omega (arith, next_word i, past.reached);
          rest = past.rest ∙ ap (λ (n : ℕ). n * 2 ^ (i * k - from)) (left ∙ empty) ∙ up p k (i * k - from) ∙ ap (λ (n : ℕ). p * 2 ^ n) above;
        }

    pub past_found : Past i → 0 < get_or ws i 0 → Some (i * k + count_trailing_zeros k (get_or ws i 0)) ≡ next_of (packed k ws) from
    past_found past some =
        let t = count_trailing_zeros k (get_or ws i 0) in
        let at : i * k + t ≡ from + (i * k - from + t) = omega (arith, past.reached) in
        ap Some at
        ∙ next_in (packed k ws) from k (packed k (drop (i + 1) ws)) (get_or ws i 0) (i * k - from) (past.rest ∙ ap (λ (n : ℕ). n * 2 ^ (i * k - from)) left) some fits

  -- ---- the place is atom u of word i

  module _ (whole : 0 < k) where
    abbrev i : ℕ
    i = from / k

    abbrev u : ℕ
    u = from % k

    at : from ≡ i * k + u
    at = sym (div-add-mod' from k)

    below : u < k
    below = mod-lt from whole

    in_word : packed k ws / 2 ^ from ≡ packed k (drop i ws) / 2 ^ u
    in_word =
        ap (λ (n : ℕ). packed k ws / 2 ^ n) at ∙ sym (shr-shr (packed k ws) (i * k) u) ∙ ap (λ (n : ℕ). n / 2 ^ u) (packed_shr k ws i)

    pub start_none : length ws ≤ i → None ≡ next_of (packed k ws) from
    start_none h = next_empty (packed k ws) from (in_word ∙ ap (λ (n : ℕ). n / 2 ^ u) (left_none k ws i h) ∙ zero-div _)

    module _ (h : i < length ws) (fits : get_or ws i 0 < 2 ^ k) where
      cut : packed k ws / 2 ^ from ≡ packed k (drop (i + 1) ws) * 2 ^ (k - u) + get_or ws i 0 / 2 ^ u
      cut =
          let p = packed k (drop (i + 1) ws) in
          let e : k - u + u ≡ k = omega (arith, below) in
          in_word ∙ ap (λ (n : ℕ). n / 2 ^ u) (left i h fits ∙ ap (λ (n : ℕ). n + get_or ws i 0) (sym (up p (k - u) u ∙ ap (λ (n : ℕ). p * 2 ^ n) e)))
          ∙ mul-add-div_right (pow_pos u) (p * 2 ^ (k - u)) (get_or ws i 0)

      pub start_past : get_or ws i 0 / 2 ^ u ≡ 0 → Past (i + 1)
      start_past e =
          let p = packed k (drop (i + 1) ws) in
          let empty : p * 2 ^ (k - u) + get_or ws i 0 / 2 ^ u ≡ p * 2 ^ (k - u) = omega arith in
          let above : k - u ≡ (i + 1) * k - from = omega (arith, next_word i, at) in
          record { reached = omega (arith, next_word i, at, below); rest = cut ∙ empty ∙ ap (λ (n : ℕ). p * 2 ^ n) above }

      pub start_found : 0 < get_or ws i 0 / 2 ^ u → Some (from + count_trailing_zeros k (get_or ws i 0 / 2 ^ u)) ≡ next_of (packed k ws) from
      start_found some =
          let w = get_or ws i 0 / 2 ^ u in
          let e : k ≡ k - u + u = omega (arith, below) in
          let short : w < 2 ^ (k - u) = shr_lt (k - u) u (subst (λ (n : ℕ). get_or ws i 0 < 2 ^ n) e fits) in
          ap (λ (n : ℕ). Some (from + n)) (sym (low_word k w some (lt_of_le_of_lt (shr_le (get_or ws i 0) u) fits)) ∙ low_word (k - u) w some short ∙ sym (zero-add _))
          ∙ next_in (packed k ws) from (k - u) (packed k (drop (i + 1) ws)) w 0 (cut ∙ sym (mul-one _)) some short
