-- Bytes of text, and what writing them into lent memory leaves.
use Rattle.std.specs.Prelude.{ℕ, zero, suc, ◌+◌, ◌/◌, ◌%◌, min, ◌≡◌, List, [], ◌∷◌, ◌++◌, cond, length, ltb}
use Rattle.std.proofs.lemmas.List.Edits.{sets}

-- "decimal": the digits of a number, the first one not 0 but in 0 itself. (A number n has at most n + 1 of them.)
unfoldable pub digits_from : ℕ → ℕ → List ℕ
digits_from zero n = (48 + n % 10) ∷ []
digits_from (suc fuel) n = cond (ltb n 10) ((48 + n) ∷ []) (digits_from fuel (n / 10) ++ ((48 + n % 10) ∷ []))

unfoldable pub decimal_of : ℕ → List ℕ
unfolding digits_from
decimal_of n = digits_from n n

-- Words with a number, or two, between them.
abbrev pub one_of : List ℕ → ℕ → List ℕ → List ℕ
one_of first a last = first ++ (decimal_of a ++ last)

abbrev pub two_of : List ℕ → ℕ → List ℕ → ℕ → List ℕ → List ℕ
two_of first a middle b last = one_of first a (one_of middle b last)

-- The bytes s written into l from place p on, as far as l reaches: m is what l holds then, and q the place after them, or l's end.
pub record Wrote (l : List ℕ) (p : ℕ) (s : List ℕ) (m : List ℕ) (q : ℕ) : Type 0 where
  pub place : q ≡ min (p + length s) (length l)
  pub bytes : m ≡ sets l p s
