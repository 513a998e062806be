-- The offsets of a file's records: there is one at every offset within it, and the next ones follow.
use Prim.Native.Nat.{ℕ, zero, suc, ◌+◌, ◌≤◌, ◌<◌}
use mathlib.Core.Path.{◌≡◌, refl, sym, ap, ◌∙◌}
use mathlib.Core.List.{List, [], ◌∷◌}
use native.Mathlib.Decide.{dec_le}
use native.Mathlib.Omega.{arith}
use borrow.Author.Tests.{lt-ltb, le-ltb}
use lib.ListN.{length}
use Rattle.format.specs.Format.{next_at}
use Rattle.format.specs.Starts.{starts_from, starts}

module _ (file : List ℕ) where
  -- the next record lies further on, and no further than the end
  pub next_after : (o : ℕ) → o < length file → o < next_at file o
  next_after o h = omega arith

  none_left : (fuel o : ℕ) → length file ≤ o → starts_from fuel file o ≡ []
  unfolding starts_from
  none_left zero o h = refl
  none_left (suc f) o h = rw (le-ltb o (length file) h)

  one_more : (fuel o : ℕ) → o < length file → starts_from (suc fuel) file o ≡ o ∷ starts_from fuel file (next_at file o)
  unfolding starts_from
  one_more f o h = rw (lt-ltb o (length file) h)

  -- the fuel does not matter where there is enough of it
  enough : (f g o : ℕ) → length file ≤ o + f → length file ≤ o + g → starts_from f file o ≡ starts_from g file o
  enough zero g o h k = none_left zero o (omega arith) ∙ sym (none_left g o (omega arith))
  enough (suc f) zero o h k = none_left (suc f) o (omega arith) ∙ sym (none_left zero o (omega arith))
  enough (suc f) (suc g) o h k = by (dec_le (length file) o) (enough f g (next_at file o))
    where
      by : Dec (length file ≤ o)
          → (length file ≤ next_at file o + f → length file ≤ next_at file o + g → starts_from f file (next_at file o) ≡ starts_from g file (next_at file o))
          → starts_from (suc f) file o ≡ starts_from (suc g) file o
      by (yes n) rest = none_left (suc f) o n ∙ sym (none_left (suc g) o n)
      by (no z) rest =
          let n : o < length file = omega arith in
          one_more f o n ∙ ap (λ (l : List ℕ). o ∷ l) (rest (omega (arith, next_after o n)) (omega (arith, next_after o n))) ∙ sym (one_more g o n)

  pub starts_nil : (o : ℕ) → length file ≤ o → starts file o ≡ []
  unfolding starts
  starts_nil o h = none_left (length file) o h

  pub starts_cons : (o : ℕ) → o < length file → starts file o ≡ o ∷ starts file (next_at file o)
  unfolding starts
  starts_cons o h =
      enough (length file) (suc (length file)) o (omega arith) (omega arith) ∙ one_more (length file) o h
