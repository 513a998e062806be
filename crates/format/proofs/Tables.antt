-- A table's words in an array of four: there are at most four, and above the limit of k they do not matter. What is told of a table that is fit.
use Prim.Native.Nat.{ℕ, ◌≤◌, ◌<◌, min}
use mathlib.Core.Path.{◌≡◌, sym, ap, ◌∙◌}
use mathlib.Core.List.{List}
use native.Mathlib.Decide.{dec_le}
use native.Mathlib.Omega.{arith}
use lib.Pow.{pow_mono}
use Rattle.std.specs.Prelude.{Result, Ok}
use Rattle.refusal.specs.declared.Refusal.{Refusal}
use Rattle.hull.specs.Equations.{hull_of}
use Rattle.hull.specs.Propose.{limit, table_words, told, proposal_of}
use Rattle.hull.specs.declared.Hull.{Hull}
use Rattle.hull.proofs.Told.{large, fit}
use Rattle.format.specs.Bytes.{list_from}
use Rattle.format.specs.Format.{k_at, table_word_at, table_at}
use Rattle.format.proofs.Listing.{list_length}

pub few_words : (k : ℕ) → table_words (min k limit) ≤ 4
few_words k = omega (arith, pow_mono {i = min k limit} {j = 8} (omega arith))

pub table_read : (number : ℕ → ℕ) (l : List ℕ) {k j n : ℕ} → k ≡ j → n ≡ table_words (min k limit) → l ≡ list_from number 0 n
    → proposal_of limit k l ≡ proposal_of limit j (list_from number 0 (table_words j))
table_read number l {k} {j} {n} same e is = by (dec_le k limit) ∙ ap (λ (i : ℕ). proposal_of limit i (list_from number 0 (table_words i))) same
  where
    by : Dec (k ≤ limit) → proposal_of limit k l ≡ proposal_of limit k (list_from number 0 (table_words k))
    by (yes h) =
        let all : min k limit ≡ k = omega arith in
        ap (proposal_of limit k) (is ∙ ap (list_from number 0) (e ∙ ap table_words all))
    by (no z) =
        let above : limit < k = omega arith in
        large k l above ∙ sym (large k (list_from number 0 (table_words k)) above)

-- a table whose size is fit is told by its hull
module _ (file : List ℕ) (o : ℕ) (few : k_at file o ≤ limit) where
  abbrev says : Result Hull Refusal
  says = proposal_of limit (k_at file o) (table_at file o)

  abbrev hull : Hull
  hull = told limit (hull_of (k_at file o) (table_at file o))

  pub table_fit : says ≡ Ok hull
  table_fit = fit (k_at file o) (table_at file o) few (list_length (table_word_at file o) 0 (table_words (k_at file o)))

  same : (h : Hull) → ◌≡◌ {A = Result Hull Refusal} (Ok h) (Ok hull) → h ≡ hull
  same h e = cc

  pub table_told : (h : Hull) → says ≡ Ok h → h ≡ hull
  table_told h e = same h (sym e ∙ table_fit)
