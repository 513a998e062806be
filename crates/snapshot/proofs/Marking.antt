-- The rows that the columns of a set's atoms mark, joined for one atom after the other.
use Prim.Native.Nat.{ℕ, zero, suc, ◌+◌, ◌≤◌, ◌<◌}
use mathlib.Core.Path.{◌≡◌, refl, sym, ap, ap₂, ◌∙◌}
use mathlib.Core.List.{List, []}
use mathlib.Core.Bool.{Bool, true, false, ◌&&◌, ◌||◌, or-false, or_assoc}
use native.Mathlib.Numerals.{add-one}
use native.Mathlib.Omega.{arith}
use borrow.Author.Tests.{eqb-true, eqb-false}
use lib.Arith.{lt_of_le-ne}
use lib.ListN.{length}
use lib.Dec.{eqb}
use Rattle.std.specs.Prelude.{Option, Some, None, unwrap_or}
use Rattle.words.specs.Set.{packed, set_of, has}
use Rattle.words.proofs.Meaning.{has_none}
use Rattle.rows.specs.Calls.{part_of}
use Rattle.region.specs.Visit.{Clear}
use Rattle.region.specs.declared.Atoms.{Atoms}
use Rattle.region.proofs.Visiting.{Given}
use Rattle.snapshot.specs.Steps.{Adds}
use Rattle.snapshot.specs.Touch.{marked, marks}

module _ (w : ℕ) (index : List ℕ) (j : ℕ) where
  -- the same atoms mark the same rows
  pub marks_same : (f g : ℕ → Bool) (n : ℕ) → ((a : ℕ) → f a ≡ g a) → marks f w index j n ≡ marks g w index j n
  unfolding marks
  marks_same f g zero same = refl
  marks_same f g (suc n) same =
      ap₂ (λ (p q : Bool). p || (q && marked w index n j)) (marks_same f g n same) (same n)

  -- atoms that are not there mark nothing
  pub marks_on : (f : ℕ → Bool) (b n : ℕ) → b ≤ n → ((a : ℕ) → b ≤ a → a < n → f a ≡ false) → marks f w index j n ≡ marks f w index j b
  unfolding marks
  marks_on f b zero h none = let e : b ≡ 0 = omega arith in sym (ap (marks f w index j) e)
  marks_on f b (suc n) h none = go (eqb b (suc n)) refl (λ l. marks_on f b n l (λ a p q. none a p (omega arith)))
    where
      go : (t : Bool) → eqb b (suc n) ≡ t → (b ≤ n → marks f w index j n ≡ marks f w index j b) → marks f w index j (suc n) ≡ marks f w index j b
      go true e earlier = sym (ap (marks f w index j) (eqb-true b (suc n) e))
      go false e earlier =
          let l : b ≤ n = let lt = lt_of_le-ne h (eqb-false b (suc n) e) in omega arith in
          ap (λ (t : Bool). marks f w index j n || (t && marked w index n j)) (none n l (omega arith)) ∙ or-false _ ∙ earlier l

  marks_one : (f : ℕ → Bool) (a : ℕ) → f a ≡ true → marks f w index j (a + 1) ≡ (marks f w index j a || marked w index a j)
  unfolding marks
  marks_one f a e =
      ap (marks f w index j) (add-one a) ∙ ap (λ (t : Bool). marks f w index j a || (t && marked w index a j)) e

-- a column that is there marks its rows, and one that is not marks none
module _ (w : ℕ) (index : List ℕ) (a : ℕ) (rows : List ℕ) where
  pub marks_there : (rows' column : List ℕ) → Some column ≡ part_of w index a → Adds rows (has (set_of column)) rows' → Adds rows (marked w index a) rows'
  marks_there rows' column is joins j h =
      joins j h ∙ ap (λ (o : Option (List ℕ)). has (set_of rows) j || has (set_of (unwrap_or o [])) j) is

  pub marks_absent : None ≡ part_of w index a → Adds rows (marked w index a) rows
  unfolding packed
  marks_absent is j h =
      sym (or-false _) ∙ ap (λ (t : Bool). has (set_of rows) j || t) (sym (has_none j))
      ∙ ap (λ (o : Option (List ℕ)). has (set_of rows) j || has (set_of (unwrap_or o [])) j) is

-- the columns of the atoms below `from` are joined
pub record Marked (x w : ℕ) (index rows : List ℕ) (from : ℕ) (rows' : List ℕ) : Type 0 where
  pub kept : length rows' ≡ length rows
  pub joined : Adds rows (λ j. marks (has x) w index j from) rows'

pub marked_start : (x w : ℕ) (index rows : List ℕ) (from : ℕ) → from ≡ 0 → Marked x w index rows from rows
unfolding marks
marked_start x w index rows from none = rw none (record { kept = refl; joined = λ j h. sym (or-false _) })

module _ {x w from : ℕ} {index rows rows' : List ℕ} (m : Marked x w index rows from rows') where
  -- where none is left below a
  pub marked_end : (a : ℕ) → from ≤ a → Clear x from a → Adds rows (λ j. marks (has x) w index j a) rows'
  marked_end a le passed j l = m.joined j l ∙ ap (λ (t : Bool). has (set_of rows) j || t) (sym (marks_on w index j (has x) from a le passed))

module _ {s t : Atoms} {atoms index rows rows' : List ℕ} {n a w : ℕ} (step : Given s t atoms n a) (m : Marked (set_of atoms) w index rows s.from rows') where
  -- where a visit gives atom a, and its column is joined
  pub marked_next : {rows'' : List ℕ} → length rows'' ≡ length rows' → Adds rows' (marked w index a) rows'' → Marked (set_of atoms) w index rows t.from rows''
  marked_next same joins = rw step.after (record {
    kept = same ∙ m.kept;
    joined = λ j l.
        joins j (omega (arith, m.kept)) ∙ ap (λ (b : Bool). b || marked w index a j) (marked_end m a step.reached step.passed j l)
        ∙ or_assoc (has (set_of rows) j) (marks (has (set_of atoms)) w index j a) (marked w index a j)
        ∙ ap (λ (b : Bool). has (set_of rows) j || b) (sym (marks_one w index j (has (set_of atoms)) a step.found));
  })
