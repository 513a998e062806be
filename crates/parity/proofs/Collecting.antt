-- Units written one after another: the turns of `enter_rows`.
use Prim.Native.Nat.{ℕ, suc, ◌+◌, ◌≤◌, ◌<◌}
use mathlib.Core.Path.{◌≡◌, refl, sym, ap, ◌∙◌}
use mathlib.Core.List.{List, [], ◌∷◌, ◌++◌, append-nil, map, map-append}
use mathlib.Core.Bool.{Bool, true, false, cond}
use native.Mathlib.Numerals.{add-one}
use native.Mathlib.Omega.{arith}
use borrow.Author.Tests.{eqb-true}
use lib.ListN.{length, get_or, take, drop, set, length-append, length-map, length-set}
use lib.Seq.{drop-cons, set_at, append_snoc}
use lib.Count.{ones}
use lib.Dec.{eqb}
use Rattle.words.specs.Set.{set_of}
use Rattle.words.specs.Set as sets
use Rattle.rows.specs.Row.{Row}
use Rattle.rows.specs.Flat.{width_of, row, row_at}
use Rattle.echelon.specs.Forward.{low}
use Rattle.parity.specs.Basis.{basis_of, units_of, unit_atoms_of, unit_values_of}
use Rattle.parity.specs.Named.{Named}
use Rattle.parity.specs.Unit.{unit_of}
use Rattle.std.specs.Prelude.{Option, Some, None}
use Rattle.parity.proofs.Ordinals.{basis_next}
use Rattle.parity.proofs.Unit.{size_row, low_row, value_row, units_snoc}

-- ---- one row more, of which an entry is written if it is a unit

module _ (f : Row → ℕ) (r : Row) (us : List Row) (l : List ℕ) (u v : ℕ) (so_far : u ≡ length us) (room : u < length l) where
  pushed : set (map f us ++ drop u l) u v ≡ map f us ++ (v ∷ []) ++ drop (u + 1) l
  pushed =
      let front : length (map f us) ≡ u = length-map us f ∙ sym so_far in
      ap (λ (m : List ℕ). set (map f us ++ m) u v) (drop-cons l u 0 room) ∙ set_at (map f us) (get_or l u 0) (drop (suc u) l) v u front
      ∙ sym (append_snoc (map f us) v (drop (suc u) l)) ∙ ap (λ (k : ℕ). map f us ++ (v ∷ []) ++ drop k l) (sym (add-one u))

  written : (t : Bool) → (t ≡ true → v ≡ f r) → (l' : List ℕ) → l' ≡ map f us ++ drop u l
      → cond t (set l' u v) l' ≡ map f (us ++ cond t (r ∷ []) []) ++ drop (cond t (u + 1) u) l
  written true value l' is =
      ap (λ (m : List ℕ). set m u v) is ∙ pushed
      ∙ ap (λ (m : List ℕ). m ++ drop (u + 1) l) (ap (λ (k : ℕ). map f us ++ (k ∷ [])) (value refl) ∙ sym (map-append f us (r ∷ [])))
  written false value l' is = is ∙ ap (λ (m : List Row). map f m ++ drop u l) (sym (append-nil us))

length_written : (t : Bool) (l : List ℕ) (u v : ℕ) → length (cond t (set l u v) l) ≡ length l
length_written true l u v = length-set l u v
length_written false l u v = refl

number_next : (t : Bool) (us : List Row) (r : Row) (u : ℕ) → u ≡ length us → cond t (u + 1) u ≡ length (us ++ cond t (r ∷ []) [])
number_next true us r u e = simp length-append (omega arith)
number_next false us r u e = e ∙ ap length (sym (append-nil us))

few_next : (t : Bool) (u j : ℕ) → u ≤ j → cond t (u + 1) u ≤ j + 1
few_next true u j h = omega arith
few_next false u j h = omega arith

-- after j turns: the units among the first j basis rows are written
pub record Collected (n : ℕ) (ws cs ps atoms values atoms' values' : List ℕ) (units j : ℕ) : Type 0 where
  pub few : units ≤ j
  pub kept : length atoms' ≡ length atoms
  pub kept' : length values' ≡ length values
  pub number : units ≡ length (units_of (basis_of n ws cs (take j ps)))
  pub named : atoms' ≡ unit_atoms_of (basis_of n ws cs (take j ps)) ++ drop units atoms
  pub valued : values' ≡ unit_values_of (basis_of n ws cs (take j ps)) ++ drop units values

module _ {n rank : ℕ} {ws cs ps atoms values atoms' values' : List ℕ} {units j : ℕ} (basis : Named n rank ws cs ps) (h : j < rank)
    (room : rank ≤ length atoms) (room' : rank ≤ length values) (so : Collected n ws cs ps atoms values atoms' values' units j) where
  abbrev x : ℕ
  x = set_of (row (width_of n) ws (get_or ps j 0))

  abbrev value : ℕ
  value = get_or cs (get_or ps j 0) 0

  abbrev r : Row
  r = row_at n (width_of n) ws cs (get_or ps j 0)

  next_units : units_of (basis_of n ws cs (take (j + 1) ps)) ≡ units_of (basis_of n ws cs (take j ps)) ++ cond (eqb (ones x) 1) (r ∷ []) []
  next_units =
      let rs = basis_of n ws cs (take j ps) in
      let there : j < length ps = omega (arith, basis.entries) in
      ap units_of (basis_next n ws cs ps j there) ∙ units_snoc rs r
      ∙ ap (λ (k : ℕ). units_of rs ++ cond (eqb k 1) (r ∷ []) []) (size_row n (width_of n) ws cs (get_or ps j 0) (basis.legible j h).below)

  next : let t = eqb (ones x) 1 in
      Collected n ws cs ps atoms values (cond t (set atoms' units (sets.low x)) atoms') (cond t (set values' units value) values') (cond t (units + 1) units) (j + 1)
  next =
      let us = units_of (basis_of n ws cs (take j ps)) in
      let t = eqb (ones x) 1 in
      let free : units < length atoms = omega (arith, so.few) in
      let free' : units < length values = omega (arith, so.few) in
      let entry : t ≡ true → sets.low x ≡ low r.atoms = λ e. sym (low_row n (width_of n) ws cs (get_or ps j 0) (eqb-true (ones x) 1 e) (basis.legible j h).below) in
      let constant : t ≡ true → value ≡ cond r.constant 1 0 = λ e. sym (value_row n (width_of n) ws cs (get_or ps j 0) (basis.legible j h).constant) in
      record {
        few = few_next t units j so.few;
        kept = length_written t atoms' units (sets.low x) ∙ so.kept;
        kept' = length_written t values' units value ∙ so.kept';
        number = number_next t us r units so.number ∙ ap length (sym next_units);
        named =
            written (λ (q : Row). low q.atoms) r us atoms units (sets.low x) so.number free t entry atoms' so.named
            ∙ ap (λ (l : List Row). map (λ (q : Row). low q.atoms) l ++ drop (cond t (units + 1) units) atoms) (sym next_units);
        valued =
            written (λ (q : Row). cond q.constant 1 0) r us values units value so.number free' t constant values' so.valued
            ∙ ap (λ (l : List Row). map (λ (q : Row). cond q.constant 1 0) l ++ drop (cond t (units + 1) units) values) (sym next_units);
      }

  pub collected_unit : {atom constant : ℕ} → ◌≡◌ {A = Option (ℕ × ℕ)} (Some (atom, constant)) (unit_of x value)
      → Collected n ws cs ps atoms values (set atoms' units atom) (set values' units constant) (units + 1) (j + 1)
  collected_unit {atom} {constant} is = go (eqb (ones x) 1) is next
    where
      go : (t : Bool) → ◌≡◌ {A = Option (ℕ × ℕ)} (Some (atom, constant)) (cond t (Some (sets.low x, value)) None)
          → Collected n ws cs ps atoms values (cond t (set atoms' units (sets.low x)) atoms') (cond t (set values' units value) values') (cond t (units + 1) units) (j + 1)
          → Collected n ws cs ps atoms values (set atoms' units atom) (set values' units constant) (units + 1) (j + 1)
      go true e all =
          let pair : ◌≡◌ {A = ℕ × ℕ} (atom, constant) (sets.low x, value) = cc in
          rw (ap (λ (p : ℕ × ℕ). p.0) pair, ap (λ (p : ℕ × ℕ). p.1) pair) all
      go false e all = let z : ◌≡◌ {A = ℕ} 0 1 = cc in absurd (omega arith)

  pub collected_other : ◌≡◌ {A = Option (ℕ × ℕ)} None (unit_of x value) → Collected n ws cs ps atoms values atoms' values' units (j + 1)
  collected_other is = go (eqb (ones x) 1) is next
    where
      go : (t : Bool) → ◌≡◌ {A = Option (ℕ × ℕ)} None (cond t (Some (sets.low x, value)) None)
          → Collected n ws cs ps atoms values (cond t (set atoms' units (sets.low x)) atoms') (cond t (set values' units value) values') (cond t (units + 1) units) (j + 1)
          → Collected n ws cs ps atoms values atoms' values' units (j + 1)
      go true e all = let z : ◌≡◌ {A = ℕ} 0 1 = cc in absurd (omega arith)
      go false e all = all
