-- `inspect_fit` as a whole: what the touched rows come to.
use Prim.Native.Nat.{ℕ, zero, suc, ◌≤◌, ◌<◌}
use mathlib.Core.Path.{◌≡◌, refl, sym, ap, ap₂, subst, ◌∙◌}
use mathlib.Core.List.{List, [], ◌∷◌, map, zip_with}
use mathlib.Core.Bool.{Bool, true, false, cond, xor, ◌&&◌, beq}
use native.Mathlib.Omega.{arith}
use borrow.Author.Tests.{ne_eqb}
use lib.ListN.{length, get_or, drop, length-map, get_or-append}
use lib.Dec.{eqb}
use Rattle.rows.specs.Row.{Row, overlap}
use Rattle.words.specs.Set.{set_of}
use Rattle.rows.specs.Flat.{atoms_of}
use Rattle.refusal.specs.Refusal.{answered, left}
use Rattle.refusal.specs.declared.Refusal.{Refusal}
use Rattle.echelon.specs.Forward.{low}
use Rattle.parity.specs.declared.System.{System}
use Rattle.region.specs.Masks.{decisions, is_held, is_open}
use Rattle.region.specs.declared.Region.{Region}
use Rattle.region.proofs.Masked.{decisions_length}
use Rattle.snapshot.specs.Touch.{touched_of, ordinals_of}
use Rattle.snapshot.specs.declared.Ordinals.{Ordinals}
use Rattle.snapshot.specs.declared.Snapshot.{Snapshot}
use Rattle.snapshot.proofs.Chosen.{touched_length, chosen_atoms}
use Rattle.std.specs.Prelude.{Some, None, Result, Ok, Err}
use Rattle.inspect.specs.declared.Contradiction.{Contradiction}
use Rattle.inspect.specs.declared.Inspected.{Inspected}
use Rattle.inspect.specs.declared.Step.{Step}
use Rattle.inspect.specs.declared.Step.TheVariants.{Unchanged, Refuted}
use Rattle.inspect.specs.Consequences.{Reading, Consequences, says_by, reading_of, joins, consequences, wrong}
use Rattle.inspect.specs.Batch.{begun, applied}
use Rattle.inspect.specs.Inspect.{Filled, told_of, Outcome, outcome, atoms_from, values_from, ended, concluded, found, inspect_check, inspected, inspect_of}
use Rattle.inspect.specs.Promises.{basis_in}
use Rattle.parity.specs.Named.{Named}
use Rattle.parity.proofs.Naming.{named_of}
use Rattle.inspect.specs.Steps.{Gathered, Applicable, forced_in}
use Rattle.inspect.proofs.Fits.{Fits, checked_fits}
use Rattle.inspect.proofs.Following.{chosen}
use Rattle.inspect.proofs.Applying.{forced_back}

-- ---- the forced list

-- a row with an open atom has its lowest among the atoms
low_below : (r free : List Bool) → 0 < overlap r free → low (zip_with ◌&&◌ r free) < length free
unfolding zip_with
low_below [] free h = let z : ⊥ = omega arith in absurd z
low_below (b ∷ r) [] h = let z : ⊥ = omega arith in absurd z
low_below (true ∷ r) (true ∷ free) h = omega arith
low_below (true ∷ r) (false ∷ free) h = omega (arith, low_below r free h)
low_below (false ∷ r) (b ∷ free) h = omega (arith, low_below r free h)

abbrev pub Below : ℕ → List (ℕ × Bool) → Type 0
Below n fs = (i : ℕ) → i < length fs → get_or (map (λ (f : ℕ × Bool). f.0) fs) i 0 < n

cons_below : (n : ℕ) (f : ℕ × Bool) (fs : List (ℕ × Bool)) → f.0 < n → Below n fs → Below n (f ∷ fs)
cons_below n f fs this rest zero h = this
cons_below n f fs this rest (suc i) h = rest i (omega arith)

joins_below : (held free : List Bool) (r : Row) (c : Consequences) → Below (length free) c.forced
    → Below (length free) (joins (reading_of held free r) c).forced
unfolding reading_of
joins_below held free r c rest = go (overlap r.atoms free) _ _ refl
  where
    go : (k : ℕ) (parity constant : Bool) → overlap r.atoms free ≡ k
        → Below (length free) (joins (says_by k parity constant (low (zip_with ◌&&◌ r.atoms free))) c).forced
    go zero parity constant e =
        chosen (λ (q : Reading). Below (length free) (joins q c).forced) (beq parity constant) (Ok None) (Err wrong) (λ t. rest)
        (λ t i h. let z : ⊥ = omega arith in absurd z)
    go (suc zero) parity constant e =
        let atom = low (zip_with ◌&&◌ r.atoms free) in
        cons_below (length free) (atom, xor constant parity) c.forced (low_below r.atoms free (omega arith)) rest
    go (suc (suc k)) parity constant e = rest

-- every forced atom is one of the region's
pub forced_below : (held free ts : List Bool) (rs : List Row) → Below (length free) (consequences held free ts rs).forced
unfolding consequences
forced_below held free [] rs = λ i h. let z : ⊥ = omega arith in absurd z
forced_below held free (t ∷ ts) [] = λ i h. let z : ⊥ = omega arith in absurd z
forced_below held free (t ∷ ts) (r ∷ rs) =
    let rest = forced_below held free ts rs in
    chosen (λ (c : Consequences). Below (length free) c.forced) t _ _ (λ e. joins_below held free r _ rest) (λ e. rest)

-- and there is at most one for each row that is looked at
joins_few : (q : Reading) (c : Consequences) → length (joins q c).forced ≤ suc (length c.forced)
joins_few (Ok None) c = omega arith
joins_few (Ok (Some f)) c = omega arith
joins_few (Err e) c = omega arith

pub forced_few : (held free ts : List Bool) (rs : List Row) → length (consequences held free ts rs).forced ≤ length ts
unfolding consequences
forced_few held free [] rs = omega arith
forced_few held free (t ∷ ts) [] = omega arith
forced_few held free (t ∷ ts) (r ∷ rs) =
    let rest = consequences held free ts rs in
    chosen (λ (c : Consequences). length c.forced ≤ suc (length ts)) t (joins (reading_of held free r) rest) rest
    (λ e. omega (arith, joins_few (reading_of held free r) rest, forced_few held free ts rs)) (λ e. omega (arith, forced_few held free ts rs))

-- ---- what the parts ask

-- each basis entry names a row that can be read
pub fits_named : (s : System) (l : Filled) (r : Region) (known : Snapshot) (atoms values : ℕ) → Fits s l r known atoms values
    → Named s.atoms s.rank l.rows l.constants l.basis
fits_named s l r known atoms values fits =
    named_of s.atoms s.rows s.rank l.rows l.constants l.basis fits.lent fits.ranked fits.entries fits.named

-- ---- the call

abbrev pub Answer : Type 0
Answer = Result Inspected Refusal

module _ (s : System) (l : Filled) (r : Region) (known : Snapshot) (atoms values : List ℕ) where
  abbrev whole : Outcome Inspected
  whole = inspected s l r known atoms values

  abbrev c : Consequences
  c = found s l r known

  abbrev written : Outcome Inspected
  written = outcome (concluded c r known) (atoms_from c.forced atoms) (values_from c.forced values)

  abbrev unread : Step → Outcome Inspected
  unread step = outcome (told_of step 0 0 0 r known) atoms values

  -- "refuted system, Refuted": what fit input comes to, and so the call's answer
  pub refuted_unread : s.refuted ≡ true → unread Refuted ≡ whole
  refuted_unread t = sym (ap (λ (b : Bool). cond b (unread Refuted) (cond (eqb s.rank 0) (unread Unchanged) written)) t)

  pub refuted_is : inspect_check s l r known (length atoms) (length values) ≡ Ok tt → s.refuted ≡ true
      → outcome {R = Answer} (Ok (told_of Refuted 0 0 0 r known)) atoms values ≡ inspect_of s l r known atoms values
  unfolding inspect_of
  refuted_is fine t =
      ap (λ (p : Outcome Inspected). outcome {R = Answer} (Ok p.result) p.atoms p.values) (refuted_unread t)
      ∙ ap (λ check. outcome (answered check whole.result) (left check whole.atoms atoms) (left check whole.values values)) (sym fine)

  abbrev by : Bool → Inspected
  by b = cond b (ended (applied (begun (decisions r)) c.forced) (length c.forced) r) (told_of Refuted 0 0 (length c.forced) r known)

  -- fit input, a sound system with a basis, and what its touched rows say collected
  pub record Collected (touched : Ordinals) (collected : Result ℕ Contradiction) (atoms' values' : List ℕ) : Type 0 where
    pub fine : inspect_check s l r known (length atoms) (length values) ≡ Ok tt
    pub sound : s.refuted ≡ false
    pub some : s.rank ≡ 0 → ⊥
    pub selected : touched ≡ ordinals_of (touched_of s.rank l.index r known)
    pub gathered : Gathered (consequences (map is_held (decisions r)) (map is_open (decisions r)) (atoms_of s.rank (set_of touched.words)) (basis_in s l)) collected atoms values atoms' values'

  module _ {touched : Ordinals} {collected : Result ℕ Contradiction} {atoms' values' : List ℕ} (given : Collected touched collected atoms' values') where
    fit : Fits s l r known (length atoms) (length values)
    fit = checked_fits s l r known (length atoms) (length values) given.fine

    -- by the ordinals that are selected, which are the touched rows of the definition
    gathered : Gathered c collected atoms values atoms' values'
    gathered =
        subst (λ (ts : List Bool). Gathered (consequences (map is_held (decisions r)) (map is_open (decisions r)) ts (basis_in s l)) collected atoms values atoms' values')
        (ap (λ (o : Ordinals). atoms_of s.rank (set_of o.words)) given.selected
        ∙ chosen_atoms s.rank (touched_of s.rank l.index r known) (touched_length s.rank l.index r known) (omega (arith, fit.ranked, fit.lent.atoms)))
        given.gathered

    -- what they come to is the answer
    read : (b : Bool) → c.sound ≡ b → (i : Inspected) → i ≡ by b → outcome {R = Answer} (Ok i) atoms' values' ≡ inspect_of s l r known atoms values
    unfolding inspect_of
    read b w i is =
        ap (λ (p : Outcome Inspected). outcome {R = Answer} (Ok p.result) p.atoms p.values)
        (ap (λ (j : Inspected). outcome j atoms' values') is ∙ ap (λ (t : Bool). outcome (by t) atoms' values') (sym w)
        ∙ ap₂ (outcome (concluded c r known)) gathered.atoms_are gathered.values_are
        ∙ sym (ap (λ (t : Bool). cond t (unread Unchanged) written) (ne_eqb s.rank 0 given.some))
        ∙ sym (ap (λ (b : Bool). cond b (unread Refuted) (cond (eqb s.rank 0) (unread Unchanged) written)) given.sound))
        ∙ ap (λ check. outcome (answered check whole.result) (left check whole.atoms atoms) (left check whole.values values)) (sym given.fine)

    -- "no open atom and wrong parity, Refuted, unpublished"
    pub wrong_is : (e : Contradiction) → collected ≡ Err e → outcome {R = Answer} (Ok (told_of Refuted 0 0 e.forced r known)) atoms' values' ≡ inspect_of s l r known atoms values
    wrong_is e w = go c.sound refl (sym w ∙ gathered.is)
      where
        go : (b : Bool) → c.sound ≡ b → ◌≡◌ {A = Result ℕ Contradiction} (Err e) (cond b (Ok (length c.forced)) (Err (record { forced = length c.forced })))
            → outcome {R = Answer} (Ok (told_of Refuted 0 0 e.forced r known)) atoms' values' ≡ inspect_of s l r known atoms values
        go true t is = cc
        go false t is =
            let same : e.forced ≡ length c.forced = cc in
            read false t _ (ap (λ (n : ℕ). told_of Refuted 0 0 n r known) same)

    module _ (forced : ℕ) (fine : collected ≡ Ok forced) where
      whole_list : (c.sound ≡ true) × (forced ≡ length c.forced)
      whole_list = go c.sound refl (sym fine ∙ gathered.is)
        where
          go : (b : Bool) → c.sound ≡ b → ◌≡◌ {A = Result ℕ Contradiction} (Ok forced) (cond b (Ok (length c.forced)) (Err (record { forced = length c.forced })))
              → (c.sound ≡ true) × (forced ≡ length c.forced)
          go true t is = (t, cc)
          go false t is = cc

      number : forced ≡ length c.forced
      number = whole_list.1

      few : forced ≤ s.rank
      few =
          let p = decisions r in
          omega (arith, number, touched_length s.rank l.index r known, forced_few (map is_held p) (map is_open p) (touched_of s.rank l.index r known) (basis_in s l))

      atoms_below : (i : ℕ) → i < forced → get_or atoms' i 0 < r.atoms
      atoms_below i h =
          let named = map (λ (f : ℕ × Bool). f.0) c.forced in
          let free : length (map is_open (decisions r)) ≡ r.atoms = length-map (decisions r) is_open ∙ decisions_length r in
          let inside : i < length c.forced = omega (arith, number) in
          let within : i < length named = omega (arith, length-map c.forced (λ (f : ℕ × Bool). f.0)) in
          let entry = ap (λ (l : List ℕ). get_or l i 0) gathered.atoms_are ∙ get_or-append named (drop (length c.forced) atoms) 0 i within in
          omega (arith, free, entry, forced_below (map is_held (decisions r)) (map is_open (decisions r)) _ _ i inside)

      -- the list can be applied
      pub applicable : length atoms' ≡ length atoms → length values' ≡ length values → Applicable r forced atoms' values'
      applicable same_atoms same_values = record {
        fit = fit.region;
        few = omega (arith, few, fit.ranked, fit.lent.atoms);
        atoms_room = omega (arith, few, fit.atoms_room);
        values_room = omega (arith, few, fit.values_room);
        below = atoms_below;
      }

      forced_is : forced_in atoms' values' forced ≡ c.forced
      forced_is = rw (gathered.atoms_are, gathered.values_are, number) (forced_back c.forced atoms values)

      -- "Then publish the region as it came, and apply the list in order"
      pub applied_is : outcome {R = Answer} (Ok (ended (applied (begun (decisions r)) (forced_in atoms' values' forced)) forced r)) atoms' values' ≡ inspect_of s l r known atoms values
      applied_is = read true whole_list.0 _ (ap₂ (λ (fs : List (ℕ × Bool)) (n : ℕ). ended (applied (begun (decisions r)) fs) n r) forced_is number)
