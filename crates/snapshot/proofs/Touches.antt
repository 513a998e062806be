-- The rows that decisions touch: which rows the columns mark, and what the atoms in (held or cut) XOR old held XOR old cut are where no
-- number refuses. With an index from preparation the touched rows are then those that have an atom decided since.
use Prim.Native.Nat.{ℕ, zero, suc, ◌*◌, ◌≤◌, ◌<◌, min}
use mathlib.Core.Path.{◌≡◌, refl, sym, ap, ap₂, ◌∙◌}
use mathlib.Core.Logic.{◌↔◌}
use mathlib.Core.List.{List, []}
use mathlib.Core.Bool.{Bool, true, false, not, xor, ◌&&◌, ◌||◌, and-eq-true_iff, true≢false, false≢true}
use mathlib.Core.Option.{none}
use native.Mathlib.Omega.{arith}
use borrow.Author.Tests.{ltb-true, ltb-false, lt-ltb, eqb-true, not-true, not-false}
use lib.ListN.{length, get_or, get_or-eq_default}
use lib.Dec.{ltb, eqb}
use Rattle.std.specs.Prelude.{Option, unwrap_or}
use Rattle.words.specs.Set.{set_of, has, subset}
use Rattle.words.proofs.Meaning.{subset_holds}
use Rattle.rows.specs.Row.{has_atom}
use Rattle.rows.specs.Flat.{row}
use Rattle.rows.specs.Calls.{part_of}
use Rattle.rows.specs.declared.Atom.{Atom}
use Rattle.fit.specs.Rows.{overfull}
use Rattle.std.proofs.lemmas.Bool.{or_parts}
use Rattle.fit.proofs.Among.{any_found}
use Rattle.std.specs.Prelude.{Ok}
use Rattle.refusal.specs.Refusal.{left}
use Rattle.fit.proofs.Fitting.{passed}
use Rattle.index.specs.Index.{column_width}
use Rattle.index.specs.Column.{over_rank, column_check, wanted_column}
use Rattle.index.proofs.Wanted.{wanted_part}
use Rattle.parity.specs.Prepare.{Lent, prepare_check, prepared}
use Rattle.parity.specs.Promises.{row_left}
use Rattle.parity.specs.declared.System.{System}
use Rattle.parity.proofs.Telling.{column_tells}
use Rattle.parity.proofs.Refit.{prepare_fits}
use Rattle.region.specs.Masks.{decision, decisions, is_open}
use Rattle.region.specs.Calls.{strayed, clashes, region_check}
use Rattle.region.specs.declared.Region.{Region}
use Rattle.region.proofs.Masked.{Fitting, fitting, decisions_length, decision_at}
use Rattle.snapshot.specs.Knowledge.{overfull_by, unequal, missing}
use Rattle.snapshot.specs.Touch.{newly, marked, marks, touched_check}
use Rattle.snapshot.specs.Promises.{old_decisions, NewlyDecided, Touches, TouchedExact}
use Rattle.snapshot.specs.declared.Snapshot.{Snapshot}
use Rattle.snapshot.proofs.Chained.{and_none}
use Rattle.snapshot.proofs.Chosen.{touched_at}

-- ---- the rows that columns mark

module _ (atoms : ℕ → Bool) (w : ℕ) (index : List ℕ) (j : ℕ) where
  -- whether atom a is one of them and its column has the row
  abbrev pub marks_at : ℕ → Bool
  marks_at a = atoms a && marked w index a j

  pub marks_start : marks atoms w index j 0 ≡ false
  unfolding marks
  marks_start = refl

  pub marks_more : (n : ℕ) → marks atoms w index j (suc n) ≡ (marks atoms w index j n || marks_at n)
  unfolding marks
  marks_more n = refl

  pub marks_found : (n a : ℕ) → a < n → atoms a ≡ true → marked w index a j ≡ true → marks atoms w index j n ≡ true
  marks_found n a h e f = any_found (marks atoms w index j) marks_at marks_start marks_more n a h (ap₂ ◌&&◌ e f)

  abbrev pub SomeMark : ℕ → Type 0
  SomeMark n = (a : ℕ) × (a < n) × (atoms a ≡ true) × (marked w index a j ≡ true)

  pub marks_some : (n : ℕ) → marks atoms w index j n ≡ true → SomeMark n
  marks_some zero e = absurd (false≢true (sym marks_start ∙ e))
  marks_some (suc n) e = go (marks atoms w index j n) (marks_some n) (sym (marks_more n) ∙ e)
    where
      go : (t : Bool) → (t ≡ true → SomeMark n) → (t || marks_at n) ≡ true → SomeMark (suc n)
      go true earlier f = let found = earlier refl in (found.0, omega (arith, found.1), found.2, found.3)
      go false earlier f = let parts = (and-eq-true_iff (atoms n) (marked w index n j)).0 f in (n, omega arith, parts.0, parts.1)

-- ---- a region that is fit beside initialised knowledge, and has its decisions

pub record Follows (s : System) (r : Region) (known : Snapshot) : Type 0 where
  pub fits : Fitting r
  pub atoms : r.atoms ≡ s.atoms
  pub same : known.atoms ≡ r.atoms
  pub held : (a : ℕ) → has (set_of known.held) a ≡ true → has (set_of r.held) a ≡ true
  pub cut : (a : ℕ) → has (set_of known.cut) a ≡ true → has (set_of r.cut) a ≡ true

region_taken : (r : Region) → ltb 512 r.atoms ≡ false → strayed r ≡ false → clashes r ≡ false → region_check r ≡ Ok tt
unfolding region_check
region_taken r few stray clash = simp (few, stray, clash)

pub follows : (s : System) (index : List ℕ) (r : Region) (known : Snapshot) → known.initialized ≡ true → touched_check s index r known ≡ Ok tt → Follows s r known
unfolding touched_check
follows s index r known init e =
    let full = passed (overfull_by s r known) _ _ e in
    let rank = passed (ltb (min s.rows s.atoms) s.rank) _ _ full.1 in
    let room = passed (ltb (length index) (s.atoms * column_width s.rank)) _ _ rank.1 in
    let stray = passed (strayed r) _ _ room.1 in
    let clash = passed (clashes r) _ _ stray.1 in
    let bits = passed (not s.refuted && over_rank s.rank (column_width s.rank) index s.atoms) _ _ clash.1 in
    let counts = passed (unequal s r known) _ _ bits.1 in
    let kept = (passed (missing r known) _ _ counts.1).0 in
    let few = (or_parts (ltb 512 r.atoms) _ (or_parts (overfull s.atoms s.rows) _ full.0).1).0 in
    let equal = or_parts (not (eqb r.atoms s.atoms)) _ counts.0 in
    let held = subset (set_of known.held) (set_of r.held) in
    let cut = subset (set_of known.cut) (set_of r.cut) in
    let both = (and-eq-true_iff held cut).0 (not-false (held && cut) (and_none _ _ kept init)) in
    record {
      fits = fitting r (region_taken r few stray.0 clash.0);
      atoms = eqb-true r.atoms s.atoms (not-false _ equal.0);
      same = eqb-true known.atoms r.atoms (not-false _ (and_none _ _ equal.1 init));
      held = (subset_holds (set_of known.held) (set_of r.held)).0 both.0;
      cut = (subset_holds (set_of known.cut) (set_of r.cut)).0 both.1;
    }

-- ---- the atoms decided since

since : (h c oldh oldc : Bool) → (h && c) ≡ false → (oldh ≡ true → h ≡ true) → (oldc ≡ true → c ≡ true)
    → xor (xor (h || c) oldh) oldc ≡ (not (is_open (decision h c)) && is_open (decision oldh oldc))
unfolding xor
since true true oldh oldc apart held cut = absurd (true≢false apart)
since true false oldh true apart held cut = absurd (false≢true (cut refl))
since true false true false apart held cut = refl
since true false false false apart held cut = refl
since false c true oldc apart held cut = absurd (false≢true (held refl))
since false true false true apart held cut = refl
since false true false false apart held cut = refl
since false false false true apart held cut = absurd (false≢true (cut refl))
since false false false false apart held cut = refl

module _ (s : System) (r : Region) (known : Snapshot) (f : Follows s r known) where
  newly_since : (a : ℕ) → a < r.atoms → newly r known a ≡ (not (is_open (get_or (decisions r) a none)) && is_open (get_or (old_decisions known) a none))
  newly_since a h =
      let old : Region = record { atoms = known.atoms; held = known.held; cut = known.cut } in
      since (has (set_of r.held) a) (has (set_of r.cut) a) (has (set_of known.held) a) (has (set_of known.cut) a)
      (f.fits.apart a) (f.held a) (f.cut a)
      ∙ sym (ap₂ (λ d o. not (is_open d) && is_open o) (decision_at r a h) (decision_at old a (omega (arith, f.same))))

  pub newly_decided : (a : ℕ) → a < r.atoms → (newly r known a ≡ true) ↔ NewlyDecided r known a
  newly_decided a h =
      let now = is_open (get_or (decisions r) a none) in
      let both = and-eq-true_iff (not now) (is_open (get_or (old_decisions known) a none)) in (
        (λ e. let parts = both.0 (sym (newly_since a h) ∙ e) in (not-true now parts.0, parts.1)),
        (λ d. newly_since a h ∙ both.1 (ap not d.0, d.1)),
      )

-- what is decided lies below the atom count
pub decided_below : (r : Region) (a : ℕ) → is_open (get_or (decisions r) a none) ≡ false → a < r.atoms
decided_below r a e = go (ltb a r.atoms) refl
  where
    go : (t : Bool) → ltb a r.atoms ≡ t → a < r.atoms
    go true h = ltb-true a r.atoms h
    go false h =
        let past : length (decisions r) ≤ a = omega (arith, decisions_length r, ltb-false a r.atoms h) in
        absurd (true≢false (sym (ap is_open (get_or-eq_default (decisions r) none past)) ∙ e))

-- ---- the promise

-- a fit column is its part of the index
pub column_part : (index : List ℕ) (n rank : ℕ) (a : Atom) → column_check index n rank a ≡ Ok tt
    → unwrap_or (part_of (column_width rank) index a.0) [] ≡ wanted_column index n rank a
unfolding wanted_column
column_part index n rank a e =
    ap (λ (o : Option (List ℕ)). unwrap_or o []) (wanted_part index n rank a e) ∙ sym (ap (λ check. left check (row (column_width rank) index a.0) []) e)

module _ (n m : ℕ) (l : Lent) (number : prepare_check n m l ≡ Ok tt) (sound : (prepared n m l).0.system.refuted ≡ false) where
  abbrev rank : ℕ
  rank = (prepared n m l).0.system.rank

  abbrev index : List ℕ
  index = (prepared n m l).1.index

  -- the part of the index at an atom tells of each basis row whether it has the atom
  pub part_tells : (a j : ℕ) → a < n → j < rank
      → marked (column_width rank) index a j ≡ has_atom (row_left n (prepared n m l) (get_or (prepared n m l).1.basis j 0)) a
  part_tells a j h lt =
      let atom : Atom = record { 0 = a } in
      let tells = column_tells n m l atom number h sound in
      ap (λ (c : List ℕ). has (set_of c) j) (column_part index n rank atom tells.0) ∙ tells.2 j
      ∙ ap (λ (t : Bool). t && has_atom (row_left n (prepared n m l) (get_or (prepared n m l).1.basis j 0)) a) (lt-ltb j rank lt)

  touches : (r : Region) (known : Snapshot) → known.initialized ≡ true → Follows (prepared n m l).0.system r known → Touches n (prepared n m l) r known
  touches r known init f j lt =
      let s = (prepared n m l).0.system in
      let w = column_width rank in
      let count : r.atoms ≡ n = f.atoms ∙ (prepare_fits n m l number).atoms in
      let at = touched_at rank index r known j lt ∙ ap (λ (i : Bool). not i || marks (newly r known) w index j r.atoms) init in (
        (λ e.
            let found = marks_some (newly r known) w index j r.atoms (sym at ∙ e) in
            let a = found.0 in
            let below = found.1 in
            (a, (newly_decided s r known f a below).0 found.2, sym (part_tells a j (omega (arith, count)) lt) ∙ found.3)),
        (λ d.
            let a = d.0 in
            let below = decided_below r a d.1.0 in
            at ∙ marks_found (newly r known) w index j r.atoms a below ((newly_decided s r known f a below).1 d.1)
            (part_tells a j (omega (arith, count)) lt ∙ d.2)),
      )

pub touched_exact : TouchedExact
touched_exact n m l r known number sound init e =
    touches n m l number sound r known init (follows (prepared n m l).0.system (prepared n m l).1.index r known init e)
