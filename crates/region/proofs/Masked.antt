-- A region's words and the decisions that they stand for, each back to the other; and what a region that no number refuses has.
use Prim.Native.Nat.{ℕ, zero, suc, ◌^◌, ◌≤◌, ◌<◌}
use mathlib.Core.Path.{◌≡◌, refl, sym, ap, ap₂, ◌∙◌}
use mathlib.Core.List.{List, [], ◌∷◌, map, zip_with}
use mathlib.Core.Bool.{Bool, true, false, cond, ◌&&◌}
use mathlib.Core.Option.{Option, none, some}
use native.Mathlib.Nat.{lt_of_lt_of_le}
use native.Mathlib.Omega.{arith}
use borrow.Author.Tests.{ltb-false, leb-false, eqb-true, not-false, le-ltb, lt-leb, eq-eqb}
use lib.ListN.{length, get_or, length-map, get_or-map}
use lib.Seq.{ext_get_or}
use lib.Bits.{bit_and}
use lib.Dec.{leb, ltb}
use lib.Pow.{pow_mono}
use Rattle.words.specs.Set.{set_of, has}
use Rattle.words.proofs.Meaning.{has_and, has_none, same_atoms}
use Rattle.rows.specs.Decisions.{Decisions}
use Rattle.rows.specs.Flat.{atoms_of, mask_of, unpack}
use Rattle.rows.specs.declared.Atom.{Atom}
use Rattle.rows.proofs.Digits.{atoms_length, atoms_has, atoms_mask, mask_lt, packed_unpack, atoms_fix_words}
use Rattle.rows.proofs.Rowwise.{zip_length, mask_has}
use Rattle.std.specs.Prelude.{Result, Ok, Err}
use Rattle.refusal.specs.Refusal.{answered, left}
use Rattle.refusal.specs.declared.Refusal.{Refusal}
use Rattle.refusal.specs.declared.Refusal.TheVariants.{Overfull, Stray, Clash, Atom as NoAtom}
use Rattle.std.proofs.lemmas.Bool.{or_parts}
use Rattle.fit.proofs.Fitting.{passed}
use Rattle.region.specs.Masks.{decision, decisions_of, decisions, is_held, is_cut, region_of}
use Rattle.region.specs.Calls.{strayed, clashes, region_check, decide_check, decided, decide_of}
use Rattle.region.specs.declared.Region.{Region}

-- ---- the decisions of two lists

zip_at : (l r : List Bool) → length l ≡ length r → (a : ℕ) → get_or (zip_with decision l r) a none ≡ decision (get_or l a false) (get_or r a false)
unfolding zip_with
zip_at [] [] h a = refl
zip_at [] (y ∷ r) h a = let z : ⊥ = omega arith in absurd z
zip_at (x ∷ l) [] h a = let z : ⊥ = omega arith in absurd z
zip_at (x ∷ l) (y ∷ r) h zero = refl
zip_at (x ∷ l) (y ∷ r) h (suc a) = zip_at l r (omega arith) a

same_lengths : (n x y : ℕ) → length (atoms_of n x) ≡ length (atoms_of n y)
same_lengths n x y = atoms_length n x ∙ sym (atoms_length n y)

pub decisions_length : (r : Region) → length (decisions r) ≡ r.atoms
unfolding decisions_of
decisions_length r = zip_length decision _ _ (same_lengths r.atoms (set_of r.held) (set_of r.cut)) ∙ atoms_length r.atoms (set_of r.held)

pub decision_at : (r : Region) (a : ℕ) → a < r.atoms → get_or (decisions r) a none ≡ decision (has (set_of r.held) a) (has (set_of r.cut) a)
unfolding decisions_of
decision_at r a h =
    zip_at _ _ (same_lengths r.atoms (set_of r.held) (set_of r.cut)) a
    ∙ ap₂ decision (atoms_has r.atoms (set_of r.held) a h) (atoms_has r.atoms (set_of r.cut) a h)

held_of : (b c : Bool) → is_held (decision b c) ≡ b
held_of true c = refl
held_of false true = refl
held_of false false = refl

cut_of : (b c : Bool) → (b && c) ≡ false → is_cut (decision b c) ≡ c
cut_of true true e = sym e
cut_of true false e = refl
cut_of false true e = refl
cut_of false false e = refl

-- what an entry that is there falls back on does not matter
get_d_any : (l : List Bool) (a : ℕ) (d e : Bool) → a < length l → get_or l a d ≡ get_or l a e
get_d_any [] a d e h = let z : ⊥ = omega arith in absurd z
get_d_any (b ∷ l) zero d e h = refl
get_d_any (b ∷ l) (suc a) d e h = get_d_any l a d e (omega arith)

-- a list told of each decision of a region is a list of atoms, if each place is
pub map_atoms : (r : Region) (f : Option Bool → Bool) (x : ℕ)
    → ((a : ℕ) → a < r.atoms → f (decision (has (set_of r.held) a) (has (set_of r.cut) a)) ≡ has x a) → map f (decisions r) ≡ atoms_of r.atoms x
map_atoms r f x each =
    let long : length (map f (decisions r)) ≡ r.atoms = length-map (decisions r) f ∙ decisions_length r in
    ext_get_or (f none) _ _ (long ∙ sym (atoms_length r.atoms x)) (λ a h.
    let lt : a < r.atoms = omega arith in
    get_or-map f (decisions r) a none ∙ ap f (decision_at r a lt) ∙ each a lt ∙ sym (atoms_has r.atoms x a lt)
    ∙ get_d_any (atoms_of r.atoms x) a false (f none) (omega (arith, atoms_length r.atoms x)))

pub map_held : (r : Region) → map is_held (decisions r) ≡ atoms_of r.atoms (set_of r.held)
map_held r = map_atoms r is_held (set_of r.held) (λ a h. held_of (has (set_of r.held) a) (has (set_of r.cut) a))

-- ---- what a region that is not refused has

pub record Fitting (r : Region) : Type 0 where
  pub few : r.atoms ≤ 512
  pub held_below : set_of r.held < 2 ^ r.atoms
  pub cut_below : set_of r.cut < 2 ^ r.atoms
  pub apart : (a : ℕ) → (has (set_of r.held) a && has (set_of r.cut) a) ≡ false

pub fitting : (r : Region) → region_check r ≡ Ok tt → Fitting r
unfolding region_check
fitting r e =
    let atoms = passed (ltb 512 r.atoms) _ _ e in
    let stray = passed (strayed r) _ _ atoms.1 in
    let below = or_parts _ _ stray.0 in
    let none : bit_and (set_of r.held) (set_of r.cut) ≡ 0 = eqb-true _ 0 (not-false _ (passed (clashes r) _ _ stray.1).0) in
    record {
      few = ltb-false 512 r.atoms atoms.0;
      held_below = leb-false (2 ^ r.atoms) (set_of r.held) below.0;
      cut_below = leb-false (2 ^ r.atoms) (set_of r.cut) below.1;
      apart = λ a. sym (has_and (set_of r.held) (set_of r.cut) a) ∙ ap (λ (x : ℕ). has x a) none ∙ has_none a;
    }

pub fit_region : (r : Region) → Fitting r → region_check r ≡ Ok tt
unfolding region_check
fit_region r f =
    let none : bit_and (set_of r.held) (set_of r.cut) ≡ 0 =
    same_atoms _ 0 (λ a. has_and (set_of r.held) (set_of r.cut) a ∙ f.apart a ∙ sym (has_none a)) in
    simp (le-ltb 512 r.atoms f.few, lt-leb _ _ f.held_below, lt-leb _ _ f.cut_below, eq-eqb _ _ none)

pub map_cut : (r : Region) → Fitting r → map is_cut (decisions r) ≡ atoms_of r.atoms (set_of r.cut)
map_cut r f = map_atoms r is_cut (set_of r.cut) (λ a h. cut_of (has (set_of r.held) a) (has (set_of r.cut) a) (f.apart a))

-- those of a decision: the region's, and then that of the atom
pub decide_is : (r : Region) (a : Atom) → decide_check r a ≡ left (region_check r) (cond (leb r.atoms a.0) (Err NoAtom) (Ok tt)) (region_check r)
unfolding decide_check region_check
decide_is r a = each (ltb 512 r.atoms) (strayed r) (clashes r) (cond (leb r.atoms a.0) (Err NoAtom) (Ok tt))
  where
    each : (x y z : Bool) (k : Result Unit Refusal)
        → let own = cond x (Err Overfull) (cond y (Err Stray) (cond z (Err Clash) (Ok tt))) in
        cond x (Err Overfull) (cond y (Err Stray) (cond z (Err Clash) k)) ≡ left own k own
    each true y z k = refl
    each false true z k = refl
    each false false true k = refl
    each false false false k = refl

pub decide_fitting : (r : Region) (a : Atom) → decide_check r a ≡ Ok tt → Fitting r × (a.0 < r.atoms)
decide_fitting r a e = go (region_check r) refl (sym (decide_is r a) ∙ e)
  where
    go : (own : Result Unit Refusal) → region_check r ≡ own → left own (cond (leb r.atoms a.0) (Err NoAtom) (Ok tt)) own ≡ Ok tt → Fitting r × (a.0 < r.atoms)
    go (Ok done) own e = (fitting r own, leb-false r.atoms a.0 (passed (leb r.atoms a.0) _ _ e).0)
    go (Err refusal) own e = cc

decide_unrefused : (r : Region) (a : Atom) → region_check r ≡ Ok tt → a.0 < r.atoms → decide_check r a ≡ Ok tt
decide_unrefused r a fit lt = simp (decide_is r a, fit, lt-leb r.atoms a.0 lt)

-- ---- from decisions to words and back

-- a list of up to 512 atoms has eight words
pub mask_set : (l : List Bool) → length l ≤ 512 → set_of (unpack 64 8 (mask_of l)) ≡ mask_of l
mask_set l h = packed_unpack 64 8 (mask_of l) (lt_of_lt_of_le (mask_lt l) (pow_mono h))

decision_back : (p : Decisions) → zip_with decision (map is_held p) (map is_cut p) ≡ p
unfolding zip_with
decision_back [] = refl
decision_back (none ∷ p) = ap (◌∷◌ none) (decision_back p)
decision_back (some true ∷ p) = ap (◌∷◌ (some true)) (decision_back p)
decision_back (some false ∷ p) = ap (◌∷◌ (some false)) (decision_back p)

never_both : (d : Option Bool) → (is_held d && is_cut d) ≡ false
never_both none = refl
never_both (some true) = refl
never_both (some false) = refl

module _ (p : Decisions) (few : length p ≤ 512) where
  module _ (f : Option Bool → Bool) where
    fewer : length (map f p) ≤ 512
    fewer = omega (arith, length-map p f)

    atoms_map : atoms_of (length p) (set_of (unpack 64 8 (mask_of (map f p)))) ≡ map f p
    atoms_map =
        ap₂ atoms_of (sym (length-map p f)) (mask_set (map f p) fewer) ∙ atoms_mask (map f p)

    map_below : set_of (unpack 64 8 (mask_of (map f p))) < 2 ^ length p
    map_below = rw (mask_set (map f p) fewer) (rw (length-map p f) at (mask_lt (map f p)))

    map_has : f none ≡ false → (a : ℕ) → has (set_of (unpack 64 8 (mask_of (map f p)))) a ≡ f (get_or p a none)
    map_has start a =
        ap (λ (x : ℕ). has x a) (mask_set (map f p) fewer) ∙ mask_has (map f p) a ∙ ap (get_or (map f p) a) (sym start) ∙ get_or-map f p a none

  pub held_has : (a : ℕ) → has (set_of (region_of p).held) a ≡ is_held (get_or p a none)
  unfolding region_of
  held_has = map_has is_held refl

  pub cut_has : (a : ℕ) → has (set_of (region_of p).cut) a ≡ is_cut (get_or p a none)
  unfolding region_of
  cut_has = map_has is_cut refl

  pub fits_of : Fitting (region_of p)
  unfolding region_of
  fits_of = record {
    few = few;
    held_below = map_below is_held;
    cut_below = map_below is_cut;
    apart = λ a. ap₂ ◌&&◌ (map_has is_held refl a) (map_has is_cut refl a) ∙ never_both (get_or p a none);
  }

pub decisions_back : (p : Decisions) → length p ≤ 512 → decisions (region_of p) ≡ p
unfolding decisions_of region_of
decisions_back p few = ap₂ (zip_with decision) (atoms_map p few is_held) (atoms_map p few is_cut) ∙ decision_back p

pub region_fits : (p : Decisions) → length p ≤ 512 → region_check (region_of p) ≡ Ok tt
region_fits p few = fit_region (region_of p) (fits_of p few)

-- a decision that is not refused, and one on a region that is known by what is decided
pub decide_fit : (v : Bool) (r : Region) (a : Atom) → decide_check r a ≡ Ok tt
    → let d = decided (decisions r) a.0 v (get_or (decisions r) a.0 none) in decide_of v r a ≡ (Ok d.0, d.1)
decide_fit v r a e =
    let d = decided (decisions r) a.0 v (get_or (decisions r) a.0 none) in
    ap (λ check. (answered check d.0, left check d.1 r)) e

pub decide_fits : (p : Decisions) → length p ≤ 512 → (a : Atom) → a.0 < length p → decide_check (region_of p) a ≡ Ok tt
unfolding region_of
decide_fits p few a h = decide_unrefused (region_of p) a (region_fits p few) h

pub decide_known : (v : Bool) (p : Decisions) → length p ≤ 512 → (a : Atom) → a.0 < length p
    → let d = decided p a.0 v (get_or p a.0 none) in decide_of v (region_of p) a ≡ (Ok d.0, d.1)
unfolding region_of
decide_known v p few a h =
    decide_fit v (region_of p) a (decide_fits p few a h)
    ∙ ap (λ (q : Decisions). let d = decided q a.0 v (get_or q a.0 none) in (Ok d.0, d.1)) (decisions_back p few)

-- ---- from words to decisions and back

pub record Eight (r : Region) : Type 0 where
  pub held_length : length r.held ≡ 8
  pub cut_length : length r.cut ≡ 8
  pub held_fits : (i : ℕ) → get_or r.held i 0 < 2 ^ 64
  pub cut_fits : (i : ℕ) → get_or r.cut i 0 < 2 ^ 64

words_back : (n : ℕ) (ws : List ℕ) → length ws ≡ 8 → ((i : ℕ) → get_or ws i 0 < 2 ^ 64) → set_of ws < 2 ^ n → unpack 64 8 (mask_of (atoms_of n (set_of ws))) ≡ ws
words_back n ws eight fit below = ap (λ (w : ℕ). unpack 64 w (mask_of (atoms_of n (set_of ws)))) (sym eight) ∙ atoms_fix_words 64 n ws fit below

pub fitting_back : (r : Region) → Eight r → Fitting r → region_of (decisions r) ≡ r
unfolding region_of
fitting_back r w f =
    let held : unpack 64 8 (mask_of (map is_held (decisions r))) ≡ r.held =
    ap (λ (l : List Bool). unpack 64 8 (mask_of l)) (map_held r) ∙ words_back r.atoms r.held w.held_length w.held_fits f.held_below in
    let cut : unpack 64 8 (mask_of (map is_cut (decisions r))) ≡ r.cut =
    ap (λ (l : List Bool). unpack 64 8 (mask_of l)) (map_cut r f) ∙ words_back r.atoms r.cut w.cut_length w.cut_fits f.cut_below in
    ap₂ (λ (n : ℕ) (l : List ℕ × List ℕ). record { atoms = n; held = l.0; cut = l.1 }) (decisions_length r) (ap₂ (λ (h c : List ℕ). (h, c)) held cut)

pub region_back : (r : Region) → Eight r → region_check r ≡ Ok tt → region_of (decisions r) ≡ r
region_back r w e = fitting_back r w (fitting r e)
