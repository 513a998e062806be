-- The checks of a region one after the other; a decision, by the value v that the atom is given: the answer by which of the two
-- masks has it. And the words of a region with nothing decided.
use Prim.Native.Nat.{ℕ, zero, suc, ◌/◌, ◌%◌, ◌^◌, ◌<◌}
use mathlib.Core.Path.{◌≡◌, refl, sym, ap, ap₂, ◌∙◌}
use mathlib.Core.List.{List, map}
use mathlib.Core.Bool.{Bool, true, false, cond, not, ◌&&◌, ◌||◌, beq, and_comm, or-false, true≢false}
use mathlib.Core.Option.{Option, none, some}
use native.Mathlib.Nat.{mod-lt, zero-lt-suc}
use native.Mathlib.Omega.{arith}
use borrow.Author.Tests.{eqb-true, eqb-false, eq-eqb}
use lib.ListN.{length, get_or, set, replicate, length-set, length-replicate}
use lib.Seq.{ext_get_or, get_or-set_same, get_or-set_other}
use lib.Bits.{bit_or, or_lt}
use lib.Dec.{eqb, ltb}
use lib.Pow.{pow-lt}
use Rattle.std.specs.Prelude.{Result, Ok, Err, is_some as is_there}
use Rattle.words.specs.Set.{set_of, has}
use Rattle.words.specs.Calls.{inserted}
use Rattle.words.proofs.Meaning.{set_inserted, insert_adds}
use Rattle.rows.specs.Flat.{mask_of, unpack}
use Rattle.rows.specs.declared.Atom.{Atom}
use Rattle.refusal.specs.Refusal.{answered, left}
use Rattle.refusal.specs.declared.Refusal.{Refusal}
use Rattle.refusal.specs.declared.Refusal.TheVariants.{Overfull, Stray, Clash}
use Rattle.std.proofs.lemmas.Bool.{or_right}
use Rattle.region.specs.Masks.{decision, decisions, is_held, is_cut, region_of}
use Rattle.region.specs.Visit.{next_of}
use Rattle.region.specs.Calls.{clashes, region_check, decide_check, decided, decide_of}
use Rattle.region.specs.declared.Region.{Region}
use Rattle.region.specs.declared.Answer.{Answer}
use Rattle.region.specs.declared.Answer.TheVariants.{Taken, Same, Against}
use Rattle.region.proofs.Nexts.{above_next}
use Rattle.region.proofs.Masked.{Fitting, Eight, fitting_back, decisions_length, decision_at, decide_fitting}

-- the mask of the atoms that have the value v
abbrev pub mask_at : Bool → Region → List ℕ
mask_at v r = cond v r.held r.cut

-- the region with atom a in that mask
abbrev pub taking : Bool → Region → ℕ → Region
taking v r a = record { atoms = r.atoms; held = cond v (inserted r.held a) r.held; cut = cond v r.cut (inserted r.cut a) }

-- ---- one atom

left_out : (b c : Bool) → (b && c) ≡ false → c ≡ true → b ≡ false
left_out true c e h = absurd (true≢false (sym h ∙ e))
left_out false c e h = refl

module _ (r : Region) (i : ℕ) where
  abbrev now : Option Bool
  now = decision (has (set_of r.held) i) (has (set_of r.cut) i)

  is_some : (v : Bool) → Fitting r → has (set_of (mask_at v r)) i ≡ true → now ≡ some v
  is_some true f e = ap (λ (b : Bool). decision b (has (set_of r.cut) i)) e
  is_some false f e = ap₂ decision (left_out (has (set_of r.held) i) (has (set_of r.cut) i) (f.apart i) e) e

  is_none : (v : Bool) → has (set_of (mask_at v r)) i ≡ false → has (set_of (mask_at (not v) r)) i ≡ false → now ≡ none
  is_none true e d = ap₂ decision e d
  is_none false e d = ap₂ decision d e

-- ---- a mask with one atom more

module _ (ws : List ℕ) (a : ℕ) (room : a / 64 < length ws) where
  more_length : length (inserted ws a) ≡ length ws
  unfolding inserted
  more_length = length-set ws (a / 64) (bit_or (get_or ws (a / 64) 0) (2 ^ (a % 64)))

  more_fits : ((i : ℕ) → get_or ws i 0 < 2 ^ 64) → (i : ℕ) → get_or (inserted ws a) i 0 < 2 ^ 64
  unfolding inserted
  more_fits fits i = go (eqb i (a / 64)) refl
    where
      word : ℕ
      word = bit_or (get_or ws (a / 64) 0) (2 ^ (a % 64))

      go : (t : Bool) → eqb i (a / 64) ≡ t → get_or (set ws (a / 64) (bit_or (get_or ws (a / 64) 0) (2 ^ (a % 64)))) i 0 < 2 ^ 64
      go true e =
          rw (eqb-true i (a / 64) e, get_or-set_same ws (a / 64) word 0 room)
          (or_lt 64 (get_or ws (a / 64) 0) (2 ^ (a % 64)) (fits (a / 64)) (pow-lt {j = 64} (mod-lt a (zero-lt-suc 63))))
      go false e = rw (get_or-set_other ws (a / 64) i word 0 (eqb-false i (a / 64) e)) (fits i)

  more_below : (n : ℕ) → a < n → set_of ws < 2 ^ n → set_of (inserted ws a) < 2 ^ n
  more_below n h below = rw (set_inserted ws a room) (or_lt n (set_of ws) (2 ^ a) below (pow-lt h))

  more_same : has (set_of (inserted ws a)) a ≡ true
  more_same = (insert_adds ws a).0 room a ∙ or_right (has (set_of ws) a) (eqb a a) (eq-eqb a a refl)

  more_other : (i : ℕ) → eqb i a ≡ false → has (set_of (inserted ws a)) i ≡ has (set_of ws) i
  more_other i e = (insert_adds ws a).0 room i ∙ ap (λ (t : Bool). has (set_of ws) i || t) e ∙ or-false (has (set_of ws) i)

  more_apart : (us : List ℕ) → ((i : ℕ) → (has (set_of ws) i && has (set_of us) i) ≡ false) → has (set_of us) a ≡ false
      → (i : ℕ) → (has (set_of (inserted ws a)) i && has (set_of us) i) ≡ false
  more_apart us apart e i = go (eqb i a) refl
    where
      go : (t : Bool) → eqb i a ≡ t → (has (set_of (inserted ws a)) i && has (set_of us) i) ≡ false
      go true s =
          and_comm (has (set_of (inserted ws a)) i) (has (set_of us) i)
          ∙ ap (λ (b : Bool). b && has (set_of (inserted ws a)) i) (ap (has (set_of us)) (eqb-true i a s) ∙ e)
      go false s = ap (λ (b : Bool). b && has (set_of us) i) (more_other i s) ∙ apart i

-- ---- the calls

-- the checks of a region one after the other, each of its masks by itself
pub check_is : (r : Region)
    → region_check r
    ≡ cond (ltb 512 r.atoms) (Err Overfull)
    (cond (is_there (next_of (set_of r.held) r.atoms)) (Err Stray)
    (cond (is_there (next_of (set_of r.cut) r.atoms)) (Err Stray) (cond (clashes r) (Err Clash) (Ok tt))))
unfolding region_check
check_is r =
    simp (above_next r.held r.atoms, above_next r.cut r.atoms)
    (ap (cond (ltb 512 r.atoms) (Err Overfull)) (each (is_there (next_of (set_of r.held) r.atoms)) (is_there (next_of (set_of r.cut) r.atoms)) (cond (clashes r) (Err Clash) (Ok tt))))
  where
    each : (b c : Bool) (k : Result Unit Refusal) → cond (b || c) (Err Stray) k ≡ cond b (Err Stray) (cond c (Err Stray) k)
    each true c k = refl
    each false c k = refl

-- an answer that is no refusal, and the region with it
abbrev pub said : Region → Answer → Result Answer Refusal × Region
said r answer = (Ok answer, r)

module _ (r : Region) (a : Atom) (e1 : decide_check r a ≡ Ok tt) where
  fits : Fitting r
  fits = (decide_fitting r a e1).0

  inside : a.0 < r.atoms
  inside = (decide_fitting r a e1).1

  pub word_in : a.0 / 64 < 8
  word_in = omega (arith, inside, fits.few)

  module _ (eight : Eight r) where
    found : (v : Bool) (d : Option Bool) → now r a.0 ≡ d → decide_of v r a ≡ said (decided (decisions r) a.0 v d).1 (decided (decisions r) a.0 v d).0
    found v d e =
        ap (λ check. let d = decided (decisions r) a.0 v (get_or (decisions r) a.0 none) in (answered check d.0, left check d.1 r)) e1
        ∙ ap (λ o. let d = decided (decisions r) a.0 v o in said d.1 d.0) (decision_at r a.0 inside ∙ e)

    pub same : (v : Bool) → has (set_of (mask_at v r)) a.0 ≡ true → said r Same ≡ decide_of v r a
    same v e = sym (found v (some v) (is_some r a.0 v fits e) ∙ ap₂ said (fitting_back r eight fits) (equal v))
      where
        equal : (v : Bool) → cond (beq v v) Same Against ≡ Same
        equal true = refl
        equal false = refl

    pub against : (v : Bool) → has (set_of (mask_at (not v) r)) a.0 ≡ true → said r Against ≡ decide_of v r a
    against v e = sym (found v (some (not v)) (is_some r a.0 (not v) fits e) ∙ ap₂ said (fitting_back r eight fits) (unequal v))
      where
        unequal : (v : Bool) → cond (beq (not v) v) Same Against ≡ Against
        unequal true = refl
        unequal false = refl

    room : (v : Bool) → a.0 / 64 < length (mask_at v r)
    room true = omega (arith, word_in, eight.held_length)
    room false = omega (arith, word_in, eight.cut_length)

    eight_taking : (v : Bool) → Eight (taking v r a.0)
    eight_taking true = record {
      held_length = more_length r.held a.0 (room true) ∙ eight.held_length;
      cut_length = eight.cut_length;
      held_fits = more_fits r.held a.0 (room true) eight.held_fits;
      cut_fits = eight.cut_fits;
    }
    eight_taking false = record {
      held_length = eight.held_length;
      cut_length = more_length r.cut a.0 (room false) ∙ eight.cut_length;
      held_fits = eight.held_fits;
      cut_fits = more_fits r.cut a.0 (room false) eight.cut_fits;
    }

    fits_taking : (v : Bool) → has (set_of (mask_at (not v) r)) a.0 ≡ false → Fitting (taking v r a.0)
    fits_taking true e = record {
      few = fits.few;
      held_below = more_below r.held a.0 (room true) r.atoms inside fits.held_below;
      cut_below = fits.cut_below;
      apart = more_apart r.held a.0 (room true) r.cut fits.apart e;
    }
    fits_taking false e = record {
      few = fits.few;
      held_below = fits.held_below;
      cut_below = more_below r.cut a.0 (room false) r.atoms inside fits.cut_below;
      apart = λ i.
          and_comm (has (set_of r.held) i) (has (set_of (inserted r.cut a.0)) i)
          ∙ more_apart r.cut a.0 (room false) r.held
          (λ j. and_comm (has (set_of r.cut) j) (has (set_of r.held) j) ∙ fits.apart j) e i;
    }

    now_taken : (v : Bool) → has (set_of (mask_at v (taking v r a.0))) a.0 ≡ true
    now_taken true = more_same r.held a.0 (room true)
    now_taken false = more_same r.cut a.0 (room false)

    now_other : (v : Bool) (i : ℕ) → eqb i a.0 ≡ false → now (taking v r a.0) i ≡ now r i
    now_other true i e = ap (λ (b : Bool). decision b (has (set_of r.cut) i)) (more_other r.held a.0 (room true) i e)
    now_other false i e = ap (decision (has (set_of r.held) i)) (more_other r.cut a.0 (room false) i e)

    decisions_taking : (v : Bool) → has (set_of (mask_at (not v) r)) a.0 ≡ false → decisions (taking v r a.0) ≡ set (decisions r) a.0 (some v)
    decisions_taking v e =
        let long : length (decisions (taking v r a.0)) ≡ r.atoms = decisions_length (taking v r a.0) in
        let long' : length (set (decisions r) a.0 (some v)) ≡ r.atoms = length-set (decisions r) a.0 (some v) ∙ decisions_length r in
        ext_get_or none _ _ (long ∙ sym long') (λ i h. go i (omega (arith, long)) (eqb i a.0) refl)
      where
        at : get_or (decisions (taking v r a.0)) a.0 none ≡ get_or (set (decisions r) a.0 (some v)) a.0 none
        at =
            let lt : a.0 < length (decisions r) = omega (arith, decisions_length r, inside) in
            decision_at (taking v r a.0) a.0 inside ∙ is_some (taking v r a.0) a.0 v (fits_taking v e) (now_taken v)
            ∙ sym (get_or-set_same (decisions r) a.0 (some v) none lt)

        go : (i : ℕ) → i < r.atoms → (t : Bool) → eqb i a.0 ≡ t
            → get_or (decisions (taking v r a.0)) i none ≡ get_or (set (decisions r) a.0 (some v)) i none
        go i lt true s = rw (eqb-true i a.0 s) at
        go i lt false s =
            decision_at (taking v r a.0) i lt ∙ now_other v i s ∙ sym (decision_at r i lt)
            ∙ sym (get_or-set_other (decisions r) a.0 i (some v) none (eqb-false i a.0 s))

    pub taken : (v : Bool) → has (set_of (mask_at v r)) a.0 ≡ false → has (set_of (mask_at (not v) r)) a.0 ≡ false
        → said (taking v r a.0) Taken ≡ decide_of v r a
    taken v e d =
        let back : region_of (set (decisions r) a.0 (some v)) ≡ taking v r a.0 =
        ap region_of (sym (decisions_taking v d)) ∙ fitting_back (taking v r a.0) (eight_taking v) (fits_taking v d) in
        sym (found v none (is_none r a.0 v e d) ∙ ap (λ (s : Region). said s Taken) back)

-- ---- nothing decided

open_mask : (f : Option Bool → Bool) → f none ≡ false → (n : ℕ) → mask_of (map f (replicate n none)) ≡ 0
unfolding mask_of
open_mask f start zero = refl
open_mask f start (suc n) = simp (open_mask f start n, start)

pub open_region : (n : ℕ) → region_of (replicate n none) ≡ record { atoms = n; held = replicate 8 0; cut = replicate 8 0 }
unfolding region_of unpack
open_region n =
    let long : length (replicate {A = Option Bool} n none) ≡ n = length-replicate n none in
    simp (long, open_mask is_held refl n, open_mask is_cut refl n)
