-- The forced list applied one atom after another: what a bit set in the masks makes of a batch, and the list applied up to an entry.
use Prim.Native.Nat.{ℕ, zero, suc, ◌+◌, ◌/◌, ◌^◌, ◌≤◌, ◌<◌}
use mathlib.Core.Path.{◌≡◌, refl, sym, ap, ap₂, ◌∙◌, subst}
use mathlib.Core.List.{List, [], ◌∷◌, ◌++◌, map, zip_with}
use mathlib.Core.Bool.{Bool, true, false, cond, not, beq, true≢false}
use mathlib.Core.Option.{Option, none, some}
use native.Mathlib.Nat.{mod-lt, add-zero}
use native.Mathlib.Numerals.{add-one}
use native.Mathlib.Omega.{arith}
use lib.ListN.{length, get_or, set, drop}
use lib.Dec.{eqb}
use lib.Pow.{pow_pos}
use Rattle.rows.proofs.Constants.{bool_back}
use Rattle.words.specs.Set.{set_of, has}
use Rattle.words.specs.Calls.{inserted}
use Rattle.rows.specs.Decisions.{Decisions}
use Rattle.rows.specs.Flat.{mask_of, unpack}
use Rattle.rows.specs.declared.Atom.{Atom}
use Rattle.echelon.proofs.Written.{unpack_length}
use Rattle.region.specs.Masks.{decisions, is_held, is_cut, region_of}
use Rattle.region.specs.Calls.{decided}
use Rattle.std.specs.Prelude.{Result}
use Rattle.refusal.specs.declared.Refusal.{Refusal}
use Rattle.region.specs.declared.Answer.{Answer}
use Rattle.region.specs.declared.Region.{Region}
use Rattle.region.proofs.Masked.{Eight, decide_fits, decide_known, decisions_length, fitting, held_has, cut_has}
use Rattle.region.proofs.Deciding.{said, mask_at, taking, taken}
use Rattle.inspect.specs.Batch.{Batch, begun, forced_on, next, applied}
use Rattle.inspect.specs.Inspect.{atoms_from, values_from}
use Rattle.inspect.specs.Steps.{forced_in, Applicable, applied_of, tallied, Forcible, Forcing}
use Rattle.inspect.specs.declared.apply.Applied.{Applied}
use Rattle.inspect.specs.declared.apply.Tally.{Tally}
use Rattle.inspect.proofs.Batches.{applied_length}

-- ---- one atom more

next_on : (b : Batch) (f : ℕ × Bool) → b.against ≡ false → next b f ≡ forced_on b f.0 f.1 (get_or b.decisions f.0 none)
next_on b f e = ap (λ (t : Bool). cond t b (forced_on b f.0 f.1 (get_or b.decisions f.0 none))) e

next_off : (b : Batch) (f : ℕ × Bool) → b.against ≡ true → next b f ≡ b
next_off b f e = ap (λ (t : Bool). cond t b (forced_on b f.0 f.1 (get_or b.decisions f.0 none))) e

-- what holds of a batch and of what an atom forced on it makes, holds of the next one
of_next : (T : Batch → Type 0) (b : Batch) (f : ℕ × Bool) → T b → ((d : Option Bool) → T (forced_on b f.0 f.1 d)) → T (next b f)
of_next T b f before after = go b.against
  where
    go : (t : Bool) → T (cond t b (forced_on b f.0 f.1 (get_or b.decisions f.0 none)))
    go true = before
    go false = after (get_or b.decisions f.0 none)

at_most_one : (v : Bool) → (cond v 1 0 ≤ 1) × (cond v 0 1 ≤ 1)
at_most_one true = (omega arith, omega arith)
at_most_one false = (omega arith, omega arith)

next_few : (b : Batch) (f : ℕ × Bool) → ((next b f).held ≤ b.held + 1) × ((next b f).cut ≤ b.cut + 1)
next_few b f = of_next (λ n. (n.held ≤ b.held + 1) × (n.cut ≤ b.cut + 1)) b f (omega arith, omega arith) forced
  where
    forced : (d : Option Bool) → ((forced_on b f.0 f.1 d).held ≤ b.held + 1) × ((forced_on b f.0 f.1 d).cut ≤ b.cut + 1)
    forced none = (omega (arith, at_most_one f.1), omega (arith, at_most_one f.1))
    forced (some w) = (omega arith, omega arith)

-- ---- a whole list

-- "with earlier ones standing"
applied_stands : (b : Batch) (fs : List (ℕ × Bool)) → b.against ≡ true → applied b fs ≡ b
unfolding applied
applied_stands b [] e = refl
applied_stands b (f ∷ fs) e = ap (λ (n : Batch). applied n fs) (next_off b f e) ∙ applied_stands b fs e

applied_next : (b : Batch) (us vs : List ℕ) (i : ℕ) → i < length us → i < length vs
    → applied b (forced_in us vs (suc i)) ≡ next (applied b (forced_in us vs i)) (get_or us i 0, eqb (get_or vs i 0) 1)
unfolding applied zip_with
applied_next b [] vs i h l = let z : ⊥ = omega arith in absurd z
applied_next b (a ∷ us) [] i h l = let z : ⊥ = omega arith in absurd z
applied_next b (a ∷ us) (v ∷ vs) zero h l = refl
applied_next b (a ∷ us) (v ∷ vs) (suc i) h l = applied_next (next b (a, eqb v 1)) us vs i (omega arith) (omega arith)

applied_stays : (b : Batch) (us vs : List ℕ) (i n : ℕ) → i ≤ n → (applied b (forced_in us vs i)).against ≡ true
    → applied b (forced_in us vs n) ≡ applied b (forced_in us vs i)
unfolding applied zip_with
applied_stays b us vs zero n h e = applied_stands b (forced_in us vs n) e
applied_stays b us vs (suc i) zero h e = let z : ⊥ = omega arith in absurd z
applied_stays b [] vs (suc i) (suc n) h e = refl
applied_stays b (a ∷ us) [] (suc i) (suc n) h e = refl
applied_stays b (a ∷ us) (v ∷ vs) (suc i) (suc n) h e = applied_stays (next b (a, eqb v 1)) us vs i n (omega arith) e

-- the list that was written, read again
pub forced_back : (fs : List (ℕ × Bool)) (us vs : List ℕ) → forced_in (atoms_from fs us) (values_from fs vs) (length fs) ≡ fs
unfolding zip_with
forced_back fs us vs = go fs (drop (length fs) us) (drop (length fs) vs)
  where
    go : (fs : List (ℕ × Bool)) (x y : List ℕ)
        → forced_in (map (λ (f : ℕ × Bool). f.0) fs ++ x) (map (λ (f : ℕ × Bool). cond f.1 1 0) fs ++ y) (length fs) ≡ fs
    go [] x y = refl
    go (f ∷ fs) x y = ap₂ ◌∷◌ (ap (λ (v : Bool). (f.0, v)) (bool_back f.1)) (go fs x y)

-- ---- one atom forced in the masks

-- what is decided of an atom, by whether it is held and whether it is cut
is_held_lem : (d : Option Bool) → is_held d ≡ true → d ≡ some true
is_held_lem none e = absurd (true≢false (sym e))
is_held_lem (some w) e = ap some e

is_cut_lem : (d : Option Bool) → is_cut d ≡ true → d ≡ some false
is_cut_lem none e = absurd (true≢false (sym e))
is_cut_lem (some true) e = absurd (true≢false (sym e))
is_cut_lem (some false) e = refl

is_open_lem : (d : Option Bool) → is_held d ≡ false → is_cut d ≡ false → d ≡ none
is_open_lem none e l = refl
is_open_lem (some true) e l = absurd (true≢false e)
is_open_lem (some false) e l = absurd (true≢false l)

against_held : (v : Bool) → not v ≡ not (beq true v)
against_held true = refl
against_held false = refl

against_cut : (v : Bool) → v ≡ not (beq false v)
against_cut true = refl
against_cut false = refl

unpack_fits : (k w x i : ℕ) → get_or (unpack k w x) i 0 < 2 ^ k
unfolding unpack
unpack_fits k zero x i = pow_pos k
unpack_fits k (suc w) x zero = mod-lt x (pow_pos k)
unpack_fits k (suc w) x (suc i) = unpack_fits k w (x / 2 ^ k) i

eight_words : (p : Decisions) → Eight (region_of p)
unfolding region_of
eight_words p = record {
  held_length = unpack_length 64 8 (mask_of (map is_held p));
  cut_length = unpack_length 64 8 (mask_of (map is_cut p));
  held_fits = unpack_fits 64 8 (mask_of (map is_held p));
  cut_fits = unpack_fits 64 8 (mask_of (map is_cut p));
}

module _ (a : Atom) (v : Bool) (n : ℕ) (b : Batch) (can : Forcible b a.0) where
  abbrev was : Option Bool
  was = get_or b.decisions a.0 none

  onward : (d : Option Bool) → was ≡ d → forced_on b a.0 v d ≡ next b (a.0, v)
  onward d e = ap (forced_on b a.0 v) (sym e) ∙ sym (next_on b (a.0, v) can.going)

  -- an open atom's bit set in the mask of its value
  taking_is : was ≡ none → taking v (region_of b.decisions) a.0 ≡ region_of (set b.decisions a.0 (some v))
  taking_is e =
      ap (λ (q : Result Answer Refusal × Region). q.1)
      (taken (region_of b.decisions) a (decide_fits b.decisions can.few a can.below) (eight_words b.decisions) v (without v) (without (not v))
      ∙ decide_known v b.decisions can.few a can.below ∙ ap (λ (d : Option Bool). let made = decided b.decisions a.0 v d in said made.1 made.0) e)
    where
      without : (w : Bool) → has (set_of (mask_at w (region_of b.decisions))) a.0 ≡ false
      without true = held_has b.decisions can.few a.0 ∙ ap is_held e
      without false = cut_has b.decisions can.few a.0 ∙ ap is_cut e

  module _ (held cut : List ℕ) (t : Tally) (is : tallied n held cut t ≡ applied_of b) where
    held_is : has (set_of held) a.0 ≡ is_held was
    held_is = ap (λ (s : Applied). has (set_of s.region.held) a.0) is ∙ held_has b.decisions can.few a.0

    cut_is : has (set_of cut) a.0 ≡ is_cut was
    cut_is = ap (λ (s : Applied). has (set_of s.region.cut) a.0) is ∙ cut_has b.decisions can.few a.0

    stands : (against : Bool) (w : Bool) → against ≡ not (beq w v) → was ≡ some w
        → tallied n held cut (record { held = t.held; cut = t.cut; against = against }) ≡ applied_of (next b (a.0, v))
    stands against w says e =
        ap₂ (λ (s : Applied) (o : Bool). record { region = s.region; tally = record { held = s.tally.held; cut = s.tally.cut; against = o } }) is says
        ∙ ap applied_of (onward (some w) e)

    pub forcing_held : has (set_of held) a.0 ≡ true
        → tallied n held cut (record { held = t.held; cut = t.cut; against = not v }) ≡ applied_of (next b (a.0, v))
    forcing_held e = stands (not v) true (against_held v) (is_held_lem was (sym held_is ∙ e))

    pub forcing_cut : has (set_of cut) a.0 ≡ true
        → tallied n held cut (record { held = t.held; cut = t.cut; against = v }) ≡ applied_of (next b (a.0, v))
    forcing_cut e = stands v false (against_cut v) (is_cut_lem was (sym cut_is ∙ e))

    module _ (unheld : has (set_of held) a.0 ≡ false) (uncut : has (set_of cut) a.0 ≡ false) where
      forcing_open : tallied n (cond v (inserted held a.0) held) (cond v cut (inserted cut a.0))
          (record { held = t.held + cond v 1 0; cut = t.cut + cond v 0 1; against = false })
          ≡ applied_of (next b (a.0, v))
      forcing_open =
          let free = is_open_lem was (sym held_is ∙ unheld) (sym cut_is ∙ uncut) in
          ap (λ (s : Applied). record { region = taking v s.region a.0; tally = record { held = s.tally.held + cond v 1 0; cut = s.tally.cut + cond v 0 1; against = false } }) is
          ∙ ap (λ (r : Region). record { region = r; tally = record { held = b.held + cond v 1 0; cut = b.cut + cond v 0 1; against = false } }) (taking_is free)
          ∙ ap applied_of (onward none free)

      pub forcing_into_held : (held' : List ℕ) → held' ≡ inserted held a.0 → v ≡ true
          → tallied n held' cut (record { held = t.held + 1; cut = t.cut; against = false }) ≡ applied_of (next b (a.0, v))
      forcing_into_held held' made e =
          ap (λ (ws : List ℕ). tallied n ws cut (record { held = t.held + 1; cut = t.cut; against = false })) made
          ∙ ap (λ (k : ℕ). tallied n (inserted held a.0) cut (record { held = t.held + 1; cut = k; against = false })) (sym (add-zero t.cut))
          ∙ ap (λ (w : Bool). tallied n (cond w (inserted held a.0) held) (cond w cut (inserted cut a.0))
          (record { held = t.held + cond w 1 0; cut = t.cut + cond w 0 1; against = false })) (sym e)
          ∙ forcing_open

      pub forcing_into_cut : (cut' : List ℕ) → cut' ≡ inserted cut a.0 → v ≡ false
          → tallied n held cut' (record { held = t.held; cut = t.cut + 1; against = false }) ≡ applied_of (next b (a.0, v))
      forcing_into_cut cut' made e =
          ap (λ (ws : List ℕ). tallied n held ws (record { held = t.held; cut = t.cut + 1; against = false })) made
          ∙ ap (λ (k : ℕ). tallied n held (inserted cut a.0) (record { held = k; cut = t.cut + 1; against = false })) (sym (add-zero t.held))
          ∙ ap (λ (w : Bool). tallied n (cond w (inserted held a.0) held) (cond w cut (inserted cut a.0))
          (record { held = t.held + cond w 1 0; cut = t.cut + cond w 0 1; against = false })) (sym e)
          ∙ forcing_open

-- an atom and a value that are entry i of the lists
pub made_at : (us vs : List ℕ) (i a v : ℕ) (held cut : List ℕ) (t : Tally) (held' cut' : List ℕ) (t' : Tally) → a ≡ get_or us i 0 → v ≡ get_or vs i 0
    → Forcing a (eqb v 1) held cut t held' cut' t' → Forcing (get_or us i 0) (eqb (get_or vs i 0) 1) held cut t held' cut' t'
made_at us vs i a v held cut t held' cut' t' is-a is-v made =
    subst (λ (b : ℕ). Forcing b (eqb (get_or vs i 0) 1) held cut t held' cut' t') is-a
    (subst (λ (w : ℕ). Forcing a (eqb w 1) held cut t held' cut' t') is-v made)

-- ---- the list applied up to entry i, none of it against

pub record Upto (r : Region) (us vs : List ℕ) (i : ℕ) (held cut : List ℕ) (t : Tally) : Type 0 where
  pub is : tallied r.atoms held cut t ≡ applied_of (applied (begun (decisions r)) (forced_in us vs i))
  pub going : t.against ≡ false
  pub held_few : t.held ≤ i
  pub cut_few : t.cut ≤ i

pub upto_start : (r : Region) (us vs : List ℕ) → region_of (decisions r) ≡ r
    → Upto r us vs 0 r.held r.cut (record { held = 0; cut = 0; against = false })
unfolding applied zip_with
upto_start r us vs back = record {
  is = ap (λ (s : Region). record { region = s; tally = record { held = 0; cut = 0; against = false } }) (sym back);
  going = refl;
  held_few = omega arith;
  cut_few = omega arith;
}

module _ {r : Region} {us vs held cut held' cut' : List ℕ} {forced i : ℕ} {t t' : Tally} (fit : Applicable r forced us vs) (turn : i < forced) (u : Upto r us vs i held cut t)
    (made : Forcing (get_or us i 0) (eqb (get_or vs i 0) 1) held cut t held' cut' t') where
  abbrev so_far : Batch
  so_far = applied (begun (decisions r)) (forced_in us vs i)

  long : length so_far.decisions ≡ r.atoms
  long = applied_length (begun (decisions r)) (forced_in us vs i) ∙ decisions_length r

  forcible : Forcible so_far (get_or us i 0)
  forcible = record {
    few = omega (arith, long, (fitting r fit.fit).few);
    below = omega (arith, long, fit.below i turn);
    going = sym (ap (λ (s : Applied). s.tally.against) u.is) ∙ u.going;
  }

  onto : tallied r.atoms held' cut' t' ≡ applied_of (next so_far (get_or us i 0, eqb (get_or vs i 0) 1))
  onto = made r.atoms so_far forcible u.is

  after_is : tallied r.atoms held' cut' t' ≡ applied_of (applied (begun (decisions r)) (forced_in us vs (i + 1)))
  after_is =
      onto
      ∙ ap applied_of (sym (applied_next (begun (decisions r)) us vs i (omega (arith, fit.atoms_room)) (omega (arith, fit.values_room))))
      ∙ ap (λ (n : ℕ). applied_of (applied (begun (decisions r)) (forced_in us vs n))) (sym (add-one i))

  pub upto_next : t'.against ≡ false → Upto r us vs (i + 1) held' cut' t'
  upto_next e =
      let few = next_few so_far (get_or us i 0, eqb (get_or vs i 0) 1) in
      record {
        is = after_is;
        going = e;
        held_few = omega (arith, few.0, ap (λ (s : Applied). s.tally.held) onto, ap (λ (s : Applied). s.tally.held) u.is, u.held_few);
        cut_few = omega (arith, few.1, ap (λ (s : Applied). s.tally.cut) onto, ap (λ (s : Applied). s.tally.cut) u.is, u.cut_few);
      }

  pub upto_against : t'.against ≡ true
      → tallied r.atoms held' cut' t' ≡ applied_of (applied (begun (decisions r)) (forced_in us vs forced))
  upto_against e =
      after_is
      ∙ ap applied_of (sym (applied_stays (begun (decisions r)) us vs (i + 1) forced (omega arith) (sym (ap (λ (s : Applied). s.tally.against) after_is) ∙ e)))
