-- A decision in the region that hold and cut hand back: it stands if accepted, and no other is lost.
use Prim.Native.Nat.{ℕ, ◌≤◌, ◌<◌}
use mathlib.Core.Path.{◌≡◌, refl, sym, ap, ◌∙◌, subst}
use mathlib.Core.Bool.{Bool, true, false, cond, beq, true≢false, false≢true}
use mathlib.Core.Option.{Option, none, some}
use native.Mathlib.Omega.{arith}
use lib.ListN.{length, get_or, set, length-set}
use lib.Seq.{get_or-set_same, get_or-set_other}
use Rattle.rows.specs.Decisions.{Decisions}
use Rattle.rows.specs.declared.Atom.{Atom}
use Rattle.std.specs.Prelude.{Result, Ok, Err}
use Rattle.refusal.specs.Refusal.{answered, left}
use Rattle.refusal.specs.declared.Refusal.{Refusal}
use Rattle.region.specs.Masks.{decisions, region_of, is_open}
use Rattle.region.specs.Calls.{accepted, decide_check, decided, decide_of, hold_of, cut_of}
use Rattle.region.specs.Promises.{deciding, AcceptedStands, OthersStay, DecisionsStay, RegionHolds}
use Rattle.region.specs.declared.Region.{Region}
use Rattle.region.specs.declared.Answer.{Answer}
use Rattle.region.specs.declared.Answer.TheVariants.{Same, Against}
use Rattle.region.proofs.Masked.{decisions_length, decide_fitting, decisions_back, region_fits}

-- ---- decisions gained

-- Every decision of the one is one of the other.
abbrev pub Gains : Decisions → Decisions → Type 0
Gains p q = (a : ℕ) (v : Bool) → get_or p a none ≡ some v → get_or q a none ≡ some v

-- an open atom decided
pub set_gains : (p : Decisions) (a : ℕ) (v : Bool) → get_or p a none ≡ none → Gains p (set p a (some v))
set_gains p a v free b w e =
    get_or-set_other p a b (some v) none (λ same. false≢true (ap is_open (sym e ∙ ap (λ (c : ℕ). get_or p c none) same ∙ free))) ∙ e

-- ---- the two ways a decision can end

deciding_is : (v : Bool) (r : Region) (a : Atom) → decide_of v r a ≡ deciding v r a
unfolding hold_of cut_of
deciding_is true r a = refl
deciding_is false r a = refl

module _ (v : Bool) (r : Region) (a : Atom) where
  -- a decision that is not refused is looked at: the region has few atoms, and this is one of them
  looked_at : decide_check r a ≡ Ok tt → (length (decisions r) ≤ 512) × (a.0 < length (decisions r))
  looked_at e =
      let fit = decide_fitting r a e in
      let few = fit.0.few in
      (omega (arith, decisions_length r), omega (arith, decisions_length r, fit.1))

  abbrev made : Answer × Region
  made = decided (decisions r) a.0 v (get_or (decisions r) a.0 none)

  of_decide : (T : Result Answer Refusal × Region → Type 0)
      → (length (decisions r) ≤ 512 → a.0 < length (decisions r) → T (Ok made.0, made.1))
      → ((refusal : Refusal) → T (Err refusal, r)) → T (decide_of v r a)
  of_decide T fit refused = go (decide_check r a) refl
    where
      go : (check : Result Unit Refusal) → decide_check r a ≡ check → T (answered check made.0, left check made.1 r)
      go (Ok done) e = fit (looked_at e).0 (looked_at e).1
      go (Err refusal) e = refused refusal

  of_deciding : (T : Result Answer Refusal × Region → Type 0)
      → (length (decisions r) ≤ 512 → a.0 < length (decisions r) → T (Ok made.0, made.1))
      → ((refusal : Refusal) → T (Err refusal, r)) → T (deciding v r a)
  of_deciding T fit refused = subst T (deciding_is v r a) (of_decide T fit refused)

-- ---- decisions p of which those on atom a, d, are looked at

module _ (p : Decisions) (few : length p ≤ 512) (a : ℕ) (v : Bool) where
  back_set : decisions (region_of (set p a (some v))) ≡ set p a (some v)
  back_set = decisions_back (set p a (some v)) (omega (arith, length-set p a (some v)))

  made_stands : a < length p → (d : Option Bool) → get_or p a none ≡ d → accepted (Ok (decided p a v d).0) ≡ true
      → get_or (decisions (decided p a v d).1) a none ≡ some v
  made_stands lt none e h = ap (λ (q : Decisions). get_or q a none) back_set ∙ get_or-set_same p a (some v) none lt
  made_stands lt (some b) e h = ap (λ (q : Decisions). get_or q a none) (decisions_back p few) ∙ e ∙ ap some (same b v h)
    where
      same : (b v : Bool) → accepted (Ok (cond (beq b v) Same Against)) ≡ true → b ≡ v
      same true true h = refl
      same true false h = absurd (false≢true h)
      same false true h = absurd (false≢true h)
      same false false h = refl

  made_others : (d : Option Bool) (b : ℕ) → (b ≡ a → ⊥) → get_or (decisions (decided p a v d).1) b none ≡ get_or p b none
  made_others none b ne = ap (λ (q : Decisions). get_or q b none) back_set ∙ get_or-set_other p a b (some v) none ne
  made_others (some w) b ne = ap (λ (q : Decisions). get_or q b none) (decisions_back p few)

  made_against : (d : Option Bool) → accepted (Ok (decided p a v d).0) ≡ false → decisions (decided p a v d).1 ≡ p
  made_against none h = absurd (true≢false h)
  made_against (some w) h = decisions_back p few

  made_gains : (d : Option Bool) → get_or p a none ≡ d → Gains p (decisions (decided p a v d).1)
  made_gains none e = λ b w h. ap (λ (q : Decisions). get_or q b none) back_set ∙ set_gains p a v e b w h
  made_gains (some w) e = λ b u h. ap (λ (q : Decisions). get_or q b none) (decisions_back p few) ∙ h

-- ---- the region of decisions p, and one that gained on it

pub record Later (p : Decisions) (r : Region) : Type 0 where
  pub now : Decisions
  pub is : r ≡ region_of now
  pub long : length now ≡ length p
  pub gains : Gains p now

pub same_later : (p : Decisions) → Later p (region_of p)
same_later p = record { now = p; is = refl; long = refl; gains = λ a v e. e }

made_later : (p : Decisions) (a : ℕ) (v : Bool) (d : Option Bool) → get_or p a none ≡ d → Later p (decided p a v d).1
made_later p a v none e = record { now = set p a (some v); is = refl; long = length-set p a (some v); gains = set_gains p a v e }
made_later p a v (some w) e = same_later p

pub decide_later : (v : Bool) (p : Decisions) → length p ≤ 512 → (a : Atom) → Later p (deciding v (region_of p) a).1
decide_later v p few a =
    of_deciding v (region_of p) a (λ o. Later p o.1)
    (λ h lt. subst (λ (q : Decisions). Later p (decided q a.0 v (get_or q a.0 none)).1) (sym (decisions_back p few))
    (made_later p a.0 v (get_or p a.0 none) refl))
    (λ refusal. same_later p)

-- ---- the promises

pub accepted_stands : AcceptedStands
accepted_stands v r a =
    of_deciding v r a (λ o. accepted o.0 ≡ true → get_or (decisions o.1) a.0 none ≡ some v)
    (λ few lt. made_stands (decisions r) few a.0 v lt _ refl) (λ refusal h. absurd (false≢true h))

pub others_stay : OthersStay
others_stay v r a =
    of_deciding v r a (λ o.
    ((b : ℕ) → (b ≡ a.0 → ⊥) → get_or (decisions o.1) b none ≡ get_or (decisions r) b none)
    × (accepted o.0 ≡ false → decisions o.1 ≡ decisions r))
    (λ few lt. let d = get_or (decisions r) a.0 none in
    (made_others (decisions r) few a.0 v d, made_against (decisions r) few a.0 v d))
    (λ refusal. ((λ b ne. refl), (λ h. refl)))

pub decisions_stay : DecisionsStay
decisions_stay v r a =
    of_deciding v r a (λ o. Gains (decisions r) (decisions o.1)) (λ few lt. made_gains (decisions r) few a.0 v _ refl) (λ refusal b w h. h)

pub region_holds : RegionHolds
region_holds p few = (decisions_back p few, region_fits p few)
