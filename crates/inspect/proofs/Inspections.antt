-- What an inspection leaves, and so the promises: region and knowledge stand, or the region gains what follows and was published as it came.
use Prim.Native.Nat.{ℕ, ◌+◌}
use mathlib.Core.Path.{◌≡◌, refl, sym, ap, subst, ◌∙◌}
use mathlib.Core.List.{List}
use mathlib.Core.Bool.{Bool, true, false, ◌&&◌, true≢false}
use mathlib.Core.Option.{none, some}
use native.Mathlib.Omega.{arith}
use lib.ListN.{length, get_or, take}
use lib.Dec.{eqb}
use Rattle.rows.specs.Row.{Assignment, meets_all}
use Rattle.rows.specs.Decisions.{Decisions, agrees}
use Rattle.std.specs.Prelude.{Result, Ok, Err}
use Rattle.refusal.specs.Refusal.{answered}
use Rattle.refusal.specs.declared.Refusal.{Refusal}
use Rattle.parity.specs.Basis.{basis_of}
use Rattle.parity.specs.Prepare.{Lent, prepare_check, prepared}
use Rattle.parity.specs.Promises.{handed_in}
use Rattle.parity.specs.declared.System.{System}
use Rattle.parity.proofs.Leaving.{prepare_keeps}
use Rattle.parity.proofs.Refit.{prepare_fits}
use Rattle.region.specs.Masks.{decisions, region_of}
use Rattle.region.specs.declared.Region.{Region}
use Rattle.region.proofs.Masked.{decisions_length, decisions_back}
use Rattle.snapshot.specs.Knowledge.{published}
use Rattle.snapshot.specs.declared.Snapshot.{Snapshot}
use Rattle.inspect.specs.Batch.{Batch, begun, applied}
use Rattle.inspect.specs.Inspect.{is_refuted, refutes, region_in, known_in, Filled, Outcome, inspect_check, answer_of, found, inspected, inspect_of}
use Rattle.inspect.specs.Promises.{basis_in, filled_by, ForcedFollow, RefutedNone, PreparedRefuted, RegionGains}
use Rattle.inspect.specs.declared.Inspected.{Inspected}
use Rattle.inspect.specs.declared.Step.{Step}
use Rattle.inspect.specs.declared.Step.TheVariants.{Unchanged, Changed}
use Rattle.inspect.proofs.Fits.{checked_fits}
use Rattle.inspect.proofs.Following.{chosen, Followed, followed}
use Rattle.inspect.proofs.Batches.{Along, along, gains, applied_length}

not_against : (held cut : ℕ) (against : Bool) → against ≡ false → is_refuted (answer_of held cut against) ≡ false
not_against held cut true e = absurd (true≢false e)
not_against held cut false e = chosen (λ (a : Step). is_refuted a ≡ false) (eqb (held + cut) 0) Unchanged Changed (λ t. refl) (λ t. refl)

module _ (s : System) (l : Filled) (r : Region) (known : Snapshot) where
  -- what the forced list comes to, and the decisions then
  abbrev batch : Batch
  batch = applied (begun (decisions r)) (found s l r known).forced

  abbrev pub grown : Decisions
  grown = batch.decisions

  pub grown_length : length grown ≡ r.atoms
  grown_length = applied_length (begun (decisions r)) (found s l r known).forced ∙ decisions_length r

  module _ (atoms values : List ℕ) where
    abbrev fit : Type 0
    fit = inspect_check s l r known (length atoms) (length values) ≡ Ok tt

    abbrev o : Result Inspected Refusal
    o = (inspect_of s l r known atoms values).result

    -- a fact of what a call answers, taken or refused
    called : (T : Result Inspected Refusal → Type 0) → (fit → T (Ok (inspected s l r known atoms values).result)) → ((refusal : Refusal) → T (Err refusal)) → T o
    unfolding inspect_of
    called T taken refused = go (inspect_check s l r known (length atoms) (length values)) refl
      where
        go : (check : Result Unit Refusal) → inspect_check s l r known (length atoms) (length values) ≡ check
            → T (answered check (inspected s l r known atoms values).result)
        go (Ok done) e = taken e
        go (Err refusal) e = refused refusal

    -- a fact of the region and knowledge left: both stand, or the one has grown and the other is the region as it came
    pub leaves : (T : Region → Snapshot → Type 0) → T r known → (fit → T (region_of grown) (published r)) → T (region_in r o) (known_in known o)
    leaves T stays grows =
        let made : Outcome Inspected → Type 0 = λ (c : Outcome Inspected). T c.result.region c.result.known in
        called (λ (c : Result Inspected Refusal). T (region_in r c) (known_in known c)) (λ e.
        chosen made s.refuted _ _ (λ t. stays) (λ t.
        chosen made (eqb s.rank 0) _ _ (λ t. stays) (λ t.
        chosen (λ (i : Inspected). T i.region i.known) (found s l r known).sound _ _ (λ t. grows e) (λ t. stays))))
        (λ refusal. stays)

    -- the same of the decisions alone
    pub decides : (T : Decisions → Type 0) → T (decisions r) → T grown → T (decisions (region_in r o))
    decides T stays grows =
        leaves (λ q k. T (decisions q)) stays (λ e.
        let fits = checked_fits s l r known (length atoms) (length values) e in
        subst T (sym (decisions_back grown (omega (arith, grown_length, fits.same_atoms, fits.lent.atoms)))) grows)

    -- what meets the basis rows and agrees with the region goes on agreeing, and is not refuted
    module _ (x : Assignment) (met : meets_all (basis_in s l) x ≡ true) (agree : agrees (decisions r) x ≡ true) where
      follows : Followed x (found s l r known)
      follows = followed (decisions r) x agree _ (basis_in s l) met

      goes : Along x batch
      goes = along x (begun (decisions r)) (found s l r known).forced follows.forced (record { agree = agree; unopposed = refl })

      still_agrees : agrees (decisions (region_in r o)) x ≡ true
      still_agrees = decides (λ p. agrees p x ≡ true) agree goes.agree

      stands : s.refuted ≡ false → refutes o ≡ false
      stands sound =
          let unrefuted : Outcome Inspected → Type 0 = λ (c : Outcome Inspected). is_refuted c.result.answer ≡ false in
          called (λ (c : Result Inspected Refusal). refutes c ≡ false) (λ e.
          chosen unrefuted s.refuted _ _ (λ t. absurd (true≢false (sym t ∙ sound))) (λ t.
          chosen unrefuted (eqb s.rank 0) _ _ (λ t. refl) (λ t.
          chosen (λ (i : Inspected). is_refuted i.answer ≡ false) (found s l r known).sound _ _ (λ t.
          not_against batch.held batch.cut batch.against goes.unopposed)
          (λ t. absurd (true≢false (sym follows.sound ∙ t))))))
          (λ refusal. refl)

-- ---- the promises

pub forced_follow : ForcedFollow
forced_follow = still_agrees

pub refuted_none : RefutedNone
refuted_none s l r known atoms values x sound answer = go (meets_all (basis_in s l) x) (agrees (decisions r) x) refl refl
  where
    go : (m a : Bool) → meets_all (basis_in s l) x ≡ m → agrees (decisions r) x ≡ a → (m && a) ≡ false
    go true true met agree = absurd (true≢false (sym answer ∙ stands s l r known atoms values x met agree sound))
    go true false met agree = refl
    go false a met agree = refl

pub region_gains : RegionGains
region_gains s l r known atoms values a v e =
    decides s l r known atoms values (λ p. get_or p a none ≡ some v) e (gains (begun (decisions r)) (found s l r known).forced a v e)

-- preparation's own system: its basis rows are met by what meets the rows handed in
module _ (n m : ℕ) (l : Lent) (fit : prepare_check n m l ≡ Ok tt) where
  abbrev system : System
  system = (prepared n m l).0.system

  abbrev memory : Filled
  memory = filled_by (prepared n m l).1

  pub basis_met : (x : Assignment) → system.refuted ≡ false → meets_all (basis_in system memory) x ≡ meets_all (handed_in n m l) x
  basis_met x sound =
      ap (λ (k : ℕ). meets_all (basis_of k memory.rows memory.constants (take system.rank memory.basis)) x) (prepare_fits n m l fit).atoms
      ∙ (prepare_keeps n m l x fit).0 sound

  refuted_both : (r : Region) (known : Snapshot) (atoms values : List ℕ) (x : Assignment)
      → refutes (inspect_of system memory r known atoms values).result ≡ true
      → (b : Bool) → system.refuted ≡ b → (meets_all (handed_in n m l) x && agrees (decisions r) x) ≡ false
  refuted_both r known atoms values x answer true e = ap (λ (b : Bool). b && agrees (decisions r) x) ((prepare_keeps n m l x fit).1 e)
  refuted_both r known atoms values x answer false e =
      ap (λ (b : Bool). b && agrees (decisions r) x) (sym (basis_met x e)) ∙ refuted_none system memory r known atoms values x e answer

pub prepared_refuted : PreparedRefuted
prepared_refuted n m l r known atoms values x fit answer =
    refuted_both n m l fit r known atoms values x answer (prepared n m l).0.system.refuted refl
