-- What lasts over a list of calls: among the assignments that meet the basis rows, those that agree with the region are those that agree with
-- the decisions accepted from the caller.
use Prim.Native.Nat.{ℕ, suc, ◌≤◌}
use mathlib.Core.Path.{◌≡◌, refl, sym, ap, ap₂, ◌∙◌}
use mathlib.Core.List.{List, [], ◌∷◌}
use mathlib.Core.Bool.{Bool, true, false, cond, ◌&&◌, beq, and-true, and_assoc}
use mathlib.Core.Option.{none, some}
use native.Mathlib.Omega.{arith}
use borrow.Author.Tests.{eqb-true, eqb-false}
use lib.ListN.{length, get_or}
use lib.Dec.{eqb}
use Rattle.rows.specs.Row.{Assignment, meets_all}
use Rattle.rows.specs.Decisions.{Decisions, agrees}
use Rattle.rows.specs.declared.Atom.{Atom}
use Rattle.std.specs.Prelude.{Result, Ok, Err}
use Rattle.refusal.specs.Refusal.{answered, number_in}
use Rattle.refusal.specs.declared.Refusal.{Refusal}
use Rattle.parity.specs.Prepare.{Lent}
use Rattle.parity.specs.declared.System.{System}
use Rattle.parity.specs.declared.Prepared.{Prepared}
use Rattle.region.specs.Masks.{decisions, region_of, is_held}
use Rattle.region.specs.Calls.{accepted}
use Rattle.region.specs.Promises.{deciding}
use Rattle.region.specs.declared.Region.{Region}
use Rattle.region.proofs.Masked.{decisions_back}
use Rattle.region.proofs.Standing.{Gains, accepted_stands, others_stay}
use Rattle.snapshot.specs.declared.Snapshot.{Snapshot}
use Rattle.inspect.specs.Inspect.{Filled, region_in, inspect_check, inspected, inspect_of}
use Rattle.inspect.specs.Promises.{basis_in, filled_by}
use Rattle.inspect.specs.Run.{Call, hold, cut, inspect, State, step, after}
use Rattle.inspect.specs.declared.Inspected.{Inspected}
use Rattle.inspect.proofs.Following.{chosen}
use Rattle.inspect.proofs.Batches.{beq_self, beq_same, agrees_at}
use Rattle.inspect.proofs.Inspections.{forced_follow}
use Rattle.inspect.proofs.Runs.{Ancestor, after_reached, inspect_taken}
use Rattle.ways.specs.Ways.{demands, demands_all, Lends, LendsAll}

-- ---- agreeing, atom by atom

agrees_each : (p : Decisions) (x : Assignment) → length x ≡ length p → ((a : ℕ) (v : Bool) → get_or p a none ≡ some v → get_or x a false ≡ v)
    → agrees p x ≡ true
agrees_each [] [] long h = refl
agrees_each [] (v ∷ x) long h = let z : ⊥ = omega arith in absurd z
agrees_each (d ∷ p) [] long h = let z : ⊥ = omega arith in absurd z
agrees_each (none ∷ p) (v ∷ x) long h = agrees_each p x (omega arith) (λ a w e. h (suc a) w e)
agrees_each (some b ∷ p) (v ∷ x) long h =
    ap₂ ◌&&◌ (ap (beq b) (h 0 b refl) ∙ beq_self b) (agrees_each p x (omega arith) (λ a w e. h (suc a) w e))

agrees_fewer : (p q : Decisions) (x : Assignment) → length x ≡ length p → Gains p q → agrees q x ≡ true → agrees p x ≡ true
agrees_fewer p q x long gains agree = agrees_each p x long (λ a v e. agrees_at q x a v agree (gains a v e))

-- ---- hold and cut

module _ (v : Bool) (r : Region) (a : Atom) (x : Assignment) where
  abbrev then : Decisions
  then = decisions (deciding v r a).1

  abbrev demanded : Bool → Bool
  demanded t = cond t (beq (get_or x a.0 false) v) true

  decide_demands : agrees then x ≡ true → demanded (accepted (deciding v r a).0) ≡ true
  decide_demands agree =
      chosen (λ (t : Bool). t ≡ true) (accepted (deciding v r a).0) (beq (get_or x a.0 false) v) true
      (λ e. ap (λ (b : Bool). beq b v) (agrees_at then x a.0 v agree (accepted_stands v r a e)) ∙ beq_self v) (λ e. refl)

  decide_agrees : length x ≡ length then → agrees (decisions r) x ≡ true → demanded (accepted (deciding v r a).0) ≡ true → agrees then x ≡ true
  decide_agrees long agree = go (accepted (deciding v r a).0) refl
    where
      at : accepted (deciding v r a).0 ≡ true → get_or x a.0 false ≡ v → (b : ℕ) (w : Bool) → get_or then b none ≡ some w
          → (t : Bool) → eqb b a.0 ≡ t → get_or x b false ≡ w
      at e h b w f true s =
          let same = eqb-true b a.0 s in
          let value : v ≡ w = ap is_held (sym (accepted_stands v r a e) ∙ ap (λ (c : ℕ). get_or then c none) (sym same) ∙ f) in
          ap (λ (c : ℕ). get_or x c false) same ∙ h ∙ value
      at e h b w f false s = agrees_at (decisions r) x b w agree (sym ((others_stay v r a).0 b (eqb-false b a.0 s)) ∙ f)

      go : (t : Bool) → accepted (deciding v r a).0 ≡ t → demanded t ≡ true → agrees then x ≡ true
      go true e h = agrees_each then x long (λ b w f. at e (beq_same (get_or x a.0 false) v h) b w f (eqb b a.0) refl)
      go false e h = ap (λ (p : Decisions). agrees p x) ((others_stay v r a).1 e) ∙ agree

-- ---- inspect

module _ (s : System) (l : Filled) (r : Region) (known : Snapshot) (atoms values : List ℕ) where
  abbrev o : Result Inspected Refusal
  o = (inspect_of s l r known atoms values).result

  -- refused, it leaves the region
  refused_back : (refusal : Refusal) → inspect_check s l r known (length atoms) (length values) ≡ Err refusal → region_in r o ≡ r
  unfolding inspect_of
  refused_back refusal e = ap (λ check. region_in r (answered check (inspected s l r known atoms values).result)) e

  inspect_agrees : (x : Assignment) → (number_in o ≡ 0 → meets_all (basis_in s l) x ≡ true) → agrees (decisions r) x ≡ true
      → agrees (decisions (region_in r o)) x ≡ true
  inspect_agrees x met agree = go (inspect_check s l r known (length atoms) (length values)) refl
    where
      go : (check : Result Unit Refusal) → inspect_check s l r known (length atoms) (length values) ≡ check → agrees (decisions (region_in r o)) x ≡ true
      go (Ok done) e = forced_follow s l r known atoms values x (met (inspect_taken s l r known atoms values e)) agree
      go (Err refusal) e = ap (λ (q : Region). agrees (decisions q) x) (refused_back refusal e) ∙ agree

-- ---- one call, and a list of them

both_ways : (a b c : Bool) → (a ≡ true → b ≡ true) → (a ≡ true → c ≡ true) → (b ≡ true → c ≡ true → a ≡ true) → a ≡ (b && c)
both_ways true b c h g k = sym (ap₂ ◌&&◌ (h refl) (g refl))
both_ways false true true h g k = k refl refl
both_ways false true false h g k = refl
both_ways false false c h g k = refl

module _ (q : Prepared × Lent) (x : Assignment) (met : meets_all (basis_in q.0.system (filled_by q.1)) x ≡ true) where
  step_demands : (st : State) (c : Call) → agrees (decisions (step st c).region) x ≡ true → demands st c x ≡ true
  step_demands st (hold a) = decide_demands true st.region a x
  step_demands st (cut a) = decide_demands false st.region a x
  step_demands st (inspect s l atoms values) = λ agree. refl

  step_agrees : (st : State) (c : Call) → Lends q st c → length x ≡ length (decisions (step st c).region) → agrees (decisions st.region) x ≡ true
      → demands st c x ≡ true → agrees (decisions (step st c).region) x ≡ true
  step_agrees st (hold a) lends long agree h = decide_agrees true st.region a x long agree h
  step_agrees st (cut a) lends long agree h = decide_agrees false st.region a x long agree h
  step_agrees st (inspect s l atoms values) lends long agree h =
      inspect_agrees s l st.region st.known atoms values x
      (λ e. ap₂ (λ (t : System) (f : Filled). meets_all (basis_in t f) x) (lends e).0 (lends e).1 ∙ met) agree

  -- from the region of decisions p
  step_lasts : (p : Decisions) (few : length p ≤ 512) → length x ≡ length p → (st : State) (is : st.region ≡ region_of p)
      (k : Ancestor p st.known) (c : Call) → Lends q st c → agrees (after_reached p few st is k (c ∷ [])).now x ≡ (agrees p x && demands st c x)
  step_lasts p few long st is k c lends =
      let one = after_reached p few st is k (c ∷ []) in
      let left : decisions (step st c).region ≡ one.now = ap decisions one.is ∙ decisions_back one.now (omega (arith, one.long)) in
      let same : agrees (decisions (step st c).region) x ≡ agrees one.now x = ap (λ (d : Decisions). agrees d x) left in
      both_ways (agrees one.now x) (agrees p x) (demands st c x) (agrees_fewer p one.now x long one.gains) (λ h. step_demands st c (same ∙ h))
      (λ h g.
      sym same
      ∙ step_agrees st c lends (long ∙ sym (ap length left ∙ one.long))
      (ap (λ (d : Decisions). agrees d x) (ap decisions is ∙ decisions_back p few) ∙ h) g)

  pub lasting : (p : Decisions) → length p ≤ 512 → length x ≡ length p → (st : State) → st.region ≡ region_of p → Ancestor p st.known → (cs : List Call)
      → LendsAll q st cs → agrees (decisions (after st cs).region) x ≡ (agrees p x && demands_all st cs x)
  lasting p few long st is k [] lends =
      ap (λ (d : Decisions). agrees d x) (ap decisions is ∙ decisions_back p few) ∙ sym (and-true (agrees p x))
  lasting p few long st is k (c ∷ cs) lends =
      let one = after_reached p few st is k (c ∷ []) in
      lasting one.now (omega (arith, one.long)) (long ∙ sym one.long) (step st c) one.is one.knows cs lends.1
      ∙ ap (λ (t : Bool). t && demands_all (step st c) cs x) (step_lasts p few long st is k c lends.0)
      ∙ and_assoc (agrees p x) (demands st c x) (demands_all (step st c) cs x)
