-- Demand 3: the ways are the assignments that agree with the region and meet the basis rows, and the probe tells their number.
use Prim.Native.Nat.{ℕ, ◌-◌, ◌^◌, ◌≤◌}
use mathlib.Core.Path.{◌≡◌, refl, sym, ap, ◌∙◌}
use mathlib.Core.List.{List, [], ◌∷◌, reverse}
use mathlib.Core.Bool.{Bool, true, false, ◌&&◌, and_comm, false≢true}
use mathlib.Core.Option.{Option, none}
use native.Mathlib.Omega.{arith}
use borrow.Author.Tests.{le-ltb}
use lib.ListN.{length, length-replicate}
use Rattle.std.specs.Result.{result_unwrap_or}
use Rattle.rows.specs.Row.{Row, Assignment, meets_all}
use Rattle.rows.specs.Count.{count}
use Rattle.rows.specs.Decisions.{agrees, undecided}
use Rattle.rows.proofs.Counting.{count_ext, count_none}
use Rattle.echelon.proofs.Sorted.{free, free_agrees}
use Rattle.std.specs.Prelude.{Ok}
use Rattle.refusal.specs.Refusal.{checked, answered}
use Rattle.refusal.specs.declared.Refusal.TheVariants.{Overfull}
use Rattle.parity.specs.Prepare.{Lent, prepare_check, prepared}
use Rattle.parity.specs.Promises.{handed_in}
use Rattle.parity.specs.declared.Prepared.{Prepared}
use Rattle.parity.proofs.Leaving.{prepare_keeps}
use Rattle.parity.proofs.Refit.{prepare_fits}
use Rattle.region.specs.Masks.{decisions, region_of}
use Rattle.region.specs.Calls.{undecided_of, region_check}
use Rattle.region.specs.declared.Region.{Region}
use Rattle.region.proofs.Masked.{decisions_length, decisions_back, region_fits}
use Rattle.inspect.specs.Promises.{basis_in, filled_by}
use Rattle.inspect.specs.Run.{Call, begins, after}
use Rattle.inspect.proofs.Following.{chosen}
use Rattle.inspect.proofs.Inspections.{basis_met}
use Rattle.inspect.proofs.Runs.{unknown, Reached, after_reached, lent_fit}
use Rattle.probe.specs.Elimination.{eliminated}
use Rattle.probe.specs.Probe.{told_of, probed}
use Rattle.embed.specs.Parts.{Part, FitParts, all_rows}
use Rattle.ways.specs.Ways.{demands_all, LendsAll, way, WaysCounted}
use Rattle.probe.specs.declared.Probed.{Probed}
use Rattle.probe.proofs.Counted.{kept_few, where_true, probe_counts}
use Rattle.ways.proofs.Handed.{handed_met}
use Rattle.ways.proofs.Lasting.{lasting}
use Rattle.ways.proofs.Unrefused.{prepared_probed}

begins_free : (n : ℕ) → n ≤ 512 → (begins n).region ≡ region_of (free n)
unfolding undecided_of
begins_free n few =
    ap (λ (t : Bool). result_unwrap_or (answered (checked ((Overfull, t) ∷ [])) (region_of (free n))) (region_of [])) (le-ltb 512 n few)

module _ (n m : ℕ) (parts : List Part) (l : Lent) (cs : List Call) (fit : FitParts n parts) (handed : handed_in n m l ≡ reverse (all_rows n parts))
    (checks : prepare_check n m l ≡ Ok tt) (lends : LendsAll (prepared n m l) (begins n) cs) where
  abbrev done : Prepared × Lent
  done = prepared n m l

  abbrev basis : List Row
  basis = basis_in done.0.system (filled_by done.1)

  abbrev region : Region
  region = (after (begins n) cs).region

  abbrev ways : ℕ
  ways = count n (way parts (begins n) cs)

  -- ---- the region that the calls lead to

  few : n ≤ 512
  few = (lent_fit n m done (prepare_fits n m l checks)).atoms

  free_few : length (free n) ≤ 512
  free_few = omega (arith, length-replicate {A = Option Bool} n none, few)

  ran : Reached (free n) region (after (begins n) cs).known
  ran = after_reached (free n) free_few (begins n) (begins_free n few) unknown cs

  ran_few : length ran.now ≤ 512
  ran_few = omega (arith, ran.long, free_few)

  ran_long : length (decisions region) ≡ n
  ran_long = ap length (ap decisions ran.is ∙ decisions_back ran.now ran_few) ∙ ran.long ∙ length-replicate n none

  -- ---- the ways

  way_never : done.0.system.refuted ≡ true → (x : Assignment) → way parts (begins n) cs x ≡ false
  way_never e x = ap (λ (t : Bool). t && demands_all (begins n) cs x) (handed_met n m parts l x fit handed ∙ (prepare_keeps n m l x checks).1 e)

  way_is : done.0.system.refuted ≡ false → (x : Assignment) → length x ≡ n
      → way parts (begins n) cs x ≡ (agrees (decisions region) x && meets_all basis x)
  way_is e x long =
      let asked = demands_all (begins n) cs x in
      let start : length x ≡ length (free n) = long ∙ sym (length-replicate n none) in
      ap (λ (t : Bool). t && asked) (handed_met n m parts l x fit handed ∙ sym (basis_met n m l checks x e))
      ∙ where_true (meets_all basis x) asked (agrees (decisions region) x)
      (λ met.
      sym (lasting done x met (free n) free_few start (begins n) (begins_free n few) unknown cs lends
      ∙ ap (λ (t : Bool). t && asked) (free_agrees n x long)))
      ∙ and_comm (meets_all basis x) (agrees (decisions region) x)

  -- ---- what the probe tells

  abbrev Told : Probed → Type 0
  Told q =
      (q.undecided ≡ undecided (decisions region))
      × (q.yes ≡ true → (q.kept ≤ q.undecided) × (ways ≡ 2 ^ (q.undecided - q.kept)))
      × (q.yes ≡ false → ways ≡ 0)

  refuted_told : done.0.system.refuted ≡ true → Told (told_of false (undecided (decisions region)) 0)
  refuted_told e = (refl, (λ h. absurd (false≢true h)), (λ h. count_ext (λ x long. way_never e x) ∙ count_none n))

  sound_told : done.0.system.refuted ≡ false
      → let kept = eliminated (decisions region) basis in Told (told_of kept.sound (undecided (decisions region)) (length kept.rows))
  sound_told e =
      let same : ways ≡ count (length (decisions region)) (λ x. agrees (decisions region) x && meets_all basis x) =
      count_ext (way_is e) ∙ ap (λ (k : ℕ). count k (λ x. agrees (decisions region) x && meets_all basis x)) (sym ran_long) in
      let counts = probe_counts (decisions region) basis in
      (refl, (λ h. (kept_few (decisions region) basis, same ∙ counts.0 h)), (λ h. same ∙ counts.1 h))

  region_fit : region_check region ≡ Ok tt
  region_fit = ap region_check ran.is ∙ region_fits ran.now ran_few

pub ways_counted : WaysCounted
ways_counted n m parts l cs (fit, handed, checks, lends) =
    let told = Told n m parts l cs fit handed checks lends in
    let p = prepared n m l in
    let r = (after (begins n) cs).region in
    let long = ran_long n m parts l cs fit handed checks lends in
    let q = probed p.0.system p.1.rows p.1.constants p.1.basis r in
    let all : told q =
    chosen told p.0.system.refuted _ _ (refuted_told n m parts l cs fit handed checks lends) (sound_told n m parts l cs fit handed checks lends) in (
      q,
      prepared_probed n m p (prepare_fits n m l checks) r (region_fit n m parts l cs fit handed checks lends) (sym (decisions_length r) ∙ long),
      all.0,
      all.1,
      all.2,
    )
