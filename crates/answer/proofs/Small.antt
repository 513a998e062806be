-- The numbers that an inspection and a probe answer are at most 512, for every system, memory and region that is not refused.
use Prim.Native.Nat.{ℕ, ◌+◌, ◌≤◌, min}
use mathlib.Core.Path.{◌≡◌}
use mathlib.Core.List.{List, [], ◌∷◌, map}
use mathlib.Core.Bool.{Bool, true, false, cond, ◌&&◌, ◌||◌}
use mathlib.Core.Option.{Option, none, some}
use native.Mathlib.Omega.{arith}
use borrow.Author.Tests.{ltb-false}
use lib.ListN.{length, get_or, take}
use lib.Dec.{ltb, eqb}
use Rattle.rows.specs.Decisions.{Decisions, undecided}
use Rattle.std.specs.Prelude.{Ok}
use Rattle.fit.specs.Rows.{limit, overfull}
use Rattle.std.proofs.lemmas.Bool.{or_parts}
use Rattle.fit.proofs.Fitting.{passed}
use Rattle.parity.specs.Basis.{basis_of}
use Rattle.parity.specs.declared.System.{System}
use Rattle.region.specs.Masks.{decisions, is_held, is_open}
use Rattle.region.specs.declared.Region.{Region}
use Rattle.region.proofs.Masked.{decisions_length}
use Rattle.snapshot.specs.Touch.{touched_of}
use Rattle.snapshot.specs.Knowledge.{overfull_by}
use Rattle.snapshot.specs.declared.Snapshot.{Snapshot}
use Rattle.snapshot.proofs.Chosen.{touched_length}
use Rattle.inspect.specs.Batch.{Batch, begun, forced_on, next, applied}
use Rattle.inspect.specs.Inspect.{Filled, Outcome, found, ended, inspect_check, inspected}
use Rattle.inspect.specs.declared.Inspected.{Inspected}
use Rattle.inspect.proofs.Inspecting.{forced_few}
use Rattle.probe.specs.Probe.{probe_check, probed}
use Rattle.probe.specs.declared.Probed.{Probed}
use Rattle.probe.proofs.Counted.{kept_few}
use Rattle.answer.proofs.Choices.{chosen}

-- ---- an inspection

pub record Counted (bound : ℕ) (i : Inspected) : Type 0 where
  pub held : i.held ≤ bound
  pub cut : i.cut ≤ bound

record Grown (b : Batch) (k : ℕ) (after : Batch) : Type 0 where
  held : after.held ≤ b.held + k
  cut : after.cut ≤ b.cut + k

value_small : (v : Bool) (x : ℕ) → (x + cond v 1 0 ≤ x + 1) × (x + cond v 0 1 ≤ x + 1)
value_small true x = (omega arith, omega arith)
value_small false x = (omega arith, omega arith)

forced_grown : (b : Batch) (a : ℕ) (v : Bool) (was : Option Bool) → Grown b 1 (forced_on b a v was)
forced_grown b a v none = record { held = (value_small v b.held).0; cut = (value_small v b.cut).1 }
forced_grown b a v (some w) = record { held = omega arith; cut = omega arith }

applied_grown : (b : Batch) (fs : List (ℕ × Bool)) → Grown b (length fs) (applied b fs)
unfolding applied
applied_grown b [] = record { held = omega arith; cut = omega arith }
applied_grown b (f ∷ fs) =
    let one : Grown b 1 (next b f) =
    chosen (Grown b 1) b.against (record { held = omega arith; cut = omega arith }) (forced_grown b f.0 f.1 (get_or b.decisions f.0 none)) in
    let rest = applied_grown (next b f) fs in
    record { held = omega (arith, one.held, rest.held); cut = omega (arith, one.cut, rest.cut) }

module _ (s : System) (l : Filled) (r : Region) (known : Snapshot) (atoms values : List ℕ) where
  rank_few : inspect_check s l r known (length atoms) (length values) ≡ Ok tt → s.rank ≤ 512
  unfolding inspect_check
  rank_few fit =
      let ten = passed (overfull_by s r known) _ _ fit in
      let thirteen = passed (ltb (min s.rows s.atoms) s.rank) _ _ ten.1 in
      let few = or_parts (ltb limit s.atoms) (ltb limit s.rows) (or_parts (overfull s.atoms s.rows) (ltb limit r.atoms || (known.initialized && ltb limit known.atoms)) ten.0).0 in
      omega (arith, ltb-false limit s.atoms few.0, ltb-false (min s.rows s.atoms) s.rank thirteen.0)

  ended_few : s.rank ≤ 512 → Counted 512 (ended (applied (begun (decisions r)) (found s l r known).forced) (length (found s l r known).forced) r)
  ended_few few =
      let p = decisions r in
      let g = applied_grown (begun p) (found s l r known).forced in
      let most =
      forced_few (map is_held p) (map is_open p) (touched_of s.rank l.index r known) (basis_of s.atoms l.rows l.constants (take s.rank l.basis)) in
      let long = touched_length s.rank l.index r known in
      record { held = omega (arith, g.held, most, long); cut = omega (arith, g.cut, most, long) }

  pub inspected_small : inspect_check s l r known (length atoms) (length values) ≡ Ok tt → Counted 512 (inspected s l r known atoms values).result
  inspected_small fit =
      let Small : Outcome Inspected → Type 0 = λ o. Counted 512 o.result in
      chosen Small s.refuted (record { held = omega arith; cut = omega arith })
      (chosen Small (eqb s.rank 0) (record { held = omega arith; cut = omega arith })
      (chosen (Counted 512) (found s l r known).sound (ended_few (rank_few fit)) (record { held = omega arith; cut = omega arith })))

-- ---- a probe

pub record Sized (bound : ℕ) (q : Probed) : Type 0 where
  pub open_few : q.undecided ≤ bound
  pub kept_small : q.kept ≤ bound

undecided_few : (p : Decisions) → undecided p ≤ length p
undecided_few [] = omega arith
undecided_few (none ∷ p) = omega (arith, undecided_few p)
undecided_few (some b ∷ p) = omega (arith, undecided_few p)

module _ (s : System) (ws cs ps : List ℕ) (r : Region) where
  open_small : probe_check s ws cs ps r ≡ Ok tt → undecided (decisions r) ≤ 512
  unfolding probe_check
  open_small fit =
      let ten = passed (overfull s.atoms s.rows || ltb limit r.atoms) _ _ fit in
      let few = or_parts (overfull s.atoms s.rows) (ltb limit r.atoms) ten.0 in
      omega (arith, ltb-false limit r.atoms few.1, undecided_few (decisions r), decisions_length r)

  pub probed_small : probe_check s ws cs ps r ≡ Ok tt → Sized 512 (probed s ws cs ps r)
  probed_small fit =
      let few = open_small fit in
      chosen (Sized 512) s.refuted (record { open_few = few; kept_small = omega arith })
      (record { open_few = few; kept_small = omega (arith, few, kept_few (decisions r) (basis_of s.atoms ws cs (take s.rank ps))) })
