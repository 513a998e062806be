-- Demand 3: the calls, the setting, and the ways to settle all measures.
use Rattle.std.specs.Prelude.{ℕ, ◌-◌, ◌^◌, ◌≤◌, ◌≡◌, List, [], ◌∷◌, reverse, Bool, true, false, cond, ◌&&◌, get_or, Result, Ok}
use Rattle.std.specs.Bool.{beq}
use Rattle.rows.specs.Row.{Assignment}
use Rattle.rows.specs.Count.{count}
use Rattle.rows.specs.Decisions.{undecided}
use Rattle.embed.specs.Parts.{Part, FitParts, all_rows, meets_parts}
use Rattle.refusal.specs.Refusal.{number_in}
use Rattle.refusal.specs.declared.Refusal.{Refusal}
use Rattle.parity.specs.Prepare.{Lent, prepare_check, prepared}
use Rattle.parity.specs.Promises.{handed_in}
use Rattle.parity.specs.declared.Prepared.{Prepared}
use Rattle.region.specs.Masks.{decisions}
use Rattle.region.specs.Calls.{accepted, hold_of, cut_of}
use Rattle.inspect.specs.Inspect.{inspect_of}
use Rattle.inspect.specs.Promises.{filled_by}
use Rattle.inspect.specs.Run.{Call, hold, cut, inspect, State, begins, step, after}
use Rattle.probe.specs.Probe.{probe_of}
use Rattle.probe.specs.declared.Probed.{Probed}

-- "A way agrees with every decision accepted from the caller in the list": a call's own demand on an assignment, by the answer of that very
-- call.
abbrev pub demands : State → Call → Assignment → Bool
demands st (hold a) x = cond (accepted (hold_of st.region a).0) (beq (get_or x a.0 false) true) true
demands st (cut a) x = cond (accepted (cut_of st.region a).0) (beq (get_or x a.0 false) false) true
demands st (inspect s l atoms values) x = true

abbrev pub demands_all : State → List Call → Assignment → Bool
demands_all st [] x = true
demands_all st (c ∷ cs) x = demands st c x && demands_all (step st c) cs x

-- "Buffers, as filled, and system are the same for the probe and every call not refused": a refused inspection may be lent anything.
abbrev pub Lends : Prepared × Lent → State → Call → Type 0
Lends p st (hold a) = Unit {0}
Lends p st (cut a) = Unit {0}
Lends p st (inspect s l atoms values) =
    number_in (inspect_of s l st.region st.known atoms values).result ≡ 0 → (s ≡ p.0.system) × (l ≡ filled_by p.1)

abbrev pub LendsAll : Prepared × Lent → State → List Call → Type 0
LendsAll p st [] = Unit {0}
LendsAll p st (c ∷ cs) = Lends p st c × LendsAll p (step st c) cs

-- "A way agrees with every decision accepted from the caller in the list and meets every row and table as first handed in."
abbrev pub way : List Part → State → List Call → Assignment → Bool
way parts st cs x = meets_parts parts x && demands_all st cs x

-- "One preparation fills the buffers from those rows and tables and returns the system": what is handed in, the memory lent to preparation,
-- and the calls. (The rows handed in stand last first.)
abbrev pub Setting : ℕ → ℕ → List Part → Lent → List Call → Type 0
Setting n m parts l cs =
    FitParts n parts × (handed_in n m l ≡ reverse (all_rows n parts)) × (prepare_check n m l ≡ Ok tt) × LendsAll (prepared n m l) (begins n) cs

-- The probe after the calls, over what preparation left.
abbrev pub probed_after : ℕ → ℕ → Lent → List Call → Result Probed Refusal
probed_after n m l cs =
    let p = prepared n m l in
    probe_of p.0.system p.1.rows p.1.constants p.1.basis (after (begins n) cs).region

-- Demand 3: "The ways to settle all measures number exactly 2^(u - k) when the probe says yes, and 0 exactly when it says no. This holds after
-- every list of hold, cut and inspect calls, refused ones included, from an undecided region and fresh knowledge, over any accepted rows and
-- exact tables." In this setting the probe is never refused.
abbrev pub WaysCounted : Type 0
WaysCounted = (n m : ℕ) (parts : List Part) (l : Lent) (cs : List Call) → Setting n m parts l cs
    → let ways = count n (way parts (begins n) cs) in
    (q : Probed)
    × (probed_after n m l cs ≡ Ok q)
    × (q.undecided ≡ undecided (decisions (after (begins n) cs).region))
    × (q.yes ≡ true → (q.kept ≤ q.undecided) × (ways ≡ 2 ^ (q.undecided - q.kept)))
    × (q.yes ≡ false → ways ≡ 0)
