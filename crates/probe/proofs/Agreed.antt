-- Document 01's elimination adds every row kept whose lowest atom a row has; forward elimination stops at a lowest atom without a pivot.
-- Over the same rows both keep equally many and say no at the same one, since both count the same solutions.
use Prim.Native.Nat.{ℕ, zero, suc, ◌-◌, ◌^◌, ◌≤◌, ◌<◌}
use mathlib.Core.Path.{◌≡◌, refl, sym, ap, ap₂, subst, ◌∙◌}
use mathlib.Core.List.{List, [], ◌∷◌, ◌++◌, map, map-append, zip_with}
use mathlib.Core.Bool.{Bool, true, false, cond, not, xor, ◌&&◌, and-true, and-false, and_comm, true≢false, false≢true}
use mathlib.Core.Option.{none}
use native.Mathlib.Omega.{arith}
use borrow.Author.Tests.{ltb-true, ltb-false, not-true, not-false}
use lib.ListN.{length, get_or, take}
use lib.Seq.{take-suc, take_all}
use lib.Pow.{pow_pos, pow-lt}
use lib.Dec.{ltb}
use Rattle.words.specs.Set.{odd}
use Rattle.rows.specs.Row.{Row, Assignment, overlap, meets, meets_all}
use Rattle.rows.specs.Count.{count}
use Rattle.rows.specs.Decisions.{Decisions, agrees, undecided}
use Rattle.rows.proofs.Counting.{count_ext, count_none}
use Rattle.rows.proofs.Plus.{xor_comm, xor_false}
use Rattle.echelon.specs.Forward.{empty, reduced, joined, State, next}
use Rattle.echelon.specs.Forward as echelon
use Rattle.echelon.specs.Promises.{Sized}
use Rattle.echelon.proofs.Solutions.{meets_append, solutions_kept, sound_counts}
use Rattle.region.specs.Masks.{is_held, is_open}
use Rattle.probe.specs.Elimination.{substituted, reduced_by, Kept, keeps, step, kept_from, eliminated}
use Rattle.probe.specs.declared.eliminate.Eliminated.{Eliminated}
use Rattle.probe.specs.Steps.{told}
use Rattle.probe.proofs.Counted.{kept_few, probe_counts}

-- ---- decided atoms taken out, nothing is decided any more

freed : Decisions → Decisions
freed [] = []
freed (d ∷ p) = none ∷ freed p

freed_length : (p : Decisions) → length (freed p) ≡ length p
unfolding freed
freed_length [] = refl
freed_length (d ∷ p) = ap suc (freed_length p)

freed_undecided : (p : Decisions) → undecided (freed p) ≡ length p
unfolding freed
freed_undecided [] = refl
freed_undecided (d ∷ p) = ap suc (freed_undecided p)

freed_agrees : (p : Decisions) (x : Assignment) → length x ≡ length p → agrees (freed p) x ≡ true
unfolding freed
freed_agrees [] [] e = refl
freed_agrees [] (v ∷ x) e = let z : ⊥ = omega (arith, e) in absurd z
freed_agrees (d ∷ p) [] e = let z : ⊥ = omega (arith, e) in absurd z
freed_agrees (d ∷ p) (v ∷ x) e = freed_agrees p x (omega (arith, e))

open_again : (l : List Bool) (p : Decisions) → zip_with ◌&&◌ (zip_with ◌&&◌ l (map is_open p)) (map is_open (freed p)) ≡ zip_with ◌&&◌ l (map is_open p)
unfolding freed zip_with
open_again [] p = refl
open_again (b ∷ l) [] = refl
open_again (b ∷ l) (d ∷ p) = ap₂ ◌∷◌ (and-true (b && is_open d)) (open_again l p)

held_none : (l : List Bool) (p : Decisions) → overlap l (map is_held (freed p)) ≡ 0
unfolding freed
held_none [] p = refl
held_none (b ∷ l) [] = refl
held_none (b ∷ l) (d ∷ p) =
    ap (λ (t : Bool). cond t (suc (overlap l (map is_held (freed p)))) (overlap l (map is_held (freed p)))) (and-false b) ∙ held_none l p

again : (p : Decisions) (r : Row) → substituted (freed p) (substituted p r) ≡ substituted p r
again p r =
    let s = substituted p r in
    ap₂ (λ (l : List Bool) (c : Bool). record { atoms = l; constant = c }) (open_again r.atoms p)
    (ap (λ (k : ℕ). xor s.constant (odd k)) (held_none s.atoms p) ∙ xor_comm s.constant false ∙ xor_false s.constant)

from_again : (p : Decisions) (kept : Kept) (rs : List Row) → kept_from (freed p) kept (map (substituted p) rs) ≡ kept_from p kept rs
unfolding kept_from
from_again p kept [] = refl
from_again p kept (r ∷ rs) =
    ap (λ (s : Row). kept_from (freed p) (cond kept.sound (keeps kept.rows (reduced_by kept.rows s)) kept) (map (substituted p) rs)) (again p r)
    ∙ from_again p (step p kept r) rs

-- so what is kept tells how many assignments meet the rows with the decided atoms taken out
module _ (n : ℕ) (p : Decisions) (long : length p ≡ n) (rs : List Row) where
  abbrev opened : List Row
  opened = map (substituted p) rs

  same : eliminated (freed p) opened ≡ eliminated p rs
  same = from_again p (record { rows = []; sound = true }) rs

  all_open : undecided (freed p) ≡ n
  all_open = freed_undecided p ∙ long

  few : length (eliminated p rs).rows ≤ n
  few = rw (sym all_open) (subst (λ (kept : Kept). length kept.rows ≤ undecided (freed p)) same (kept_few (freed p) opened))

  all_agree : count n (meets_all opened) ≡ count (length (freed p)) (λ x. agrees (freed p) x && meets_all opened x)
  all_agree =
      count_ext (λ x l. ap (λ (t : Bool). t && meets_all opened x) (sym (freed_agrees p x (l ∙ sym long))))
      ∙ ap (λ (k : ℕ). count k (λ x. agrees (freed p) x && meets_all opened x)) (sym (freed_length p ∙ long))

  sound_count : (eliminated p rs).sound ≡ true → count n (meets_all opened) ≡ 2 ^ (n - length (eliminated p rs).rows)
  sound_count e =
      all_agree ∙ (probe_counts (freed p) opened).0 (ap (λ (kept : Kept). kept.sound) same ∙ e)
      ∙ ap₂ (λ (u : ℕ) (kept : Kept). 2 ^ (u - length kept.rows)) all_open same

  unsound_count : (eliminated p rs).sound ≡ false → count n (meets_all opened) ≡ 0
  unsound_count e = all_agree ∙ (probe_counts (freed p) opened).1 (ap (λ (kept : Kept). kept.sound) same ∙ e)

-- ---- one row more

from_append : (p : Decisions) (kept : Kept) (rs qs : List Row) → kept_from p kept (rs ++ qs) ≡ kept_from p (kept_from p kept rs) qs
unfolding kept_from
from_append p kept [] qs = refl
from_append p kept (r ∷ rs) qs = from_append p (step p kept r) rs qs

from_one : (p : Decisions) (kept : Kept) (r : Row) → kept_from p kept (r ∷ []) ≡ step p kept r
unfolding kept_from
from_one p kept r = refl

-- a row that is no is not kept, nor is one after a no
keeps_no : (ks : List Row) (s : Row) (t : Bool)
    → (cond {A = Kept} t (record { rows = ks; sound = not s.constant }) (record { rows = s ∷ ks; sound = true })).sound ≡ false
    → (cond {A = Kept} t (record { rows = ks; sound = not s.constant }) (record { rows = s ∷ ks; sound = true })).rows ≡ ks
keeps_no ks s true e = refl
keeps_no ks s false e = absurd (true≢false e)

step_no : (kept : Kept) (s : Row) (t : Bool) → (cond t (keeps kept.rows s) kept).sound ≡ false → (cond t (keeps kept.rows s) kept).rows ≡ kept.rows
step_no kept s true e = keeps_no kept.rows s (empty s.atoms) e
step_no kept s false e = refl

next_no : (n : ℕ) (st : State) (r : Row) (t : Bool)
    → (cond t st (next st (reduced n st.rows r))).refuted ≡ true → (cond t st (next st (reduced n st.rows r))).basis ≡ st.basis
next_no n st r true e = refl
next_no n st r false e = let q = (reduced n st.rows r).0 in by (empty q.atoms) q.constant e
  where
    by : (t c : Bool) → (t && c) ≡ true → joined t (length st.rows) st.basis ≡ st.basis
    by true c f = refl
    by false c f = absurd (false≢true f)

-- ---- both eliminations, row after row

power_same : (i j : ℕ) → 2 ^ i ≡ 2 ^ j → i ≡ j
power_same i j e = go (ltb i j) (ltb j i) refl refl
  where
    go : (s t : Bool) → ltb i j ≡ s → ltb j i ≡ t → i ≡ j
    go true t f g = let z : ⊥ = omega (arith, e, pow-lt (ltb-true i j f)) in absurd z
    go false true f g = let z : ⊥ = omega (arith, e, pow-lt (ltb-true j i g)) in absurd z
    go false false f g = omega (arith, ltb-false i j f, ltb-false j i g)

-- the first j rows that f numbers, the last first
unfoldable pub numbered_to : (ℕ → Row) → ℕ → List Row
numbered_to f zero = []
numbered_to f (suc j) = f j ∷ numbered_to f j

pub numbered_next : (n : ℕ) (f : ℕ → Row) (j : ℕ) → let st = echelon.eliminated n (numbered_to f j) in
    echelon.eliminated n (numbered_to f (suc j)) ≡ cond st.refuted st (next st (reduced n st.rows (f j)))
unfolding numbered_to echelon.eliminated
numbered_next n f j = refl

-- what is told of a state of forward elimination
abbrev pub told_forward : State → Eliminated
told_forward st = record { kept = length st.basis; sound = not st.refuted }

pub numbered_sized : (n : ℕ) (f : ℕ → Row) → ((j : ℕ) → length (f j).atoms ≡ n) → (j : ℕ) → Sized n (numbered_to f j)
unfolding numbered_to
numbered_sized n f wide zero = tt
numbered_sized n f wide (suc j) = (wide j, numbered_sized n f wide j)

-- rows of n atoms that are the rows bs with the decided atoms taken out
module _ (n : ℕ) (p : Decisions) (long : length p ≡ n) (f : ℕ → Row) (wide : (j : ℕ) → length (f j).atoms ≡ n) (bs : List Row) (d : Row)
    (is : (j : ℕ) → j < length bs → f j ≡ substituted p (get_or bs j d)) where
  abbrev taken : ℕ → List Row
  taken j = numbered_to f j

  sized : (j : ℕ) → Sized n (taken j)
  sized j = numbered_sized n f wide j

  abbrev forward : ℕ → State
  forward j = echelon.eliminated n (taken j)

  abbrev kept : ℕ → Kept
  kept j = eliminated p (take j bs)

  kept_next : (j : ℕ) → j < length bs → kept (suc j) ≡ step p (kept j) (get_or bs j d)
  kept_next j h =
      ap (eliminated p) (take-suc bs j d h) ∙ from_append p (record { rows = []; sound = true }) (take j bs) (get_or bs j d ∷ [])
      ∙ from_one p (kept j) (get_or bs j d)

  same_met : (j : ℕ) → j ≤ length bs → (x : Assignment) → meets_all (taken j) x ≡ meets_all (map (substituted p) (take j bs)) x
  unfolding numbered_to
  same_met zero h x = refl
  same_met (suc j) h x =
      let r = substituted p (get_or bs j d) in
      ap₂ ◌&&◌ (ap (λ (q : Row). meets q x) (is j h)) (same_met j (omega arith) x) ∙ and_comm (meets r x) (meets_all (map (substituted p) (take j bs)) x)
      ∙ ap (◌&&◌ (meets_all (map (substituted p) (take j bs)) x)) (sym (and-true (meets r x)))
      ∙ sym (meets_append (map (substituted p) (take j bs)) (r ∷ []) x)
      ∙ ap (λ (l : List Row). meets_all l x) (sym (map-append (substituted p) (take j bs) (get_or bs j d ∷ [])))
      ∙ ap (λ (l : List Row). meets_all (map (substituted p) l) x) (sym (take-suc bs j d h))

  module _ (j : ℕ) (h : j ≤ length bs) where
    solutions : ℕ
    solutions = count n (meets_all (taken j))

    same_count : solutions ≡ count n (meets_all (map (substituted p) (take j bs)))
    unfolding solutions
    same_count = count_ext (λ x l. same_met j h x)

    forward_sound : (forward j).refuted ≡ false → solutions ≡ 2 ^ (n - length (forward j).basis)
    unfolding solutions
    forward_sound e = (sound_counts n (taken j) (sized j)).1 e

    forward_no : (forward j).refuted ≡ true → solutions ≡ 0
    unfolding solutions
    forward_no e = count_ext (λ x l. (solutions_kept n (taken j) x).1 e) ∙ count_none n

    -- yes on both sides, or no
    same_answer : (forward j).refuted ≡ not (kept j).sound
    same_answer = go (forward j).refuted (kept j).sound refl refl
      where
        go : (s t : Bool) → (forward j).refuted ≡ s → (kept j).sound ≡ t → s ≡ not t
        go true true e f =
            let z : ⊥ = omega (arith, forward_no e, same_count, sound_count n p long (take j bs) f, pow_pos (n - length (kept j).rows)) in absurd z
        go true false e f = refl
        go false true e f = refl
        go false false e f =
            let z : ⊥ = omega (arith, forward_sound e, same_count, unsound_count n p long (take j bs) f, pow_pos (n - length (forward j).basis)) in absurd z

    sound_rank : (forward j).refuted ≡ false → length (forward j).basis ≡ length (kept j).rows
    sound_rank e =
        let yes : (kept j).sound ≡ true = not-false (kept j).sound (sym same_answer ∙ e) in
        let left : n - length (forward j).basis ≡ n - length (kept j).rows =
        power_same _ _ (sym (forward_sound e) ∙ same_count ∙ sound_count n p long (take j bs) yes) in
        omega (arith, left, (sound_counts n (taken j) (sized j)).0, few n p long (take j bs))

  none_yet : length (forward 0).basis ≡ length (kept 0).rows
  unfolding numbered_to kept_from echelon.eliminated
  none_yet = refl

  same_rank : (j : ℕ) → j ≤ length bs → length (forward j).basis ≡ length (kept j).rows
  same_rank zero h = none_yet
  same_rank (suc j) h = go (forward (suc j)).refuted refl (same_rank j (omega arith))
    where
      go : (t : Bool) → (forward (suc j)).refuted ≡ t → length (forward j).basis ≡ length (kept j).rows
          → length (forward (suc j)).basis ≡ length (kept (suc j)).rows
      go false e before = sound_rank (suc j) h e
      go true e before =
          let no : (kept (suc j)).sound ≡ false = not-true (kept (suc j)).sound (sym (same_answer (suc j) h) ∙ e) in
          let stays = step_no (kept j) (reduced_by (kept j).rows (substituted p (get_or bs j d))) (kept j).sound (sym (ap (λ (k : Kept). k.sound) (kept_next j h)) ∙ no) in
          let no' = next_no n (forward j) (f j) (forward j).refuted (sym (ap (λ (st : State). st.refuted) (numbered_next n f j)) ∙ e) in
          ap length (ap (λ (st : State). st.basis) (numbered_next n f j) ∙ no') ∙ before
          ∙ ap length (sym stays ∙ sym (ap (λ (k : Kept). k.rows) (kept_next j h)))

  -- all of them
  pub agreed : told_forward (forward (length bs)) ≡ told (eliminated p bs)
  agreed =
      let m = length bs in
      ap₂ (λ (k : ℕ) (t : Bool). record { kept = k; sound = t }) (same_rank m (omega arith)) (ap not (same_answer m (omega arith)) ∙ twice (kept m).sound)
      ∙ ap (λ (l : List Row). told (eliminated p l)) (take_all m bs (omega arith))
    where
      twice : (t : Bool) → not (not t) ≡ t
      twice true = refl
      twice false = refl
