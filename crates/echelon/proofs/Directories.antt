-- The directory after one row more: an empty row changes nothing, and a pivot is entered at its lowest atom.
use Prim.Native.Nat.{ℕ, zero, suc, ◌*◌, ◌≤◌, ◌<◌}
use mathlib.Core.Path.{◌≡◌, refl, ap, ◌∙◌}
use mathlib.Core.List.{List}
use mathlib.Core.Bool.{Bool, true, false, cond}
use mathlib.Core.Option.{some}
use native.Mathlib.Omega.{arith}
use borrow.Author.Tests.{eqb-true, eqb-false}
use lib.ListN.{length, get_or, set, replicate, length-set}
use lib.Seq.{get_or-set_same, get_or-set_other}
use lib.Arith.{lt_of_le-ne}
use lib.Dec.{eqb}
use Rattle.rows.specs.Row.{Row}
use Rattle.rows.specs.Flat.{row_at}
use Rattle.echelon.specs.Forward.{same_low, empty, find}
use Rattle.echelon.specs.Eliminate.{rows_to}
use Rattle.echelon.specs.Promises.{Lowest}
use Rattle.echelon.specs.declared.directory.Pivot.{Pivot}
use Rattle.echelon.specs.Steps.{Clean, Known, no_pivot, ListsPivots, IsNewPivot}
use Rattle.echelon.proofs.Lows.{same_low_lem, other_low, none_low}

module _ (n w t : ℕ) (ws cs : List ℕ) (r : Row) where
  -- the last row is the pivot, or it is sought before it
  here : same_low r.atoms (row_at n w ws cs t).atoms ≡ true → find r (rows_to n w ws cs (suc t)) ≡ some (row_at n w ws cs t)
  unfolding rows_to
  here e = ap (λ (b : Bool). cond b (some (row_at n w ws cs t)) (find r (rows_to n w ws cs t))) e

  before : same_low r.atoms (row_at n w ws cs t).atoms ≡ false → find r (rows_to n w ws cs (suc t)) ≡ find r (rows_to n w ws cs t)
  unfolding rows_to
  before e = ap (λ (b : Bool). cond b (some (row_at n w ws cs t)) (find r (rows_to n w ws cs t))) e

pub all_listed : {A : Type 0} (x : A) (k a : ℕ) → get_or (replicate k x) a x ≡ x
all_listed x zero a = refl
all_listed x (suc k) zero = refl
all_listed x (suc k) (suc a) = all_listed x k a

pub none_listed : (k a : ℕ) → (get_or (replicate k no_pivot) a no_pivot).head ≡ 0
none_listed k a = ap (λ (p : Pivot). p.head) (all_listed no_pivot k a)

pub directory_start : (n w : ℕ) (ws cs : List ℕ) (pivots : List Pivot) → ((a : ℕ) → (get_or pivots a no_pivot).head ≡ 0) → w * 64 ≤ length pivots
    → ListsPivots n w 0 ws cs pivots
unfolding rows_to
directory_start n w ws cs pivots zeros l = record {
  wide = l;
  clean = λ r h. let z : ⊥ = omega arith in absurd z;
  known = λ a h. record {
    none_yet = λ e r low. refl;
    earlier = λ p. absurd (none a p);
    head = λ p. absurd (none a p);
    below = λ p. absurd (none a p);
    found = λ p. absurd (none a p);
  };
}
  where
    none : (a : ℕ) → 0 < (get_or pivots a no_pivot).head → ⊥
    none a p = omega (arith, zeros a)

module _ (n w t : ℕ) (ws cs : List ℕ) (pivots : List Pivot) (dir : ListsPivots n w t ws cs pivots) (clean : Clean n w t ws cs) where
  pub clean_all : (r : ℕ) → r < suc t → Clean n w r ws cs
  clean_all r h = go (eqb r t) refl
    where
      go : (b : Bool) → eqb r t ≡ b → Clean n w r ws cs
      go true e = rw (eqb-true r t e) clean
      go false e = dir.clean r (lt_of_le-ne (omega arith) (eqb-false r t e))

  -- the last row does not have lowest atom a
  known_on : (h s a : ℕ) → Known n w t ws cs h s a
      → ((r : Row) → Lowest r a → same_low r.atoms (row_at n w ws cs t).atoms ≡ false) → Known n w (suc t) ws cs h s a
  known_on h s a known other = record {
    none_yet = λ e r low. before n w t ws cs r (other r low) ∙ known.none_yet e r low;
    earlier = λ p. omega (arith, known.earlier p);
    head = known.head;
    below = known.below;
    found = λ p r low. before n w t ws cs r (other r low) ∙ known.found p r low;
  }

  pub directory_empty : empty (row_at n w ws cs t).atoms ≡ true → ListsPivots n w (suc t) ws cs pivots
  directory_empty e = record {
    wide = dir.wide;
    clean = clean_all;
    known = λ a h. known_on (get_or pivots a no_pivot).head (get_or pivots a no_pivot).source.0 a (dir.known a h) (λ r low. none_low r.atoms (row_at n w ws cs t).atoms e);
  }

  module _ (wide : n ≤ w * 64) (head lowest : ℕ) (pivot : IsNewPivot n w t ws cs head lowest) where
    entered : Pivot
    entered = record { head = head; source = record { 0 = t } }

    pivots' : List Pivot
    pivots' = set pivots lowest entered

    knows : ℕ → Pivot → Type 0
    knows a p = Known n w (suc t) ws cs p.head p.source.0 a

    here_is : get_or pivots' lowest no_pivot ≡ entered
    unfolding pivots'
    here_is = get_or-set_same pivots lowest entered no_pivot (omega (arith, dir.wide, pivot.atom))

    known_new : knows lowest (get_or pivots' lowest no_pivot)
    unfolding knows entered
    known_new =
        rw here_is
        (record {
          none_yet = λ e. let z : ⊥ = omega (arith, pivot.some) in absurd z;
          earlier = λ p. omega arith;
          head = λ p. pivot.head_is;
          below = λ p. pivot.below;
          found = λ p r low. here n w t ws cs r (same_low_lem r (row_at n w ws cs t) lowest low pivot.is);
        })

    known_old : (a : ℕ) → a < n → (a ≡ lowest → ⊥) → knows a (get_or pivots' a no_pivot)
    unfolding pivots' knows
    known_old a h ne =
        rw (get_or-set_other pivots lowest a entered no_pivot ne)
        (known_on (get_or pivots a no_pivot).head (get_or pivots a no_pivot).source.0 a (dir.known a h) (λ r low. other_low r (row_at n w ws cs t) a lowest low pivot.is ne))

    known_all : (a : ℕ) → a < n → knows a (get_or pivots' a no_pivot)
    known_all a h = go (eqb a lowest) refl
      where
        go : (b : Bool) → eqb a lowest ≡ b → knows a (get_or pivots' a no_pivot)
        go true e = rw (eqb-true a lowest e) known_new
        go false e = known_old a h (eqb-false a lowest e)

    pub directory_pivot : ListsPivots n w (suc t) ws cs (set pivots lowest (record { head = head; source = record { 0 = t } }))
    unfolding pivots' knows entered
    directory_pivot = record {
      wide = simp length-set dir.wide;
      clean = clean_all;
      known = known_all;
    }
