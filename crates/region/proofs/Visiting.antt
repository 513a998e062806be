-- A visit of the atoms of a mask below a place, in a `for`: what each step gives, and that none is left at the end.
use Prim.Native.Nat.{ℕ, ◌+◌, ◌≤◌, ◌<◌}
use mathlib.Core.Path.{◌≡◌, sym, ap, ◌∙◌, subst}
use mathlib.Core.List.{List}
use mathlib.Core.Bool.{true}
use native.Mathlib.Omega.{arith}
use Rattle.std.specs.Prelude.{Some, None}
use Rattle.words.specs.Set.{set_of, has}
use Rattle.region.specs.Visit.{Clear, Visits}
use Rattle.region.specs.declared.Atoms.{Atoms}

pub record Visiting (s : Atoms) (ws : List ℕ) (n : ℕ) : Type 0 where
  pub mask : s.mask.now ≡ ws
  pub end : s.end ≡ n
  pub below : s.from ≤ n

pub visiting_start : (s begun : Atoms) (ws : List ℕ) (n : ℕ) → s ≡ begun → begun.mask.now ≡ ws → begun.from ≡ 0 → begun.end ≡ n → Visiting s ws n
visiting_start s begun ws n same mask from end =
    let zero-from : s.from ≡ 0 = ap (λ (t : Atoms). t.from) same ∙ from in
    record { mask = ap (λ (t : Atoms). t.mask.now) same ∙ mask; end = ap (λ (t : Atoms). t.end) same ∙ end; below = omega arith }

-- the atom that a step gives, and the visit after it
pub record Given (s t : Atoms) (ws : List ℕ) (n a : ℕ) : Type 0 where
  pub reached : s.from ≤ a
  pub inside : a < n
  pub found : has (set_of ws) a ≡ true
  pub passed : Clear (set_of ws) s.from a
  pub after : t.from ≡ a + 1
  pub goes : Visiting t ws n

module _ (s t : Atoms) (ws : List ℕ) (n : ℕ) (v : Visiting s ws n) where
  pub visiting_some : (a : ℕ) → Visits s (Some a) t → Given s t ws n a
  visiting_some a step = record {
    reached = step.2.0;
    inside = omega (arith, step.2.1, v.end);
    found = ap (λ (l : List ℕ). has (set_of l) a) (sym v.mask) ∙ step.2.2;
    passed = subst (λ (l : List ℕ). Clear (set_of l) s.from a) v.mask step.2.3;
    after = step.2.4;
    goes = record { mask = step.0 ∙ v.mask; end = step.1 ∙ v.end; below = omega (arith, step.2.4, step.2.1, v.end) };
  }

  pub visiting_none : Visits s None t → Clear (set_of ws) s.from n
  visiting_none step =
      subst (λ (l : List ℕ). Clear (set_of l) s.from n) v.mask (subst (Clear (set_of s.mask.now) s.from) v.end step.2)
