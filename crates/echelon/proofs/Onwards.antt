-- Additions of pivots one after another: what is left to do stays the same, and when no pivot is left it is done.
use Prim.Native.Nat.{ℕ, zero, suc, ◌+◌, ◌-◌, ◌≤◌}
use mathlib.Core.Path.{◌≡◌, refl, sym, ap, ap₂, ◌∙◌}
use mathlib.Core.List.{List, [], ◌∷◌}
use mathlib.Core.Bool.{Bool, true, false, cond}
use mathlib.Core.Option.{Option, none, some}
use native.Mathlib.Nat.{add-zero, zero-add, add_assoc}
use native.Mathlib.Omega.{arith}
use lib.ListN.{length}
use Rattle.rows.specs.Row.{Row, add}
use Rattle.echelon.specs.Forward.{same_low, find, forward, reduced}
use Rattle.echelon.specs.Steps.{Onward}
use Rattle.echelon.proofs.Lows.{rest_falls, rest_le}

-- what is found has the same lowest atom
pub find_same : (r b : Row) (bs : List Row) → find r bs ≡ some b → same_low r.atoms b.atoms ≡ true
find_same r b [] e = cc
find_same r b (c ∷ bs) e = go (find_same r b bs) (same_low r.atoms c.atoms) refl
  where
    go : (find r bs ≡ some b → same_low r.atoms b.atoms ≡ true) → (t : Bool) → same_low r.atoms c.atoms ≡ t
        → same_low r.atoms b.atoms ≡ true
    go later true s =
        let is : some c ≡ some b = sym (ap (λ (t : Bool). cond t (some c) (find r bs)) s) ∙ e in
        let same : c ≡ b = cc in
        ap (λ (d : Row). same_low r.atoms d.atoms) (sym same) ∙ s
    go later false s = later (sym (ap (λ (t : Bool). cond t (some c) (find r bs)) s) ∙ e)

forward_found : (f : ℕ) (bs : List Row) (r b : Row) (j : ℕ) → find r bs ≡ some b
    → forward (suc f) bs (find r bs) r j ≡ forward f bs (find (add r b) bs) (add r b) (suc j)
unfolding forward
forward_found f bs r b j e = ap (λ (o : Option Row). forward (suc f) bs o r j) e

forward_none : (f : ℕ) (bs : List Row) (r : Row) (j : ℕ) → find r bs ≡ none → forward f bs (find r bs) r j ≡ (r, j)
unfolding forward
forward_none zero bs r j e = refl
forward_none (suc f) bs r j e = ap (λ (o : Option Row). forward (suc f) bs o r j) e

module _ (bs : List Row) (r : Row) where
  pub onward_start : Onward bs r 0 r
  onward_start = record {
    ahead = λ f j. ap₂ (λ (a b : ℕ). forward a bs (find r bs) r b) (zero-add f) (sym (add-zero j));
    few = omega arith;
  }

  module _ (k : ℕ) (s : Row) (so : Onward bs r k s) where
    -- one addition more
    pub onward_next : (b : Row) → find s bs ≡ some b → length s.atoms ≡ length b.atoms → Onward bs r (k + 1) (add s b)
    onward_next b e l = record {
      ahead = λ f j.
          let more : k + 1 + f ≡ k + suc f = omega arith in
          let one : suc (j + k) ≡ j + (k + 1) = omega arith in
          ap (λ (a : ℕ). forward a bs (find r bs) r j) more ∙ so.ahead (suc f) j ∙ forward_found f bs s b (j + k) e
          ∙ ap (forward f bs (find (add s b) bs) (add s b)) one;
      few = omega (arith, so.few, rest_falls s.atoms b.atoms (find_same s b bs e) l);
    }

    pub onward_join : (j : ℕ) (u : Row) → Onward bs s j u → Onward bs r (k + j) u
    onward_join j u on = record {
      ahead = λ f i.
          ap (λ (a : ℕ). forward a bs (find r bs) r i) (add_assoc k j f) ∙ so.ahead (j + f) i ∙ on.ahead f (i + k)
          ∙ ap (forward f bs (find u bs) u) (add_assoc i k j);
      few = omega (arith, so.few, on.few);
    }

    pub onward_few : (n : ℕ) → length r.atoms ≡ n → k ≤ n
    onward_few n l = omega (arith, so.few, rest_le r.atoms)

    -- no pivot is left
    pub onward_end : (n : ℕ) → length r.atoms ≡ n → find s bs ≡ none → (s, k) ≡ reduced n bs r
    onward_end n l e =
        let whole : k + (n - k) ≡ n = omega (arith, onward_few n l) in
        sym (ap (λ (a : ℕ). forward a bs (find r bs) r 0) (sym whole) ∙ so.ahead (n - k) 0 ∙ forward_none (n - k) bs s (0 + k) e
        ∙ ap (λ (j : ℕ). (s, j)) (zero-add k))
