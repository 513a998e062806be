-- Sums of chosen ones of a list: what keeps sums keeps these. So a list that has even overlap with all pivots is a sum of their equations,
-- and every equation that is true on all allowed patterns is a sum of the table's rows.
use Prim.Native.Nat.{ℕ, suc}
use mathlib.Core.Path.{◌≡◌, refl, sym, ap, ap₂, ◌∙◌}
use mathlib.Core.List.{List, [], ◌∷◌, map}
use mathlib.Core.Bool.{Bool, true, false, cond, xor}
use mathlib.Core.Option.{none, some}
use native.Mathlib.Omega.{arith}
use lib.ListN.{length, replicate}
use Rattle.rows.specs.Row.{Row, plus, add, meets, sum_of}
use Rattle.hull.specs.Table.{Pattern, allowed, allows}
use Rattle.hull.specs.Equations.{Pivots, pivots_from, equations, through, zeros, hull_from, hull_of}
use Rattle.hull.specs.Promises.{Sized, EverySum}
use Rattle.rows.proofs.Plus.{xor_self, xor_same, plus_zeros}
use Rattle.hull.proofs.Dot.{dot, dot_plus, dot_sum, dot_zeros, dot_on, dot_off, dot_met}
use Rattle.hull.proofs.Spans.{Each}
use Rattle.hull.proofs.Within.{Summing, Within, within_map, within_pivots}
use Rattle.hull.proofs.Allowed.{Lists, pivots_fit, table_lists}

-- The sum by f, from z, of the ones chosen.
abbrev chosen : {A : Type 0} → A → (A → A → A) → List Bool → List A → A
chosen z f [] l = z
chosen z f (b ∷ bs) [] = z
chosen z f (b ∷ bs) (x ∷ l) = cond b (f x (chosen z f bs l)) (chosen z f bs l)

chosen_map : {A B : Type 0} (z : A) (f : A → A → A) (w : B) (g : B → B → B) (h : A → B) → h z ≡ w → ((x y : A) → h (f x y) ≡ g (h x) (h y))
    → (bs : List Bool) (l : List A) → chosen w g bs (map h l) ≡ h (chosen z f bs l)
chosen_map z f w g h e hom [] l = sym e
chosen_map z f w g h e hom (b ∷ bs) [] = sym e
chosen_map z f w g h e hom (true ∷ bs) (x ∷ l) = ap (g (h x)) (chosen_map z f w g h e hom bs l) ∙ sym (hom x (chosen z f bs l))
chosen_map z f w g h e hom (false ∷ bs) (x ∷ l) = chosen_map z f w g h e hom bs l

abbrev pub sum : ℕ → List Bool → List (List Bool) → List Bool
sum n bs cs = chosen (zeros n) plus bs cs

-- a bit before each: 0, or the parity over t
sum_free : (n : ℕ) (bs : List Bool) (cs : List (List Bool)) → sum (suc n) bs (map (λ c. false ∷ c) cs) ≡ false ∷ sum n bs cs
unfolding xor
sum_free n = chosen_map (zeros n) plus (zeros (suc n)) plus (λ c. false ∷ c) refl (λ x y. refl)

sum_pivot : (n : ℕ) (t bs : List Bool) (cs : List (List Bool)) → sum (suc n) bs (map (λ c. dot c t ∷ c) cs) ≡ dot (sum n bs cs) t ∷ sum n bs cs
sum_pivot n t =
    chosen_map (zeros n) plus (zeros (suc n)) plus (λ c. dot c t ∷ c) (ap (λ b. b ∷ zeros n) (dot_zeros n t))
    (λ x y. ap (λ b. b ∷ plus x y) (dot_plus x y t))

sum_own : (n : ℕ) (b : Bool) (q bs : List Bool) (cs : List (List Bool)) → length q ≡ n → q ≡ sum n bs cs
    → b ∷ q ≡ sum (suc n) (b ∷ bs) ((true ∷ zeros n) ∷ map (λ c. false ∷ c) cs)
unfolding xor
sum_own n false q bs cs l e = ap (◌∷◌ false) e ∙ sym (sum_free n bs cs)
sum_own n true q bs cs l e =
    sym (ap (plus (true ∷ zeros n)) (sum_free n bs cs ∙ ap (◌∷◌ false) (sym e)) ∙ ap (◌∷◌ true) (plus_zeros n q l))

pub sum_of_equations : (ss : Pivots) (q : List Bool) → length q ≡ length ss → Within (λ d. dot q d ≡ false) ss
    → (bs : List Bool) × (q ≡ sum (length ss) bs (equations ss))
sum_of_equations [] [] e w = ([], refl)
sum_of_equations [] (b ∷ q) e w = let no : ⊥ = omega arith in absurd no
sum_of_equations (s ∷ ss) [] e w = let no : ⊥ = omega arith in absurd no
sum_of_equations (none ∷ ss) (b ∷ q) e w =
    let l : length q ≡ length ss = omega arith in
    let found = sum_of_equations ss q l (within_map ss (λ d h. sym (dot_off b q d) ∙ h) w) in
    (b ∷ found.0, sum_own (length ss) b q found.0 (equations ss) l found.1)
sum_of_equations (some t ∷ ss) (b ∷ q) e w =
    let found = sum_of_equations ss q (omega arith) (within_map ss (λ d h. sym (dot_off b q d) ∙ h) w.1) in
    let own : b ≡ dot q t = xor_same b (dot q t) (sym (dot_on b q t) ∙ w.0) in
    (found.0, ap₂ ◌∷◌ (own ∙ ap (λ c. dot c t) found.1) found.1 ∙ sym (sum_pivot (length ss) t found.0 (equations ss)))

sum_rows : (n : ℕ) (bs : List Bool) (rs : List Row) → sum_of n bs rs ≡ chosen (record { atoms = zeros n; constant = false }) add bs rs
sum_rows n [] rs = refl
sum_rows n (b ∷ bs) [] = refl
sum_rows n (b ∷ bs) (r ∷ rs) = ap (λ s. cond b (add r s) s) (sum_rows n bs rs)

pub sum_through : (anchor : Pattern) (n : ℕ) (bs : List Bool) (cs : List (List Bool))
    → sum_of n bs (map (through anchor) cs) ≡ through anchor (sum n bs cs)
sum_through anchor n bs cs =
    sum_rows n bs (map (through anchor) cs)
    ∙ chosen_map (zeros n) plus (record { atoms = zeros n; constant = false }) add (through anchor)
    (ap (λ b. record { atoms = zeros n; constant = b }) (dot_zeros n anchor))
    (λ c d. ap (λ b. record { atoms = plus c d; constant = b }) (dot_plus c d anchor))
    bs
    cs

module _ (k : ℕ) (test : Pattern → Bool) where
  rows_sum : (l : List Pattern) → Lists k test l → (y : Pattern) → length y ≡ k → test y ≡ true
      → (q : Row) → length q.atoms ≡ k → ((x : Pattern) → length x ≡ k → test x ≡ true → meets q x ≡ true)
      → (bs : List Bool) × (q ≡ sum_of k bs (hull_from k l).rows)
  unfolding hull_from
  rows_sum [] lists y e h q d holds = absurd (lists.every (λ x. ⊥) tt y e h)
  rows_sum (a ∷ xs) lists y e h q d holds = (
    found.0,
    ap (λ c. record { atoms = q.atoms; constant = c }) (sym (dot_met q a met.0))
        ∙ ap (through a) (found.1 ∙ ap (λ n. sum n found.0 (equations ss)) fit.0)
        ∙ sym (sum_through a k found.0 (equations ss)),
  )
    where
      ss : Pivots
      ss = pivots_from a (replicate k none) xs

      fit : (length ss ≡ k) × Sized ss
      fit = pivots_fit k test a xs lists

      met : Each (λ x. meets q x ≡ true) (a ∷ xs)
      met = lists.each (λ x. meets q x ≡ true) holds

      D : List Bool → Type 0
      D x = dot q.atoms x ≡ false

      differences : Each (λ x. D (plus a x)) (a ∷ xs)
      differences =
          lists.each (λ x. D (plus a x))
          (λ x l g. dot_sum q.atoms a x ∙ ap₂ xor (dot_met q a met.0) (dot_met q x (holds x l g)) ∙ xor_self q.constant)

      summing : Summing D
      summing x z p r = dot_sum q.atoms x z ∙ ap₂ xor p r ∙ xor_self false

      found : (bs : List Bool) × (q.atoms ≡ sum (length ss) bs (equations ss))
      found = sum_of_equations ss q.atoms (d ∙ sym fit.0) (within_pivots D k a xs summing differences.1)

pub every_sum : EverySum
unfolding hull_of
every_sum k words = rows_sum k (allows words) (allowed k words) (table_lists k words)
