-- The equations of pivots are those of the positions without a pivot, rising: each is as described, and no other list is.
use Prim.Native.Nat.{ℕ, zero, suc, ◌+◌, ◌<◌}
use mathlib.Core.Path.{◌≡◌, refl, sym, ap, ap₂, ◌∙◌}
use mathlib.Core.List.{List, [], ◌∷◌, ◌++◌, map}
use mathlib.Core.Bool.{Bool, true, false, xor}
use mathlib.Core.Option.{Option, none, some}
use mathlib.Core.Logic.{by_cases}
use native.Mathlib.Nat.{zero-add, le_of_suc-le-suc}
use native.Mathlib.Decide.{ℕ_discrete}
use native.Mathlib.Omega.{arith}
use lib.ListN.{length, get_or, length-map, length-replicate}
use Rattle.hull.specs.Equations.{Pivots, equations, zeros}
use Rattle.hull.specs.Promises.{free, Described, FreeEquations}
use Rattle.rows.proofs.Plus.{xor_self, xor_same}
use Rattle.hull.proofs.Dot.{dot, dot_zeros, dot_on, dot_off}

length_equations : (at : ℕ) (ss : Pivots) → length (equations ss) ≡ length (free at ss)
length_equations at [] = refl
length_equations at (none ∷ ss) = ap suc (length-map (equations ss) _ ∙ length_equations (suc at) ss)
length_equations at (some t ∷ ss) = length-map (equations ss) _ ∙ length_equations (suc at) ss

get_d_map : (f : List Bool → List Bool) (cs : List (List Bool)) (m : ℕ) → m < length cs → get_or (map f cs) m [] ≡ f (get_or cs m [])
get_d_map f [] m l = let no : ⊥ = omega arith in absurd no
get_d_map f (c ∷ cs) zero l = refl
get_d_map f (c ∷ cs) (suc m) l = get_d_map f cs m (le_of_suc-le-suc l)

pub get_d_zeros : (n j : ℕ) → get_or (zeros n) j false ≡ false
get_d_zeros zero j = refl
get_d_zeros (suc n) zero = refl
get_d_zeros (suc n) (suc j) = get_d_zeros n j

own_described : (ss : Pivots) → Described (none ∷ ss) 0 (true ∷ zeros (length ss))
own_described ss = record { size = ap suc (length-replicate (length ss) false); own = refl; others = others; even = even }
  where
    others : (j : ℕ) → (j ≡ 0 → ⊥) → get_or (none ∷ ss) j (some []) ≡ none → get_or (true ∷ zeros (length ss)) j false ≡ false
    others zero n h = absurd (n refl)
    others (suc j) n h = get_d_zeros (length ss) j

    even : (j : ℕ) (t : List Bool) → get_or (none ∷ ss) j none ≡ some t → dot (true ∷ zeros (length ss)) (zeros j ++ (true ∷ t)) ≡ false
    even zero t h = cc
    even (suc j) t h = dot_zeros (length ss) (zeros j ++ (true ∷ t))

-- one place more below
next_described : (s : Option (List Bool)) (ss : Pivots) (i : ℕ) (b : Bool) (c : List Bool) → (s ≡ none → b ≡ false)
    → ((t : List Bool) → s ≡ some t → dot (b ∷ c) (true ∷ t) ≡ false) → Described ss i c → Described (s ∷ ss) (suc i) (b ∷ c)
next_described s ss i b c off on d = record { size = ap suc d.size; own = d.own; others = others; even = even }
  where
    others : (j : ℕ) → (j ≡ suc i → ⊥) → get_or (s ∷ ss) j (some []) ≡ none → get_or (b ∷ c) j false ≡ false
    others zero n h = off h
    others (suc j) n h = d.others j (λ e. n (ap suc e)) h

    even : (j : ℕ) (t : List Bool) → get_or (s ∷ ss) j none ≡ some t → dot (b ∷ c) (zeros j ++ (true ∷ t)) ≡ false
    even zero t h = on t h
    even (suc j) t h = dot_off b c (zeros j ++ (true ∷ t)) ∙ d.even j t h

described : (at : ℕ) (ss : Pivots) (m : ℕ) → m < length (free at ss)
    → (i : ℕ) × (get_or (free at ss) m 0 ≡ at + i) × Described ss i (get_or (equations ss) m [])
described at [] m l = let no : ⊥ = omega arith in absurd no
described at (none ∷ ss) zero l = (0, omega arith, own_described ss)
described at (none ∷ ss) (suc m) l =
    let d = described (suc at) ss m (le_of_suc-le-suc l) in
    let c = get_or (equations ss) m [] in (
      suc d.0,
      omega (arith, d.1),
      rw (get_d_map (λ c. false ∷ c) (equations ss) m (omega (arith, length_equations (suc at) ss)))
          (next_described none ss d.0 false c (λ _. refl) (λ t h. cc) d.2),
    )
described at (some t ∷ ss) m l =
    let d = described (suc at) ss m l in
    let c = get_or (equations ss) m [] in (
      suc d.0,
      omega (arith, d.1),
      rw (get_d_map (λ c. dot c t ∷ c) (equations ss) m (omega (arith, length_equations (suc at) ss)))
          (next_described (some t) ss d.0 (dot c t) c (λ h. cc)
          (λ u h. dot_on (dot c t) c u ∙ ap (λ o. xor (dot c t) (dot c o)) (cc) ∙ xor_self (dot c t)) d.2),
    )

-- Even overlap with every pivot.
abbrev Even : Pivots → List Bool → Type 0
Even ss c = (j : ℕ) (t : List Bool) → get_or ss j none ≡ some t → dot c (zeros j ++ (true ∷ t)) ≡ false

-- the bits at the positions without a pivot fix the others
fixed : (ss : Pivots) (c d : List Bool) → length c ≡ length ss → length d ≡ length ss
    → ((j : ℕ) → get_or ss j (some []) ≡ none → get_or c j false ≡ get_or d j false) → Even ss c → Even ss d → c ≡ d
fixed [] [] [] p q same e f = refl
fixed [] (b ∷ c) d p q same e f = let no : ⊥ = omega arith in absurd no
fixed [] [] (v ∷ d) p q same e f = let no : ⊥ = omega arith in absurd no
fixed (s ∷ ss) [] d p q same e f = let no : ⊥ = omega arith in absurd no
fixed (s ∷ ss) (b ∷ c) [] p q same e f = let no : ⊥ = omega arith in absurd no
fixed (s ∷ ss) (b ∷ c) (v ∷ d) p q same e f =
    let rest = fixed ss c d (omega arith) (omega arith) (λ j. same (suc j)) (above b c e) (above v d f) in
    ap₂ ◌∷◌ (first s rest e f (same 0)) rest
  where
    above : (u : Bool) (x : List Bool) → Even (s ∷ ss) (u ∷ x) → Even ss x
    above u x g j t h = sym (dot_off u x (zeros j ++ (true ∷ t))) ∙ g (suc j) t h

    parity : (u : Bool) (x t : List Bool) → Even (some t ∷ ss) (u ∷ x) → u ≡ dot x t
    parity u x t g = xor_same u (dot x t) (sym (dot_on u x t) ∙ g 0 t refl)

    first : (o : Option (List Bool)) → c ≡ d → Even (o ∷ ss) (b ∷ c) → Even (o ∷ ss) (v ∷ d) → (o ≡ none → b ≡ v) → b ≡ v
    first none rest g k i = i refl
    first (some t) rest g k i = parity b c t g ∙ ap (λ x. dot x t) rest ∙ sym (parity v d t k)

pub free_equations : FreeEquations
free_equations ss = (
  length_equations 0 ss,
  λ m l. let d = described 0 ss m l in rw (d.1, zero-add) d.2,
  λ i c d p q.
      fixed ss c d p.size q.size
      (λ j g.
      by_cases (ℕ_discrete j i) (λ e. rw e (p.own ∙ sym q.own)) (λ n. p.others j n g ∙ sym (q.others j n g)))
      p.even
      q.even,
)
