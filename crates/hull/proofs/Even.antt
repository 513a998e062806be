-- The equations of pivots have even overlap with just the lists that the pivots span; so a pattern meets them, with the anchor's constants,
-- exactly when its difference from the anchor is spanned.
use mathlib.Core.Path.{◌≡◌, refl, sym, ap, ap₂, ◌∙◌}
use mathlib.Core.List.{List, [], ◌∷◌, map}
use mathlib.Core.Bool.{Bool, true, false, not, xor, ◌&&◌, beq, not-not}
use mathlib.Core.Option.{none, some}
use lib.ListN.{length}
use Rattle.rows.specs.Row.{plus, meets, meets_all}
use Rattle.hull.specs.Table.{Pattern}
use Rattle.hull.specs.Equations.{Pivots, equations, through, zeros}
use Rattle.rows.proofs.Plus.{xor_comm, plus_comm}
use Rattle.hull.proofs.Dot.{dot, dot_comm, dot_sum, dot_zeros, dot_on, dot_off}
use Rattle.hull.proofs.Spans.{spans}

abbrev even : List (List Bool) → List Bool → Bool
even [] x = true
even (c ∷ cs) x = not (dot c x) && even cs x

even_nil : (cs : List (List Bool)) → even cs [] ≡ true
even_nil [] = refl
even_nil (c ∷ cs) = ap₂ ◌&&◌ (ap not (dot_comm c [])) (even_nil cs)

even_map : (f : List Bool → List Bool) (cs : List (List Bool)) (x y : List Bool) → ((c : List Bool) → dot (f c) x ≡ dot c y)
    → even (map f cs) x ≡ even cs y
even_map f [] x y h = refl
even_map f (c ∷ cs) x y h = ap₂ ◌&&◌ (ap not (h c)) (even_map f cs x y h)

even_spans : (ss : Pivots) (x : List Bool) → even (equations ss) x ≡ spans ss x
unfolding xor
even_spans [] x = refl
even_spans (s ∷ ss) [] = even_nil (equations (s ∷ ss))
even_spans (none ∷ ss) (false ∷ x) =
    ap₂ ◌&&◌ (ap not (dot_zeros (length ss) x)) (even_map _ (equations ss) (false ∷ x) x (λ c. refl) ∙ even_spans ss x)
even_spans (none ∷ ss) (true ∷ x) =
    ap (λ b. not b && even (map (λ c. false ∷ c) (equations ss)) (true ∷ x))
    (dot_on true (zeros (length ss)) x ∙ ap (xor true) (dot_zeros (length ss) x))
even_spans (some t ∷ ss) (false ∷ x) = even_map _ (equations ss) (false ∷ x) x (λ c. dot_off (dot c t) c x) ∙ even_spans ss x
even_spans (some t ∷ ss) (true ∷ x) =
    even_map _ (equations ss) (true ∷ x) (plus x t) (λ c. dot_on (dot c t) c x ∙ xor_comm (dot c t) (dot c x) ∙ sym (dot_sum c x t))
    ∙ even_spans ss (plus x t)

meets_dot : (anchor c x : List Bool) → meets (through anchor c) x ≡ not (dot c (plus anchor x))
unfolding xor
meets_dot anchor c x = sym (not-not (beq (dot c x) (dot c anchor))) ∙ ap not (sym (dot_sum c x anchor) ∙ ap (dot c) (plus_comm x anchor))

meets_even : (anchor : Pattern) (cs : List (List Bool)) (x : Pattern) → meets_all (map (through anchor) cs) x ≡ even cs (plus anchor x)
meets_even anchor [] x = refl
meets_even anchor (c ∷ cs) x = ap₂ ◌&&◌ (meets_dot anchor c x) (meets_even anchor cs x)

pub meets_spans : (anchor : Pattern) (ss : Pivots) (x : Pattern) → meets_all (map (through anchor) (equations ss)) x ≡ spans ss (plus anchor x)
meets_spans anchor ss x = meets_even anchor (equations ss) x ∙ even_spans ss (plus anchor x)
