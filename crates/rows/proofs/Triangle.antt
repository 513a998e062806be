-- Rows in triangular form: each row halves what the decisions and the newer rows leave, so k rows over u undecided atoms leave 2^(u - k).
use Prim.Native.Nat.{ℕ, zero, suc, ◌-◌, ◌*◌, ◌^◌, ◌≤◌}
use mathlib.Core.Path.{◌≡◌, ap₂, ◌∙◌}
use mathlib.Core.List.{List, [], ◌∷◌}
use mathlib.Core.Bool.{Bool, ◌&&◌, and-true, and_assoc}
use native.Mathlib.Nat.{pow-suc, sub-zero, suc-sub-suc}
use native.Mathlib.Omega.{arith}
use lib.ListN.{length}
use Rattle.rows.specs.Row.{Row, Assignment, meets, meets_all}
use Rattle.rows.specs.Count.{count}
use Rattle.rows.specs.Decisions.{Decisions, agrees, undecided}
use Rattle.rows.specs.Triangular.{HasNone, Triangular}
use Rattle.rows.specs.Promises.{TriangularLeaves}
use Rattle.rows.proofs.Flips.{Blind, row_blind}
use Rattle.rows.proofs.Counting.{halving}
use Rattle.rows.proofs.Deciding.{decisions_leave, open_lt, agrees_blind}

abbrev AllBlind : (Assignment → Bool) → List ℕ → Type 0
AllBlind P [] = Unit {0}
AllBlind P (a ∷ ps) = Blind P a × AllBlind P ps

with_row : (P : Assignment → Bool) (r : Row) (ps : List ℕ) → AllBlind P ps → HasNone r ps → AllBlind (λ x. P x && meets r x) ps
with_row P r [] b h = tt
with_row P r (a ∷ ps) b h = (λ x. ap₂ ◌&&◌ (b.0 x) (row_blind r a h.0 x), with_row P r ps b.1 h.1)

open_blind : (p : Decisions) (ps : List ℕ) (rs : List Row) → Triangular p ps rs → AllBlind (agrees p) ps
open_blind p [] rs t = tt
open_blind p (a ∷ ps) [] t = absurd t
open_blind p (a ∷ ps) (r ∷ rs) t = (agrees_blind p a t.0, open_blind p ps rs t.3)

halvings : (p : Decisions) (ps : List ℕ) (rs : List Row) (P : Assignment → Bool) → Triangular p ps rs → AllBlind P ps
    → 2 ^ length rs * count (length p) (λ x. P x && meets_all rs x) ≡ count (length p) P
halvings p [] [] P t b = simp and-true (omega arith)
halvings p [] (r ∷ rs) P t b = absurd t
halvings p (a ∷ ps) [] P t b = absurd t
halvings p (a ∷ ps) (r ∷ rs) P t b =
    simp (pow-suc, ← and_assoc)
    (omega (
      arith,
      halving (length p) a P r (open_lt p a t.0) t.1 b.0,
      halvings p ps rs (λ x. P x && meets r x) t.3 (with_row P r ps b.1 t.2),
    ))

pow_quotient : (k u c : ℕ) → 2 ^ k * c ≡ 2 ^ u → (k ≤ u) × (c ≡ 2 ^ (u - k))
pow_quotient zero u c e = rw sub-zero (omega arith)
pow_quotient (suc k) zero c e = let z : ⊥ = omega (arith, rw pow-suc at e) in absurd z
pow_quotient (suc k) (suc u) c e =
    let less : 2 ^ k * c ≡ 2 ^ u = omega (arith, simp pow-suc at e) in
    let rest = pow_quotient k u c less in
    rw suc-sub-suc (omega arith)

pub triangular_leaves : TriangularLeaves
triangular_leaves p ps rs t =
    pow_quotient (length rs) (undecided p) _ (halvings p ps rs (agrees p) t (open_blind p ps rs t) ∙ decisions_leave p)
