-- What touched rows say of an assignment that meets them and agrees with the decisions: no row is wrong, and each forced atom has its value.
use Prim.Native.Nat.{ℕ, zero, suc, ◌+◌}
use mathlib.Core.Path.{◌≡◌, refl, sym, ap, ◌∙◌}
use mathlib.Core.List.{List, [], ◌∷◌, map, zip_with}
use mathlib.Core.Bool.{Bool, true, false, cond, not, xor, ◌&&◌, beq, true≢false, false≢true, and-eq-true_iff}
use mathlib.Core.Option.{none, some}
use native.Mathlib.Nat.{add-zero}
use native.Mathlib.Numerals.{add-one}
use native.Mathlib.Omega.{arith}
use lib.ListN.{get_or}
use Rattle.words.specs.Set.{odd}
use Rattle.rows.specs.Row.{Row, Assignment, overlap, meets, meets_all}
use Rattle.rows.specs.Decisions.{Decisions, agrees}
use Rattle.rows.proofs.Odd.{odd_suc}
use Rattle.echelon.specs.Forward.{low}
use Rattle.region.specs.Masks.{is_held, is_open}
use Rattle.std.specs.Prelude.{Some, None, Ok, Err}
use Rattle.inspect.specs.Consequences.{Reading, says_by, reading_of, Consequences, joins, consequences, wrong}

-- ---- atoms of a row among those of a set: none, or one

shared_none : (r f x : List Bool) → overlap r f ≡ 0 → overlap (zip_with ◌&&◌ r f) x ≡ 0
unfolding zip_with
shared_none [] f x e = refl
shared_none (b ∷ r) [] x e = refl
shared_none (true ∷ r) (true ∷ f) x e = let z : ⊥ = omega arith in absurd z
shared_none (true ∷ r) (false ∷ f) [] e = refl
shared_none (true ∷ r) (false ∷ f) (v ∷ x) e = shared_none r f x e
shared_none (false ∷ r) (c ∷ f) [] e = refl
shared_none (false ∷ r) (c ∷ f) (v ∷ x) e = shared_none r f x e

counted : (v : Bool) (k : ℕ) → k ≡ 0 → cond v (suc k) k ≡ cond v 1 0
counted true k e = ap suc e
counted false k e = e

shared_one : (r f x : List Bool) → overlap r f ≡ 1 → overlap (zip_with ◌&&◌ r f) x ≡ cond (get_or x (low (zip_with ◌&&◌ r f)) false) 1 0
unfolding zip_with
shared_one [] f x e = let z : ⊥ = omega arith in absurd z
shared_one (b ∷ r) [] x e = let z : ⊥ = omega arith in absurd z
shared_one (true ∷ r) (true ∷ f) [] e = refl
shared_one (true ∷ r) (true ∷ f) (v ∷ x) e = counted v _ (shared_none r f x (omega arith))
shared_one (true ∷ r) (false ∷ f) [] e = refl
shared_one (true ∷ r) (false ∷ f) (v ∷ x) e = shared_one r f x e
shared_one (false ∷ r) (c ∷ f) [] e = refl
shared_one (false ∷ r) (c ∷ f) (v ∷ x) e = shared_one r f x e

-- ---- the true atoms of a row are held ones and open ones

open_atom : (b v : Bool) (k m n : ℕ) → k ≡ m + n → cond (b && v) (suc k) k ≡ cond (b && false) (suc m) m + cond (b && true && v) (suc n) n
open_atom true true k m n e = omega arith
open_atom true false k m n e = e
open_atom false v k m n e = e

decided_atom : (b w v : Bool) (k m n : ℕ) → beq w v ≡ true → k ≡ m + n
    → cond (b && v) (suc k) k ≡ cond (b && w) (suc m) m + cond (b && false && v) (suc n) n
decided_atom true true true k m n h e = omega arith
decided_atom true true false k m n h e = absurd (false≢true h)
decided_atom true false true k m n h e = absurd (false≢true h)
decided_atom true false false k m n h e = e
decided_atom false w v k m n h e = e

pub overlap_parts : (p : Decisions) (r : List Bool) (x : Assignment) → agrees p x ≡ true
    → overlap r x ≡ overlap r (map is_held p) + overlap (zip_with ◌&&◌ r (map is_open p)) x
unfolding zip_with
overlap_parts p [] x h = refl
overlap_parts [] (b ∷ r) [] h = refl
overlap_parts [] (b ∷ r) (v ∷ x) h = absurd (false≢true h)
overlap_parts (d ∷ p) (b ∷ r) [] h = absurd (false≢true h)
overlap_parts (none ∷ p) (b ∷ r) (v ∷ x) h = open_atom b v _ _ _ (overlap_parts p r x h)
overlap_parts (some w ∷ p) (b ∷ r) (v ∷ x) h =
    let both = (and-eq-true_iff (beq w v) (agrees p x)).0 h in
    decided_atom b w v _ _ _ both.0 (overlap_parts p r x both.1)

-- ---- what a row says, by the number of its open atoms

-- an assignment does as a row says
abbrev Heeds : Assignment → Reading → Type 0
Heeds x (Ok None) = Unit {0}
Heeds x (Ok (Some f)) = get_or x f.atom.0 false ≡ f.value
Heeds x (Err e) = ⊥

parity_kept : (b c : Bool) → beq b c ≡ true → false ≡ xor c b
unfolding xor
parity_kept true true e = refl
parity_kept true false e = absurd (false≢true e)
parity_kept false true e = absurd (false≢true e)
parity_kept false false e = refl

parity_turned : (b c : Bool) → beq (not b) c ≡ true → true ≡ xor c b
unfolding xor
parity_turned true true e = absurd (false≢true e)
parity_turned true false e = refl
parity_turned false true e = refl
parity_turned false false e = absurd (false≢true e)

one_more : (v c : Bool) (k : ℕ) → beq (odd (k + cond v 1 0)) c ≡ true → v ≡ xor c (odd k)
one_more true c k e = parity_turned (odd k) c (ap (λ (b : Bool). beq b c) (sym (ap odd (add-one k) ∙ odd_suc k)) ∙ e)
one_more false c k e = parity_kept (odd k) c (ap (λ (j : ℕ). beq (odd j) c) (sym (add-zero k)) ∙ e)

-- a fact of one of two, by the test that chooses it
pub chosen : {A : Type 0} (P : A → Type 0) (b : Bool) (y z : A) → (b ≡ true → P y) → (b ≡ false → P z) → P (cond b y z)
chosen P true y z h g = h refl
chosen P false y z h g = g refl

module _ (p : Decisions) (x : Assignment) (agree : agrees p x ≡ true) where
  module _ (r : Row) (met : meets r x ≡ true) where
    abbrev held : ℕ
    held = overlap r.atoms (map is_held p)

    abbrev opened : List Bool
    opened = zip_with ◌&&◌ r.atoms (map is_open p)

    by_parts : beq (odd (held + overlap opened x)) r.constant ≡ true
    by_parts = ap (λ (k : ℕ). beq (odd k) r.constant) (sym (overlap_parts p r.atoms x agree)) ∙ met

    heeds_by : (k : ℕ) → overlap r.atoms (map is_open p) ≡ k → Heeds x (says_by k (odd held) r.constant (low opened))
    heeds_by zero e =
        let same : held + overlap opened x ≡ held = omega (arith, shared_none r.atoms (map is_open p) x e) in
        let right : beq (odd held) r.constant ≡ true = ap (λ (k : ℕ). beq (odd k) r.constant) (sym same) ∙ by_parts in
        chosen (Heeds x) (beq (odd held) r.constant) (Ok None) (Err wrong) (λ e. tt) (λ e. true≢false (sym right ∙ e))
    heeds_by (suc zero) e =
        one_more _ r.constant held (ap (λ (k : ℕ). beq (odd (held + k)) r.constant) (sym (shared_one r.atoms (map is_open p) x e)) ∙ by_parts)
    heeds_by (suc (suc k)) e = tt

    heeds : Heeds x (reading_of (map is_held p) (map is_open p) r)
    unfolding reading_of
    heeds = heeds_by (overlap r.atoms (map is_open p)) refl

-- ---- and the touched rows

-- each forced atom of a list has its value
abbrev pub Follows : Assignment → List (ℕ × Bool) → Type 0
Follows x [] = Unit {0}
Follows x (f ∷ fs) = (get_or x f.0 false ≡ f.1) × Follows x fs

pub record Followed (x : Assignment) (c : Consequences) : Type 0 where
  pub forced : Follows x c.forced
  pub sound : c.sound ≡ true

followed_more : (x : Assignment) (says : Reading) (c : Consequences) → Heeds x says → Followed x c → Followed x (joins says c)
followed_more x (Ok None) c h f = f
followed_more x (Ok (Some entry)) c h f = record { forced = (h, f.forced); sound = f.sound }
followed_more x (Err e) c h f = absurd h

pub followed : (p : Decisions) (x : Assignment) → agrees p x ≡ true → (ts : List Bool) (rs : List Row) → meets_all rs x ≡ true
    → Followed x (consequences (map is_held p) (map is_open p) ts rs)
unfolding consequences
followed p x agree [] rs met = record { forced = tt; sound = refl }
followed p x agree (t ∷ ts) [] met = record { forced = tt; sound = refl }
followed p x agree (t ∷ ts) (r ∷ rs) met =
    let both = (and-eq-true_iff (meets r x) (meets_all rs x)).0 met in
    let rest = followed p x agree ts rs both.1 in
    chosen (Followed x) t _ _ (λ e. followed_more x (reading_of (map is_held p) (map is_open p) r) _ (heeds p x agree r both.0) rest) (λ e. rest)
