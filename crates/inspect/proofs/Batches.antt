-- Forced atoms decided in order: an assignment with their values goes on agreeing, and none is against it; decisions are only gained.
use Prim.Native.Nat.{ℕ, zero, suc}
use mathlib.Core.Path.{◌≡◌, refl, sym, ap, ap₂, ◌∙◌}
use mathlib.Core.List.{List, [], ◌∷◌}
use mathlib.Core.Bool.{Bool, true, false, not, ◌&&◌, beq, true≢false, false≢true, and-eq-true_iff}
use mathlib.Core.Option.{Option, none, some}
use lib.ListN.{length, get_or, set, length-set}
use Rattle.rows.specs.Row.{Assignment}
use Rattle.rows.specs.Decisions.{Decisions, agrees}
use Rattle.region.specs.Masks.{is_held, is_open}
use Rattle.region.proofs.Standing.{Gains, set_gains}
use Rattle.inspect.specs.Batch.{Batch, forced_on, next, applied}
use Rattle.inspect.proofs.Following.{chosen, Follows}

-- ---- agreeing, atom by atom

pub beq_self : (v : Bool) → beq v v ≡ true
beq_self true = refl
beq_self false = refl

pub beq_same : (w v : Bool) → beq w v ≡ true → w ≡ v
beq_same true true e = refl
beq_same true false e = absurd (false≢true e)
beq_same false true e = absurd (false≢true e)
beq_same false false e = refl

pub agrees_at : (p : Decisions) (x : Assignment) (a : ℕ) (v : Bool) → agrees p x ≡ true → get_or p a none ≡ some v → get_or x a false ≡ v
agrees_at [] x a v h e = absurd (true≢false (ap is_open e))
agrees_at (d ∷ p) [] a v h e = absurd (false≢true h)
agrees_at (none ∷ p) (w ∷ x) zero v h e = absurd (true≢false (ap is_open e))
agrees_at (some u ∷ p) (w ∷ x) zero v h e = sym (beq_same u w ((and-eq-true_iff (beq u w) (agrees p x)).0 h).0) ∙ ap is_held e
agrees_at (none ∷ p) (w ∷ x) (suc a) v h e = agrees_at p x a v h e
agrees_at (some u ∷ p) (w ∷ x) (suc a) v h e = agrees_at p x a v ((and-eq-true_iff (beq u w) (agrees p x)).0 h).1 e

-- a decision that an assignment has is made, in place of any other
agrees_first : (p : Decisions) (x : Assignment) (w v : Bool) → agrees p x ≡ true → w ≡ v → agrees (some v ∷ p) (w ∷ x) ≡ true
agrees_first p x w v h e = ap₂ ◌&&◌ (ap (beq v) e ∙ beq_self v) h

pub agrees_set : (p : Decisions) (x : Assignment) (a : ℕ) (v : Bool) → agrees p x ≡ true → get_or x a false ≡ v → agrees (set p a (some v)) x ≡ true
agrees_set [] x a v h e = h
agrees_set (d ∷ p) [] a v h e = absurd (false≢true h)
agrees_set (none ∷ p) (w ∷ x) zero v h e = agrees_first p x w v h e
agrees_set (some u ∷ p) (w ∷ x) zero v h e = agrees_first p x w v ((and-eq-true_iff (beq u w) (agrees p x)).0 h).1 e
agrees_set (none ∷ p) (w ∷ x) (suc a) v h e = agrees_set p x a v h e
agrees_set (some u ∷ p) (w ∷ x) (suc a) v h e =
    let both = (and-eq-true_iff (beq u w) (agrees p x)).0 h in
    ap₂ ◌&&◌ both.0 (agrees_set p x a v both.1 e)

-- ---- one forced atom, and a list of them

-- an assignment agrees so far, and nothing was decided otherwise
pub record Along (x : Assignment) (b : Batch) : Type 0 where
  pub agree : agrees b.decisions x ≡ true
  pub unopposed : b.against ≡ false

along_on : (x : Assignment) (b : Batch) (a : ℕ) (v : Bool) (d : Option Bool) → get_or b.decisions a none ≡ d → get_or x a false ≡ v → Along x b
    → Along x (forced_on b a v d)
along_on x b a v none e h so = record { agree = agrees_set b.decisions x a v so.agree h; unopposed = refl }
along_on x b a v (some w) e h so =
    let same : w ≡ v = sym (agrees_at b.decisions x a w so.agree e) ∙ h in
    record { agree = so.agree; unopposed = ap (λ (u : Bool). not (beq u v)) same ∙ ap not (beq_self v) }

pub along : (x : Assignment) (b : Batch) (fs : List (ℕ × Bool)) → Follows x fs → Along x b → Along x (applied b fs)
unfolding applied
along x b [] follows so = so
along x b (f ∷ fs) follows so =
    along x (next b f) fs follows.1
    (chosen (Along x) b.against b _ (λ e. so) (λ e. along_on x b f.0 f.1 (get_or b.decisions f.0 none) refl follows.0 so))

-- ---- decisions are only gained

gained_on : (b : Batch) (c : ℕ) (w : Bool) (d : Option Bool) → get_or b.decisions c none ≡ d → Gains b.decisions (forced_on b c w d).decisions
gained_on b c w none free = set_gains b.decisions c w free
gained_on b c w (some u) free = λ a v e. e

pub gains : (b : Batch) (fs : List (ℕ × Bool)) → Gains b.decisions (applied b fs).decisions
unfolding applied
gains b [] a v e = e
gains b (f ∷ fs) a v e =
    gains (next b f) fs a v
    (chosen (λ (c : Batch). get_or c.decisions a none ≡ some v) b.against b _ (λ t. e)
    (λ t. gained_on b f.0 f.1 (get_or b.decisions f.0 none) refl a v e))

-- ---- and on the same atoms

forced_length : (b : Batch) (c : ℕ) (w : Bool) (d : Option Bool) → length (forced_on b c w d).decisions ≡ length b.decisions
forced_length b c w none = length-set b.decisions c (some w)
forced_length b c w (some u) = refl

pub applied_length : (b : Batch) (fs : List (ℕ × Bool)) → length (applied b fs).decisions ≡ length b.decisions
unfolding applied
applied_length b [] = refl
applied_length b (f ∷ fs) =
    applied_length (next b f) fs
    ∙ chosen (λ (c : Batch). length c.decisions ≡ length b.decisions) b.against b _ (λ t. refl)
    (λ t. forced_length b f.0 f.1 (get_or b.decisions f.0 none))
