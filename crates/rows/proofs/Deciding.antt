-- Decisions: u undecided atoms leave 2^u assignments, and no decision sees an undecided atom.
use Prim.Native.Nat.{ℕ, zero, suc, ◌<◌}
use mathlib.Core.Path.{◌≡◌, refl, ap}
use mathlib.Core.List.{[], ◌∷◌}
use mathlib.Core.Bool.{true, false, ◌&&◌, beq}
use mathlib.Core.Option.{none, some}
use native.Mathlib.Nat.{pow-suc}
use native.Mathlib.Omega.{arith}
use lib.ListN.{length}
use Rattle.rows.specs.Count.{count}
use Rattle.rows.specs.Decisions.{Decisions, agrees, undecided}
use Rattle.rows.specs.Triangular.{Open}
use Rattle.rows.specs.Promises.{DecisionsLeave}
use Rattle.rows.proofs.Flips.{Blind}
use Rattle.rows.proofs.Counting.{count_none}

pub decisions_leave : DecisionsLeave
unfolding count
decisions_leave [] = refl
decisions_leave (none ∷ p) = omega (arith, pow-suc 2 (undecided p), decisions_leave p)
decisions_leave (some true ∷ p) = omega (arith, count_none (length p), decisions_leave p)
decisions_leave (some false ∷ p) = omega (arith, count_none (length p), decisions_leave p)

pub open_lt : (p : Decisions) (a : ℕ) → Open p a → a < length p
open_lt [] a h = let z : ◌≡◌ {A = ℕ} 0 1 = cc in omega arith
open_lt (d ∷ p) zero h = omega arith
open_lt (d ∷ p) (suc a) h = omega (arith, open_lt p a h)

pub agrees_blind : (p : Decisions) (a : ℕ) → Open p a → Blind (agrees p) a
agrees_blind [] a h x = cc
agrees_blind (d ∷ p) a h [] = refl
agrees_blind (none ∷ p) zero h (v ∷ x) = refl
agrees_blind (some b ∷ p) zero h (v ∷ x) = cc
agrees_blind (none ∷ p) (suc a) h (v ∷ x) = agrees_blind p a h x
agrees_blind (some b ∷ p) (suc a) h (v ∷ x) = ap (◌&&◌ (beq b v)) (agrees_blind p a h x)
